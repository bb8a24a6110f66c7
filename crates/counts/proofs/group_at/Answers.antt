-- `counts::group_at` meets its contract: Table C.8, with one way for both predictions. Assumes nothing.
use mathlib.Core.Path.{sym, ◌∙◌}
use native.Mathlib.Omega.{arith}
use Rattle.counts.proofs.Lines.{cell_inside, raw_is, below_is}
use Rattle.counts.proofs.group_at.Goals as goal

pub returns-then-is_raw : goal.returns-then-is_raw
returns-then-is_raw c = c.read_raw.ensures ∙ raw_is _ _ _ _ _ _ _ _ _ (sym c.is_raw.ensures ∙ c.if-is_raw.true)

pub looked_at-above-requires : goal.looked_at-above-requires
looked_at-above-requires c =
    (cell_inside c.args.g c.requires.0 c.requires.1, omega (arith, c.requires.0.narrow, c.requires.1), c.requires.0.above)

pub returns : goal.returns
returns c =
    below_is _ _ _ _ _ _ _ _ _ (sym c.is_raw.ensures ∙ c.if-is_raw.false) c.looked_at-above.ensures
    c.is_insignificant.ensures c.read_vertical.ensures
