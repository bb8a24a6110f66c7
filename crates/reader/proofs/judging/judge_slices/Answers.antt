-- `reader::judging::judge_slices` meets its contract. Assumes nothing.
use mathlib.Core.Path.{refl, sym, ap, ◌∙◌}
use Prim.Native.Nat.{ℕ}
use lib.IntN.{pos}
use lib.ListN.{replicate}
use Rattle.reader.proofs.Decoded.{left_long}
use Rattle.reader.proofs.judging.judge_slices.Goals as goal

pub returns : goal.returns
returns c =
    let found = c.decode_slices-r.ensures.is in (
      record { verdict = λ i. (sym found i).0; header = refl; tops = λ i. (sym found i).1.1 },
      c.clear.ensures ∙ ap (λ (n : ℕ). replicate n (pos 0)) (left_long c.requires.0 c.args.damaged found ∙ sym c.requires.1),
    )
