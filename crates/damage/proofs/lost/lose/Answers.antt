-- `lost::lose` meets its contract. The invariant: the components before i have lost the slice. Assumes nothing.
use mathlib.Core.Path.{refl}
use Rattle.damage.specs.Lost.{lose_before}
use Rattle.damage.proofs.Losses.{before_more}
use Rattle.damage.proofs.lost.lose.Goals as goal

pub loop-i-init : goal.loop-i-init
unfolding lose_before
loop-i-init c = refl

pub loop-i-preserved : goal.loop-i-preserved
loop-i-preserved c =
    let l = c.loop-i in
    before_more c.args.s c.args.t l.i c.args.cells.now l.invariant c.lose_rows.ensures
