-- `lost::lost_numbers` meets its contract. The invariant: the coefficients of the components before i have become numbers. Assumes nothing.
use native.Mathlib.Omega.{arith}
use Rattle.layout.proofs.Cells.{starts_up}
use Rattle.damage.proofs.Numbering.{numbers_more}
use Rattle.damage.proofs.lost.lost_numbers.Goals as goal

pub numbers_from-requires : goal.numbers_from-requires
numbers_from-requires c =
    let l = c.loop-i in
    omega (arith, c.area_of.ensures.0, c.samples_before.ensures.0, starts_up c.args.s l.i c.args.s.nc c.loop-i-test.true, c.requires.1, l.invariant.same)

pub loop-i-preserved : goal.loop-i-preserved
loop-i-preserved c =
    numbers_more c.args.s c.loop-i.invariant c.samples_before.ensures.0 c.area_of.ensures.0 c.numbers_from.ensures
