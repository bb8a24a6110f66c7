-- `distances::both_numbers` is the second loop of Table E.1: the invariant is `Descending`. Assumes nothing.
use native.Mathlib.Omega.{arith}
use Rattle.distances.proofs.Descent.{descent_goes_on, descent_ends}
use Rattle.distances.proofs.both_numbers.Goals as goal

pub loop-d-preserved : goal.loop-d-preserved
loop-d-preserved c =
    let t = c.loop-d-test.true in
    descent_goes_on c.loop-d.invariant (omega arith) t c.both_number-low.ensures.0 c.both_number-low.ensures.1

pub returns : goal.returns
returns c = descent_ends c.loop-d.invariant (omega (arith, c.loop-d-test.false))
