-- `colour::inverse_rct` meets its contract. The invariant: the first x pixels are transformed, and no other cell has changed. Assumes nothing.
use mathlib.Core.Path.{sym, subst}
use Rattle.colour.specs.Kinds.{Holds}
use Rattle.colour.proofs.Pass.{pass_here, pass_goes_on}
use Rattle.colour.proofs.inverse_rct.Goals as goal

pub pixel_at-requires-clause-small : goal.pixel_at-requires-clause-small
pixel_at-requires-clause-small c =
    let s = c.requires.stretches in
    let here = pass_here s c.loop-x.invariant c.loop-x-test.true in
    (rw here (s.small _ c.loop-x-test.true), λ k. subst Holds (sym here) ((c.requires.holding_numbers k).holds _ c.loop-x-test.true))

pub loop-x-preserved : goal.loop-x-preserved
loop-x-preserved c =
    rw c.pixel_at.ensures (pass_goes_on c.requires.stretches c.loop-x.invariant c.loop-x-test.true)
