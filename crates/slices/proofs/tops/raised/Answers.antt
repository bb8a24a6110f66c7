use mathlib.Core.Path.{refl}
use Rattle.slices.specs.Precinct.{raised}
use Rattle.slices.proofs.PrecinctLaws.{raised_next}
use Rattle.slices.proofs.tops.raised.Goals as goal

pub loop-b-init : goal.loop-b-init
unfolding raised
loop-b-init c = refl

pub loop-b-preserved : goal.loop-b-preserved
loop-b-preserved c =
    let a = c.args in
    let l = c.loop-b in
    raised_next a.c a.p l.b a.tops l.invariant c.raised_at.ensures
