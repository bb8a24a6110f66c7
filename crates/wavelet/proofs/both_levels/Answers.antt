-- `wavelet::both_levels` is the second loop of Table E.1, from whatever band stands on the grid: the invariant is `BothDescending` from it, the measure
-- the depth. What does not depend on the band is taken from the one that stands there at entry. Assumes nothing.
use native.Mathlib.Omega.{arith}
use Rattle.wavelet.specs.Kinds.{steps_of}
use Rattle.wavelet.proofs.Tame.{tame}
use Rattle.wavelet.proofs.Passes.{samples_le}
use Rattle.wavelet.proofs.Descent.{both_begins, both_pass, both_goes_on, descent_ends, descent_bound, standing}
use Rattle.wavelet.proofs.both_levels.Goals as goal

pub loop-d-init : goal.loop-d-init
loop-d-init c = λ l₀ low g. both_begins c.requires.component (steps_of c.args.kind) g c.requires.samples_within

pub both_level-requires : goal.both_level-requires
both_level-requires c =
    let i = c.loop-d.invariant _ _ (standing c.args.w c.args.h c.args.ny c.args.cells.now) in
    record { pass = both_pass c.requires.component i.stands.same c.loop-d-test.true (omega (arith, i.most)); samples_within = samples_le i.within (omega (arith, descent_bound i (omega arith))) }

pub loop-d-preserved : goal.loop-d-preserved
loop-d-preserved c =
    λ l₀ low g.
    both_goes_on c.requires.component (tame c.args.kind) (c.loop-d.invariant l₀ low g) c.loop-d-test.true c.both_level.ensures

pub returns : goal.returns
returns c = record { made = λ {l₀} {low} g. descent_ends (c.loop-d.invariant l₀ low g) c.loop-d-test.false }
