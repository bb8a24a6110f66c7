-- `segments::weights::existing_bands` meets its contract. Assumes nothing.
use mathlib.Core.Bool.{cond}
use mathlib.Core.Path.{◌≡◌, refl, ◌∙◌}
use native.Mathlib.Omega.{arith}
use lib.Dec.{lit≤}
use borrow.Author.Rules.{rules}
use Rattle.segments.specs.Bands.{existing}
use Rattle.segments.specs.Weights.{band_in}
use Rattle.segments.proofs.BandLaws.{existing_more}
use Rattle.segments.proofs.NumberLaws.{cond_le}
use Rattle.segments.proofs.weights.existing_bands.Goals as goal

pub loop-b-init : goal.loop-b-init
unfolding existing
loop-b-init c = (refl, omega arith)

pub loop-b-preserved : goal.loop-b-preserved
loop-b-preserved c =
    let l = c.loop-b in
    let a = c.args in
    let one : c.from-n.result ≡ cond c.band_exists.result 1 0 = search rules in
    let r = one ∙ (λ i. cond (c.band_exists.ensures i) 1 0) in
    (existing_more (band_in a.s.now a.h a.cdt) l.b l.invariant.0 r, omega (arith, l.invariant.1, cond_le c.band_exists.result 1 0 1 (lit≤ tt) (lit≤ tt) one))
