-- `header::weights::Weights::read`: the loop fills both arrays, and counts the existing bands passed. Assumes nothing.
use mathlib.Core.Bool.{cond}
use mathlib.Core.Path.{◌≡◌, refl, ◌∙◌}
use native.Mathlib.Omega.{arith}
use lib.Dec.{lit≤}
use borrow.Author.Rules.{rules}
use Rattle.segments.specs.Bands.{existing}
use Rattle.segments.specs.Weights.{gain_at, priority_at}
use Rattle.segments.proofs.BandLaws.{existing_more}
use Rattle.segments.proofs.NumberLaws.{cond_le}
use Rattle.header.specs.Header.{band_is}
use Rattle.whole.proofs.Lists.{filled_none, filled_more, filled_all}
use Rattle.header.proofs.weights.Weights.read.Goals as goal

pub loop-b-init : goal.loop-b-init
unfolding existing
loop-b-init c =
    (refl, omega arith, filled_none refl, filled_none refl)

pub bounds-gains-b : goal.bounds-gains-b
bounds-gains-b c =
    omega (arith, c.loop-b.invariant.2.long, c.loop-b-test.true)

pub bounds-priorities-b : goal.bounds-priorities-b
bounds-priorities-b c =
    omega (arith, c.loop-b.invariant.3.long, c.loop-b-test.true)

pub loop-b-preserved : goal.loop-b-preserved
loop-b-preserved c =
    let l = c.loop-b in
    let a = c.args in
    let s = a.s.now in
    let is = c.is_band-is.ensures in
    let one : c.from-k.result ≡ cond c.is_band-is.result 1 0 = search rules in
    let g = c.byte_if.ensures ∙ (λ i. cond (is i) (gain_at s a.wgt (l.invariant.0 i)) 0) in
    let p = c.byte_if-in-loop-b.ensures ∙ (λ i. cond (is i) (priority_at s a.wgt (l.invariant.0 i)) 0) in (
      existing_more (band_is s a.h a.cdt) l.b l.invariant.0 (one ∙ (λ i. cond (is i) 1 0)),
      omega (arith, l.invariant.1, cond_le c.is_band-is.result 1 0 1 (lit≤ tt) (lit≤ tt) one),
      filled_more l.invariant.2 c.loop-b-test.true g,
      filled_more l.invariant.3 c.loop-b-test.true p,
    )

pub returns : goal.returns
returns c =
    let l = c.loop-b in
    let e : l.b ≡ 40 = omega arith in
    λ i. record { gains = filled_all l.invariant.2 e i; priorities = filled_all l.invariant.3 e i }
