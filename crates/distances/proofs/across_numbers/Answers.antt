-- `distances::across_numbers` is the first loop of Table E.1: the invariant is `Descending`. Assumes nothing.
use mathlib.Core.Path.{◌≡◌, ap, ◌∙◌}
use Prim.Native.Nat.{ℕ, suc, ◌-◌, ◌^◌, ◌≤◌, ◌<◌}
use native.Mathlib.Omega.{arith}
use lib.ListN.{get_or}
use Rattle.quantiser.specs.Distance.{band_number}
use Rattle.wavelet.specs.Transform.{LL, down}
use Rattle.wavelet.specs.Distance.{joined}
use Rattle.layout.specs.Bands.{band}
use Rattle.distances.specs.Rule.{number_of}
use Rattle.distances.specs.Steps.{across_turn}
use Rattle.distances.proofs.Descent.{Descending, descent_goes_on, descent_ends}
use Rattle.distances.proofs.across_numbers.Goals.{After-joined-low}
use Rattle.distances.proofs.across_numbers.Goals as goal

-- a turn: `low` joins what stands at the depth d, and the next depth is e
next : (c : After-joined-low) {e : ℕ} → c.loop-d.d ≡ suc e
    → Descending (across_turn c.args.s c.args.fq c.args.tops c.args.i c.args.ny) c.args.ny (c.args.s.nlx - c.args.ny)
    (number_of c.args.s c.args.fq c.args.tops c.args.i LL c.args.s.nlx c.args.ny) (2 ^ 46) e c.joined-low.result
next c p =
    let a = c.args in
    let hl = c.number_of-hl.ensures in
    let t = c.type_across.ensures in
    descent_goes_on c.loop-d.invariant p (omega (arith, c.loop-d-test.true))
    (c.joined-low.ensures ∙ ap (joined c.loop-d.low) (hl.0 ∙ (λ j. band_number (get_or a.tops (band a.s (t j) a.i) 0) a.fq)))
    (omega (arith, c.joined-low.ensures, hl.1))

pub loop-d-preserved : goal.loop-d-preserved
loop-d-preserved c = next (goal.at.loop-d-preserved c).After-joined-low (omega (arith, c.loop-d-test.true))

ends : {turn : ℕ → ℕ → ℕ} {to n first d low : ℕ} → Descending turn to n first (2 ^ 46) d low → d ≤ to → n ≤ 5 → (low ≡ down turn to n first) × (low < 2 ^ 52)
ends i h few = (descent_ends i h, omega (arith, i.small, i.least))

pub returns : goal.returns
returns c = ends c.loop-d.invariant (omega (arith, c.loop-d-test.false)) (omega (arith, c.requires.0.built.levels))

-- the loop ends here too, behind the least depth, which it does not count down from
pub returns-2 : goal.returns-2
returns-2 c = ends (next (goal.at.returns-2 c).After-joined-low {e = c.args.ny} (omega arith)) (omega arith) (omega (arith, c.requires.0.built.levels))
