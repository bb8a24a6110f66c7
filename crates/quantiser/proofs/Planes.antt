-- D.6's count of bitplanes: the least k with v below 2 ^ k, and what the leading zeros of a word leave. Assumes nothing.
use mathlib.Core.Path.{◌≡◌, refl, sym, ap, ◌∙◌, subst}
use Prim.Native.Nat.{ℕ, zero, suc, ◌+◌, ◌/◌, ◌^◌, ◌≤◌, ◌<◌}
use native.Mathlib.Nat.{le_refl, lt_of_le_of_lt, not-suc-le-zero, add-suc, pow-suc}
use native.Mathlib.Numerals.{add-one}
use native.Mathlib.Omega.{arith}
use lib.Arith.{half_le, lt-one}
use lib.Pow.{pow_pos, shr_lt}
use lib.Count.{count_leading_zeros}
use Rattle.quantiser.specs.Forward.{halvings, planes}

none : (f : ℕ) → halvings f 0 ≡ 0
unfolding halvings
none zero = refl
none (suc f) = refl

-- v has no more than its halvings planes
covered : (f v : ℕ) → v ≤ f → v < 2 ^ halvings f v
unfolding halvings
covered zero v h = omega arith
covered (suc f) zero h = pow_pos 0
covered (suc f) (suc v) h =
    omega (arith, covered f (suc v / 2) (half_le h), pow-suc 2 (halvings f (suc v / 2)))

-- the leading zeros of v's k digits and its halvings make k
counted : (k f v : ℕ) → v < 2 ^ k → v ≤ f → count_leading_zeros k v + halvings f v ≡ k
unfolding halvings count_leading_zeros
counted zero f v h l = omega (arith, ap (halvings f) (lt-one h) ∙ none f)
counted (suc k) f zero h l = omega (arith, none f)
counted (suc k) zero (suc v) h l = absurd (not-suc-le-zero l)
counted (suc k) (suc f) (suc v) h l =
    add-suc (count_leading_zeros k (suc v / 2)) (halvings f (suc v / 2))
    ∙ ap suc (counted k f (suc v / 2) (shr_lt k 1 (subst (λ (x : ℕ). suc v < 2 ^ x) (sym (add-one k)) h)) (half_le l))

pub below_planes : (v : ℕ) → v < 2 ^ planes v
unfolding planes
below_planes v = covered v v (le_refl v)

pub planes_leading : (k v : ℕ) → v < 2 ^ k → count_leading_zeros k v + planes v ≡ k
unfolding planes
planes_leading k v h = counted k v v h (le_refl v)

pub planes_least : (k v : ℕ) → v < 2 ^ k → planes v ≤ k
planes_least k v h = omega (arith, planes_leading k v h)

pub planes_mono : {v w : ℕ} → v ≤ w → planes v ≤ planes w
planes_mono {v} {w} h = planes_least (planes w) v (lt_of_le_of_lt h (below_planes w))
