-- The bitplanes of a group, from the first on as the code reads them, and the bits of a nibble. Assumes nothing.
use mathlib.Core.Path.{◌≡◌, refl, ◌∙◌}
use mathlib.Core.Bool.{Bool, true, false, not, cond}
use mathlib.Core.List.{List}
use mir.Val.{bool_byte}
use Prim.Native.Nat.{ℕ, zero, suc, ◌+◌, ◌-◌, ◌*◌, ◌/◌, ◌%◌, ◌^◌, ◌≤◌, ◌<◌}
use native.Mathlib.Nat.{lt_of_lt_of_le, add-zero, pow-suc, mul_assoc, mul-le-mul_right, one-mul}
use native.Mathlib.Numerals.{add-one}
use native.Mathlib.Omega.{arith}
use lib.Dec.{lit<}
use lib.Pow.{pow_mono}
use Rattle.bits.specs.Fields.{bit_at, IsField}
use Rattle.bits.proofs.Laws.{field_lt, field_one, is_part}
use Rattle.values.specs.Group.{planes}

pub bit_lt : (s : List ℕ) (i : ℕ) → bit_at s i < 2
bit_lt s i = rw (field_one s i) at (field_lt s i 1)

pub below_four : (P : ℕ → Type 0) → P 0 → P 1 → P 2 → P 3 → (k : ℕ) → k < 4 → P k
below_four P a b c d zero h = a
below_four P a b c d (suc zero) h = b
below_four P a b c d (suc (suc zero)) h = c
below_four P a b c d (suc (suc (suc zero))) h = d
below_four P a b c d (suc (suc (suc (suc k)))) h = absurd (omega arith)

-- bit k of four that were read
pub four_bit : {s : List ℕ} {i r : ℕ} (k : ℕ) → k ≤ 3 → IsField s i 4 r → r / 2 ^ (3 - k) % 2 ≡ bit_at s (i + k)
four_bit {s} {i} k h x = (is_part {j = i + k} {n = 1} k (3 - k) x (omega arith) refl).value ∙ field_one s (i + k)

module _ (dat : List ℕ) where
  -- n planes make a number below 2 ^ n
  pub planes_lt : (from n k : ℕ) → planes dat from n k < 2 ^ n
  unfolding planes
  planes_lt from zero k = lit< tt
  planes_lt from (suc i) k =
      let b : bit_at dat (4 * from + k) ≤ 1 = omega (arith, bit_lt dat (4 * from + k)) in
      rw pow-suc (omega (arith, planes_lt (from + 1) i k, mul-le-mul_right (2 ^ i) b, one-mul (2 ^ i)))

  -- the next plane is the lowest
  pub planes_more : (from n k : ℕ) → planes dat from (suc n) k ≡ 2 * planes dat from n k + bit_at dat (4 * (from + n) + k)
  unfolding planes
  planes_more from zero k = rw (add-zero from) (omega arith)
  planes_more from (suc i) k =
      let e : 4 * (from + 1 + i) + k ≡ 4 * (from + suc i) + k = omega arith in
      rw (planes_more (from + 1) i k, e, pow-suc, ← mul_assoc) (omega arith)

-- a size after n planes of at most 31
pub record Sized (dat : List ℕ) (from n k v : ℕ) : Type 0 where
  pub value : v ≡ planes dat from n k
  pub small : v < 2 ^ 31

pub sized : {dat : List ℕ} {from n k v : ℕ} → n ≤ 31 → v ≡ planes dat from n k → Sized dat from n k v
sized {dat} {from} {n} {k} h e = record { value = e; small = rw e (lt_of_lt_of_le (planes_lt dat from n k) (pow_mono {i = n} {j = 31} h)) }

-- the nibble r has one more
pub more_sized : {dat : List ℕ} {from n r v : ℕ} (k : ℕ) {w : ℕ} → Sized dat from n k v → IsField dat (4 * (from + n)) 4 r → k ≤ 3 → n < 31
    → w ≡ 2 * v + r / 2 ^ (3 - k) % 2 → Sized dat from (n + 1) k w
more_sized {dat} {from} {n} k q x h l e = rw (add-one n) (sized (omega arith) (omega (arith, planes_more dat from n k, four_bit k h x, q.value)))

-- the number of a test that says no
pub bit_is : (b : Bool) {r : ℕ} → r ≡ bool_byte (not b) → (r ≡ cond b 0 1) × (r ≤ 1)
bit_is true e = (e, omega (arith, e))
bit_is false e = (e, omega (arith, e))
