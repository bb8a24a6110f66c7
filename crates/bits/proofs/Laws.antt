-- Laws of fields, each over the width. Assumes nothing.
use Prim.Native.Nat.{ℕ, zero, suc, ◌+◌, ◌-◌, ◌*◌, ◌/◌, ◌%◌, ◌^◌, ◌≤◌, ◌<◌}
use mathlib.Core.Path.{◌≡◌, refl, sym, ◌∙◌}
use mathlib.Core.List.{List}
use native.Mathlib.Omega.{arith}
use native.Mathlib.Nat.{add-zero, add-suc, add_assoc, mul_assoc, pow-suc, zero-div, div-div-eq-div-mul, lt_of_lt_of_le}
use lib.Dec.{lit<, lit≤}
use lib.ListN.{length, get_or, get_or-eq_default}
use lib.Pow.{pow_mono, high, low}
use Rattle.bits.specs.Fields.{bit_at, field, IsField}

-- ---- u(n) by itself

module _ (s : List ℕ) where
  -- u(n) is below 2 ^ n
  pub field_lt : (i n : ℕ) → field s i n < 2 ^ n
  unfolding field bit_at
  field_lt i zero = lit< tt
  field_lt i (suc n) = rw pow-suc (omega (arith, field_lt i n))

  -- u(1) is the bit
  pub field_one : (i : ℕ) → field s i 1 ≡ bit_at s i
  unfolding field
  field_one i = rw add-zero (omega arith)

  -- u(n + m) is u(n) and then u(m)
  pub field_join : (i n m : ℕ) → field s i (n + m) ≡ field s i n * 2 ^ m + field s (i + n) m
  unfolding field
  field_join i n zero = rw add-zero (omega arith)
  field_join i n (suc m) = rw (add-suc, field_join i n m, pow-suc, add_assoc, ← mul_assoc) (omega arith)

  -- and so u(n) is what is left when the m bits behind it are shifted out, and u(m) when the n bits before it are masked off
  pub field_first : (i n m : ℕ) → field s i (n + m) / 2 ^ m ≡ field s i n
  field_first i n m = rw (field_join i n m) (high (field s i n) m (field_lt (i + n) m))

  pub field_last : (i n m : ℕ) → field s i (n + m) % 2 ^ m ≡ field s (i + n) m
  field_last i n m = rw (field_join i n m) (low (field s i n) m (field_lt (i + n) m))

  -- past the end every field is 0
  pub field_past : (i n : ℕ) → 8 * length s ≤ i → field s i n ≡ 0
  unfolding field bit_at
  field_past i zero h = refl
  field_past i (suc n) h =
      let b : length s ≤ (i + n) / 8 = omega arith in
      rw (field_past i n h, get_or-eq_default s 0 b, zero-div)

  -- the first k bits of a byte are what is left of it without the others
  first_bits : (at k : ℕ) → k ≤ 8 → get_or s at 0 < 256 → field s (8 * at) k ≡ get_or s at 0 / 2 ^ (8 - k)
  unfolding field bit_at
  first_bits at zero h b = omega arith
  first_bits at (suc k) h b =
      let e : 8 - k ≡ suc (7 - k) = omega arith in
      let f : 8 - suc k ≡ 7 - k = omega arith in
      let q : (8 * at + k) / 8 ≡ at = omega arith in
      let r : (8 * at + k) % 8 ≡ k = omega arith in
      let d : get_or s at 0 / 2 ^ (8 - k) ≡ get_or s at 0 / 2 ^ (7 - k) / 2 = rw (e, pow-suc) (sym (div-div-eq-div-mul _ _ _)) in
      rw (f, first_bits at k (omega arith) b, d, q, r) (omega arith)

  -- u(8) at a place is the byte there
  pub field_byte : (at : ℕ) → get_or s at 0 < 256 → field s (8 * at) 8 ≡ get_or s at 0
  field_byte at b = first_bits at 8 (lit≤ tt) b ∙ omega arith

-- ---- the same of a reader's answer

module _ {s : List ℕ} where
  pub is_field : {i n r : ℕ} → r ≡ field s i n → IsField s i n r
  is_field {i} {n} e = record { value = e; below = rw e (field_lt s i n) }

  pub is_byte : (at : ℕ) → get_or s at 0 < 256 → IsField s (8 * at) 8 (get_or s at 0)
  is_byte at b = is_field (sym (field_byte s at b))

  -- at a bit that is the same
  pub is_moved : {i j n r : ℕ} → IsField s i n r → j ≡ i → IsField s j n r
  is_moved x e = rw e x

  -- below any power from its own on
  pub is_within : {i n m r : ℕ} → IsField s i n r → n ≤ m → r < 2 ^ m
  is_within x h = lt_of_lt_of_le x.below (pow_mono h)

  pub is_none : (i : ℕ) → IsField s i 0 0
  unfolding field
  is_none i = is_field refl

  pub is_past : (at n : ℕ) → length s ≤ at → IsField s (8 * at) n 0
  is_past at n h = is_field (sym (field_past s (8 * at) n (omega arith)))

  -- two fields of which one begins where the other ends
  pub is_joined : {i n j m w a b : ℕ} → IsField s i n a → IsField s j m b → j ≡ i + n → w ≡ n + m → IsField s i w (a * 2 ^ m + b)
  is_joined {i} {n} {j} {m} x y e f = is_field (rw (f, field_join s i n m, ← e, ← x.value, ← y.value))

  -- the parts of a field that was read: the first n bits, the last n, and n in the middle
  pub is_first : {i n w r : ℕ} (m : ℕ) → IsField s i w r → w ≡ n + m → IsField s i n (r / 2 ^ m)
  is_first {i} {n} m x f = is_field (rw (x.value, f) (field_first s i n m))

  pub is_last : {i w r j n : ℕ} (k : ℕ) → IsField s i w r → w ≡ k + n → j ≡ i + k → IsField s j n (r % 2 ^ n)
  is_last {i} {n = n} k x f e = is_field (rw (x.value, f, e) (field_last s i k n))

  pub is_part : {i w r j n : ℕ} (k m : ℕ) → IsField s i w r → w ≡ k + n + m → j ≡ i + k → IsField s j n (r / 2 ^ m % 2 ^ n)
  is_part {n = n} k m x f e = is_last k (is_first {n = k + n} m x f) refl e
