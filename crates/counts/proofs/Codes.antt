-- Laws of the variable length code: its 1-bits by windows of any width, and the quantity that they are. Assumes nothing.
use Prim.Native.Nat.{ℕ, zero, suc, ◌+◌, ◌-◌, ◌*◌, ◌/◌, ◌%◌, ◌^◌, ◌≤◌, ◌<◌, min}
use mathlib.Core.Path.{◌≡◌, refl, sym, ap, ◌∙◌}
use mathlib.Core.Bool.{cond}
use mathlib.Core.Logic.{◌⊎◌, inl, inr, ⊎_elim}
use mathlib.Core.List.{List}
use native.Mathlib.Omega.{arith}
use native.Mathlib.Nat.{add-zero, add-suc, zero-add, suc-add, sub-zero, pow-suc, mul_assoc, zero-mul, mul-pos}
use native.Mathlib.Numerals.{add-one}
use native.Mathlib.Decide.{dec_le}
use borrow.Author.Tests.{lt-ltb, le-ltb, eq-eqb, ne_eqb}
use lib.Count.{count_leading_zeros, leading_of_zero, leading_le, leading_top, leading_length, leading_unique}
use lib.Pow.{pow_pos}
use lib.Dec.{ltb, eqb}
use lib.IntN.{pos, neg_ℤ, ◌+ℤ◌, ◌-ℤ◌}
use lib.ListN.{length}
use mir.Syntax.{w64}
use mir.Val.{Fits}
use Rattle.whole.proofs.Linear.{add_z, sub_z, eq_z}
use Rattle.bits.specs.Fields.{bit_at, field, IsField}
use Rattle.bits.proofs.Laws.{field_lt, field_one, field_past, is_last}
use Rattle.counts.specs.Codes.{ones, vlc}
use Rattle.counts.specs.Steps.{Ahead}

-- ---- leading zeros: of a number's half, of 0 alone, and in a wider word

lead_half : (w x : ℕ) → 0 < x → count_leading_zeros (suc w) x ≡ count_leading_zeros w (x / 2)
unfolding count_leading_zeros
lead_half w zero h = absurd (omega arith)
lead_half w (suc x) h = refl

-- the zeros of 2x + d, one digit more than x
lead_digit : (w x d : ℕ) → 0 < x → d < 2 → count_leading_zeros (suc w) (2 * x + d) ≡ count_leading_zeros w x
lead_digit w x d p h =
    let e : (2 * x + d) / 2 ≡ x = omega arith in
    lead_half w (2 * x + d) (omega arith) ∙ ap (count_leading_zeros w) e

lead_last : (w x d : ℕ) → x ≡ 0 → d < 2 → count_leading_zeros (suc w) (2 * x + d) ≡ w + (1 - d)
lead_last w x zero e h = rw (e, leading_of_zero (suc w)) (omega arith)
lead_last w x (suc d) e h =
    let one : 2 * x + suc d ≡ 1 = omega arith in
    rw (one, lead_half w 1 (omega arith), leading_of_zero w) (omega arith)

lead_full : (w x : ℕ) → x < 2 ^ w → count_leading_zeros w x ≡ w → x ≡ 0
lead_full w zero h e = refl
lead_full w (suc x) h e = let top = leading_top w (suc x) (omega arith) h in absurd (omega (arith, top.1))

lead_part : (w x : ℕ) → count_leading_zeros w x < w → 0 < x
lead_part w zero h = absurd (omega (arith, leading_of_zero w))
lead_part w (suc x) h = omega arith

lead_wide : (k w x : ℕ) → w ≤ k → x < 2 ^ w → count_leading_zeros k x ≡ k - w + count_leading_zeros w x
lead_wide k w x g h =
    let l = leading_length w x h in
    sym (leading_unique k x (k - w + count_leading_zeros w x) l.0 (omega (arith, l.1)) l.2 l.3)

-- zeros behind change nothing in front
lead_shift : (w p y : ℕ) → 0 < y → count_leading_zeros (w + p) (y * 2 ^ p) ≡ count_leading_zeros w y
lead_shift w zero y h = rw (add-zero w) (ap (count_leading_zeros w) (omega arith))
lead_shift w (suc p) y h =
    let half : y * 2 ^ suc p / 2 ≡ y * 2 ^ p = rw (pow-suc, ← mul_assoc) (omega arith) in
    rw add-suc (lead_half (w + p) (y * 2 ^ suc p) (mul-pos h (pow_pos (suc p))) ∙ ap (count_leading_zeros (w + p)) half ∙ lead_shift w p y h)

-- as many as a word of 64 bits has at most
pub zeros_fit : (x : ℕ) → Fits w64 (count_leading_zeros 64 x)
zeros_fit x = record { fits = omega (arith, leading_le 64 x) }

-- ---- the 1-bits

module _ (s : List ℕ) where
  bit_is : (i : ℕ) → (bit_at s i ≡ 0) ⊎ (bit_at s i ≡ 1)
  bit_is i = pick (bit_at s i) (omega (arith, field_one s i, field_lt s i 1))
    where
      pick : (b : ℕ) → b < 2 → (b ≡ 0) ⊎ (b ≡ 1)
      pick zero h = inl refl
      pick (suc b) h = inr (omega arith)

  none : (i n : ℕ) → bit_at s i ≡ 0 → ones s i n ≡ 0
  unfolding ones
  none i zero e = refl
  none i (suc n) e = rw e

  more : (i n : ℕ) → bit_at s i ≡ 1 → ones s i (suc n) ≡ suc (ones s (i + 1) n)
  unfolding ones
  more i n e = rw e

  pub ones_none : (i : ℕ) → ones s i 0 ≡ 0
  unfolding ones
  ones_none i = refl

  ones_one : (i : ℕ) → ones s i 1 ≡ bit_at s i
  ones_one i = ⊎_elim (λ e. none i 1 e ∙ sym e) (λ e. more i 0 e ∙ ap suc (ones_none (i + 1)) ∙ sym e) (bit_is i)

  -- past the end there is none
  pub ones_past : (i n : ℕ) → 8 * length s ≤ i → ones s i n ≡ 0
  ones_past i n h = none i n (sym (field_one s i) ∙ field_past s i 1 h)

  -- from one limit to another, unless the first cut the count short
  pub ones_cap : (i a l : ℕ) → (a ≤ ones s i a → l ≤ a) → ones s i l ≡ min l (ones s i a)
  ones_cap i zero l h =
      let e : l ≡ 0 = omega (arith, h (omega arith)) in
      rw (e, ones_none i)
  ones_cap i (suc a) zero h = rw (ones_none i) (omega arith)
  ones_cap i (suc a) (suc l) h =
      ⊎_elim
      (λ e. rw (none i (suc l) e, none i (suc a) e) (omega arith))
      (λ e. rw (more i l e, more i a e) (omega (arith, ones_cap (i + 1) a l (λ k. omega (arith, h (omega (arith, more i a e)))))))
      (bit_is i)

  -- a limit that is met holds 1-bits alone, and the count goes on behind it
  pub ones_join : (i a l : ℕ) → ones s i a ≡ a → ones s i (a + l) ≡ a + ones s (i + a) l
  ones_join i zero l h = rw (zero-add, add-zero, zero-add)
  ones_join i (suc a) l h =
      ⊎_elim
      (λ e. absurd (omega (arith, none i (suc a) e)))
      (λ e.
      let k : ones s (i + 1) a ≡ a = omega (arith, more i a e) in
      let j : i + 1 + a ≡ i + suc a = omega arith in
      rw (suc-add, more i (a + l) e, ones_join (i + 1) a l k, j) (omega arith))
      (bit_is i)

  pub ones_le : (i a : ℕ) → ones s i a ≤ a
  ones_le i a = omega (arith, ones_cap i a a (λ k. omega arith))

  -- a window of w bits behind n 1-bits: it is full, or the 1-bits end in it
  module _ (at n w k : ℕ) (h : ones s at n ≡ n) (e : k ≡ ones s (at + n) w) where
    joined : ones s at (n + w) ≡ n + k
    joined = ones_join at n w h ∙ ap (λ (x : ℕ). n + x) (sym e)

    pub ones_full : w ≤ k → ones s at (n + k) ≡ n + k
    ones_full f =
        let g : k ≡ w = omega (arith, ones_le (at + n) w) in
        ap (λ (x : ℕ). ones s at (n + x)) g ∙ joined

    pub ones_ended : (limit : ℕ) → k < w → ones s at limit ≡ min limit (n + k)
    ones_ended limit f = rw (← joined) (ones_cap at (n + w) limit (λ g. absurd (omega (arith, joined))))

  -- one bit more: x is the window of w bits, turned round
  window_more : (i w x : ℕ) → x < 2 ^ w → ones s i w ≡ count_leading_zeros w x → ones s i (suc w) ≡ count_leading_zeros (suc w) (2 * x + (1 - bit_at s (i + w)))
  window_more i w x h e = ⊎_elim full some (decide (ones_le i w))
    where
      decide : {a b : ℕ} → a ≤ b → (a ≡ b) ⊎ (a < b)
      decide {a} {b} h = pick (dec_le b a)
        where
          pick : Dec (b ≤ a) → (a ≡ b) ⊎ (a < b)
          pick (yes k) = inl (omega arith)
          pick (no n) = inr (omega arith)

      full : ones s i w ≡ w → ones s i (suc w) ≡ count_leading_zeros (suc w) (2 * x + (1 - bit_at s (i + w)))
      full a =
          rw (← add-one w, ones_join i w 1 a, ones_one (i + w), add-one w, lead_last w x (1 - bit_at s (i + w)) (lead_full w x h (sym e ∙ a)) (omega arith))
          (omega (arith, field_one s (i + w), field_lt s (i + w) 1))

      some : ones s i w < w → ones s i (suc w) ≡ count_leading_zeros (suc w) (2 * x + (1 - bit_at s (i + w)))
      some a =
          rw (lead_digit w x (1 - bit_at s (i + w)) (lead_part w x (rw e at a)) (omega arith), ← e)
          (omega (arith, ones_cap i w (suc w) (λ k. omega arith)))

  -- in a window of w bits: turned round, it begins with as many zeros
  pub ones_window : (i w : ℕ) → ones s i w ≡ count_leading_zeros w (2 ^ w - 1 - field s i w)
  unfolding field count_leading_zeros
  ones_window i zero = ones_none i
  ones_window i (suc w) =
      let turned : 2 ^ suc w - 1 - field s i (suc w) ≡ 2 * (2 ^ w - 1 - field s i w) + (1 - bit_at s (i + w)) =
      rw pow-suc (omega (arith, field_lt s i w, field_one s (i + w), field_lt s (i + w) 1)) in
      rw turned (window_more i w _ (omega (arith, field_lt s i w)) (ones_window i w))

-- the same of a window that was read, in a word of k bits
pub ones_read : {s : List ℕ} {i w r : ℕ} (k : ℕ) → w ≤ k → IsField s i w r → count_leading_zeros k (2 ^ w - 1 - r) ≡ k - w + ones s i w
ones_read {s} {i} {w} k h x = rw (x.value, ones_window s i w) (lead_wide k w _ h (omega (arith, pow_pos w)))

-- a word of 64 bits, turned round and shifted by p, is its last 64 - p bits turned round
turned_shift : (e : ℕ) → e < 2 ^ 64 → (p : ℕ) → p < 8 → (2 ^ 64 - 1 - e) * 2 ^ p % 2 ^ 64 ≡ (2 ^ (64 - p) - 1 - e % 2 ^ (64 - p)) * 2 ^ p
turned_shift e h zero l = omega arith
turned_shift e h (suc zero) l = omega arith
turned_shift e h (suc (suc zero)) l = omega arith
turned_shift e h (suc (suc (suc zero))) l = omega arith
turned_shift e h (suc (suc (suc (suc zero)))) l = omega arith
turned_shift e h (suc (suc (suc (suc (suc zero))))) l = omega arith
turned_shift e h (suc (suc (suc (suc (suc (suc zero)))))) l = omega arith
turned_shift e h (suc (suc (suc (suc (suc (suc (suc zero))))))) l = omega arith
turned_shift e h (suc (suc (suc (suc (suc (suc (suc (suc p)))))))) l = absurd (omega arith)

-- and so of the window behind the word's first p bits, shifted to its top
pub ones_shifted : {s : List ℕ} {at e : ℕ} (i p : ℕ) → IsField s at 64 e → (at + p ≡ i) × (p < 8) → Ahead s i (count_leading_zeros 64 ((2 ^ 64 - 1 - e) * 2 ^ p % 2 ^ 64))
ones_shifted {s} {at} {e} i p x h =
    let w = 64 - p in
    let rest = is_last {j = i} {n = w} p x (omega arith) (omega arith) in
    record {
      most = leading_le 64 _;
      ended = rw (turned_shift e x.below p h.1, rest.value) (ended w (omega arith) (omega arith) _ (ones_window s i w));
    }
  where
    ended : (w : ℕ) → w + p ≡ 64 → 57 ≤ w → (y : ℕ) → ones s i w ≡ count_leading_zeros w y
        → (limit : ℕ) → count_leading_zeros 64 (y * 2 ^ p) < 57 → count_leading_zeros 64 (y * 2 ^ p) < limit → count_leading_zeros 64 (y * 2 ^ p) ≡ ones s i limit
    ended w q h zero e limit l k = absurd (omega (arith, l, ap (count_leading_zeros 64) (zero-mul (2 ^ p)) ∙ leading_of_zero 64))
    ended w q h (suc y) e limit l k =
        let r : count_leading_zeros 64 (suc y * 2 ^ p) ≡ ones s i w = rw q at (lead_shift w p (suc y) (omega arith)) ∙ sym e in
        omega (arith, r, ones_cap s i w limit (λ f. absurd (omega (arith, r))))

-- ---- the quantity

-- a natural less one that is not greater, as whole numbers
less : (r k : ℕ) → k ≤ r → pos r +ℤ neg_ℤ (pos k) ≡ pos (r - k)
less r zero h = rw (add-zero, sub-zero)
less r (suc k) h = rw (le-ltb r (suc k) h)

module _ (r t n : ℕ) where
  pub vlc_unary : 2 * (r - t) < n → pos r +ℤ vlc r t n ≡ pos (r + (n - (r - t)))
  unfolding vlc
  vlc_unary h = rw (lt-ltb _ _ h)

  pub vlc_odd : n ≤ 2 * (r - t) → n % 2 ≡ 1 → pos r +ℤ vlc r t n ≡ pos (r - (n + 1) / 2)
  unfolding vlc
  vlc_odd h o =
      let p : 0 < n = omega arith in
      rw (le-ltb _ _ h, lt-ltb _ _ p, eq-eqb _ _ o) (less r ((n + 1) / 2) (omega arith))

  pub vlc_even : n ≤ 2 * (r - t) → (n % 2 ≡ 1 → ⊥) → pos r +ℤ vlc r t n ≡ pos (r + n / 2)
  unfolding vlc
  vlc_even h o = ⊎_elim some none (either n)
    where
      either : (n : ℕ) → (0 < n) ⊎ (n ≡ 0)
      either zero = inr refl
      either (suc n) = inl (omega arith)

      some : 0 < n → pos r +ℤ vlc r t n ≡ pos (r + n / 2)
      some p = rw (le-ltb _ _ h, lt-ltb _ _ p, ne_eqb _ _ o)

      none : n ≡ 0 → pos r +ℤ vlc r t n ≡ pos (r + n / 2)
      none e = rw (le-ltb _ _ h, e)

  -- a predictor that is not below t is moved to a natural that is not below it either: a step down is at most r − t
  pub vlc_floor : t ≤ r → (m : ℕ) × (pos r +ℤ vlc r t n ≡ pos m) × (t ≤ m)
  vlc_floor h = by (dec_le n (2 * (r - t))) (dec_le 1 (n % 2))
    where
      by : Dec (n ≤ 2 * (r - t)) → Dec (1 ≤ n % 2) → (m : ℕ) × (pos r +ℤ vlc r t n ≡ pos m) × (t ≤ m)
      by (no k) o = (r + (n - (r - t)), vlc_unary (omega arith), omega arith)
      by (yes k) (yes o) = (r - (n + 1) / 2, vlc_odd k (omega arith), omega arith)
      by (yes k) (no o) = (r + n / 2, vlc_even k (λ e. omega arith), omega arith)

-- the three ways, each raised by 2^32, and the one that is chosen
pub moved_by : (r t n : ℕ) {l down up far near x : ℕ} → near ≡ cond (eqb (n % 2) 1) down up → x ≡ cond (ltb l n) far near
    → (l ≡ 2 * (r - t)) × (down ≡ r + 2 ^ 32 - (n + 1) / 2) × (up ≡ r + 2 ^ 32 + n / 2) × (far ≡ r + 2 ^ 32 + n - (r - t))
    → (m : ℕ) × (x ≡ m + 2 ^ 32) × (pos m ≡ pos r +ℤ vlc r t n)
moved_by r t n {l} {down} {up} {far} {near} {x} e f h = by (dec_le n l) (dec_le 1 (n % 2))
  where
    by : Dec (n ≤ l) → Dec (1 ≤ n % 2) → (m : ℕ) × (x ≡ m + 2 ^ 32) × (pos m ≡ pos r +ℤ vlc r t n)
    by (no a) o =
        let g : x ≡ far = rw (lt-ltb l n (omega arith)) at f in
        (r + (n - (r - t)), omega arith, sym (vlc_unary r t n (omega arith)))
    by (yes a) (yes o) =
        let g : x ≡ down = rw (le-ltb l n a) at f ∙ rw (eq-eqb (n % 2) 1 (omega arith)) at e in
        (r - (n + 1) / 2, omega arith, sym (vlc_odd r t n (omega arith) (omega arith)))
    by (yes a) (no o) =
        let g : x ≡ up = rw (le-ltb l n a) at f ∙ rw (ne_eqb (n % 2) 1 (λ z. omega arith)) at e in
        (r + n / 2, omega arith, sym (vlc_even r t n (omega arith) (λ z. omega arith)))

-- m + (t − m)
pub to_t : (m t : ℕ) → pos m +ℤ (pos t -ℤ pos m) ≡ pos t
to_t m t = eq_z _ _ (omega (arith, add_z (pos m) (pos t -ℤ pos m), sub_z (pos t) (pos m)))
