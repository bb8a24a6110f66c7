-- The slots, with the empty ones left out, are Table B.4's packets. Assumes nothing.
use mathlib.Core.Path.{◌≡◌, refl, sym, ap, ◌∙◌}
use mathlib.Core.Bool.{Bool, true, ◌&&◌, and-true}
use mathlib.Core.List.{List, [], ◌∷◌, ◌++◌, append_assoc}
use Prim.Native.Nat.{ℕ, zero, suc, ◌+◌, ◌*◌, ◌-◌, ◌/◌, ◌%◌, ◌^◌, ◌≤◌, ◌<◌}
use native.Mathlib.Nat.{add_assoc, add-mul, mul-zero, zero-mul, zero-div, zero-mod, div-lt_iff_lt-mul, mod-lt, mul-add-div_right, mul-add-mod_self_right, div-eq_of_lt, mod-eq_of_lt, suc-mul, add-zero}
use native.Mathlib.Omega.{arith}
use borrow.Author.Tests.{lt-ltb}
use lib.Dec.{eqb, ltb}
use lib.Pow.{pow_pos}
use Rattle.whole.specs.Numbers.{ceil_div}
use Rattle.wavelet.specs.Transform.{low_size, high_size}
use Rattle.wavelet.specs.Bands.{τy}
use Rattle.layout.specs.declared.Shape.{Shape}
use Rattle.layout.specs.Bands.{sy, Hc, N'y, Nβ, β₁, kind, dy, depth, exists, Hb, letters_of, down_of}
use Rattle.layout.specs.Built.{Built}
use Rattle.layout.specs.Precincts.{Npy, first_y, L0}
use Rattle.layout.specs.Packets.{turns, loop, when, nonempty, Part, part, included, first_packet, packet, packets}
use Rattle.layout.proofs.Sizes.{letter_low}
use Rattle.layout.proofs.Filters.{Way, at_low, at_across, at_both, way, type_low, type_across, type_both, first_is, filters_is}
use Rattle.layout.proofs.Reaches.{included_is, Hb_letter, rows_low}
use Rattle.layout.proofs.Slots.{first_type, first_count, first_line, later_type, later_types, later_line}
use Rattle.layout.specs.Slots.{slots, level_group, turn_of, slot_type, slot_line, slot}

-- ---- loops

turns_same : {A : Type 0} (n x step : ℕ) (f g : ℕ → List A) → ((k : ℕ) → k < n → f (x + k * step) ≡ g (x + k * step)) → turns n x step f ≡ turns n x step g
unfolding turns
turns_same zero x step f g h = refl
turns_same (suc n) x step f g h =
    let z : x + 0 * step ≡ x = omega arith in
    λ i.
    (rw z at (h 0 (omega arith))) i
    ++ turns_same n (x + step) step f g (λ k l.
    let e : x + step + k * step ≡ x + suc k * step = omega (arith, suc-mul k step) in
    rw e (h (suc k) (omega arith))) i

-- a loop of n + m turns
turns_more : {A : Type 0} (n m x step : ℕ) (f : ℕ → List A) → turns (n + m) x step f ≡ turns n x step f ++ turns m (x + n * step) step f
unfolding turns
turns_more zero m x step f =
    let a : 0 + m ≡ m = omega arith in
    let b : x + 0 * step ≡ x = omega arith in
    rw (a, b)
turns_more {A} (suc n) m x step f =
    let a : suc n + m ≡ suc (n + m) = omega arith in
    let b : x + step + n * step ≡ x + suc n * step = omega (arith, suc-mul n step) in
    rw a
    (ap (λ (l : List A). f x ++ l) (turns_more n m (x + step) step f)
    ∙ sym (append_assoc (f x) (turns n (x + step) step f) (turns m (x + step + n * step) step f))
    ∙ ap (λ (y : ℕ). (f x ++ turns n (x + step) step f) ++ turns m y step f) b)

turns_shift : {A : Type 0} (n x y : ℕ) (f : ℕ → List A) → turns n (x + y) 1 f ≡ turns n y 1 (λ k. f (x + k))
unfolding turns
turns_shift zero x y f = refl
turns_shift {A} (suc n) x y f =
    let e : x + y + 1 ≡ x + (y + 1) = omega arith in
    rw e (ap (λ (l : List A). f (x + y) ++ l) (turns_shift n x (y + 1) f))

-- a loop over n · m turns is one over n of one over m
turns_nested : {A : Type 0} (n m a : ℕ) (F : ℕ → ℕ → List A) → 0 < m
    → turns (n * m) (a * m) 1 (λ j. F (j / m) (j % m)) ≡ turns n a 1 (λ b. turns m 0 1 (F b))
unfolding turns
turns_nested zero m a F h =
    let e : 0 * m ≡ 0 = omega arith in
    rw e
turns_nested {A} (suc n) m a F h =
    let e : suc n * m ≡ m + n * m = omega (arith, suc-mul n m) in
    let b : a * m + m * 1 ≡ (a + 1) * m = omega (arith, add-mul a 1 m) in
    let z : a * m ≡ a * m + 0 = omega arith in
    rw e
    (turns_more m (n * m) (a * m) 1 (λ j. F (j / m) (j % m))
    ∙ (λ i.
    (ap (λ (x : ℕ). turns m x 1 (λ j. F (j / m) (j % m))) z ∙ turns_shift m (a * m) 0 (λ j. F (j / m) (j % m))
    ∙ turns_same m 0 1 (λ k. F ((a * m + k) / m) ((a * m + k) % m)) (F a) (λ k l. one (0 + k * 1) (omega arith))) i
    ++ (ap (λ (x : ℕ). turns (n * m) x 1 (λ j. F (j / m) (j % m))) b ∙ turns_nested n m (a + 1) F h) i))
  where
    one : (k : ℕ) → k < m → F ((a * m + k) / m) ((a * m + k) % m) ≡ F a k
    one k l =
        let q : (a * m + k) / m ≡ a = mul-add-div_right h a k ∙ ap (λ (x : ℕ). a + x) (div-eq_of_lt l) ∙ omega arith in
        let r : (a * m + k) % m ≡ k = mul-add-mod_self_right a m k ∙ mod-eq_of_lt l in
        λ i. F (q i) (r i)

-- a loop from 0 in steps of 1
one_step : (n : ℕ) → ceil_div (n - 0) 1 ≡ n
one_step n = omega arith

three_steps : (b : ℕ) → ceil_div (b + 3 - b) 1 ≡ 3
three_steps b = omega arith

-- ---- the first packet: its bands are low-pass down, and have a line in every row of precincts

module _ (s : Shape) (β : ℕ) (f : β < β₁ s) where
  pub first_letters : (τy (kind s β) ≡ 0) × (dy s β ≡ s.nly)
  unfolding kind dy
  first_letters = by (way s.nlx s.nly β)
    where
      by : Way s.nlx s.nly β → (τy (letters_of s.nlx s.nly β) ≡ 0) × (down_of s.nlx s.nly β ≡ s.nly)
      by (at_low e) = rw e (ap τy (type_low s.nlx s.nly).letters, (type_low s.nlx s.nly).down)
      by (at_across n l) = (ap τy (type_across s.nlx s.nly β n l).letters, (type_across s.nlx s.nly β n l).down)
      by (at_both l) = absurd (omega arith)

  module _ (i : ℕ) (built : Built s) (h : i < s.nc) where
    first_depth : depth s β i ≡ N'y s i
    unfolding depth
    first_depth = rw first_letters.1 (omega arith)

    first_start : L0 s β i ≡ 0
    unfolding L0
    first_start = rw first_letters.0 (mul-zero (2 ^ (s.nly - depth s β i)))

    first_height : Hb s β i ≡ Npy s
    first_height =
        sym (Hb_letter s β i built h)
        ∙ letter_low (low_size (Hc s i) (depth s β i)) (high_size (Hc s i) (depth s β i)) first_letters.0
        ∙ ap (low_size (Hc s i)) first_depth
        ∙ rows_low s i built h

    first_there : (row : ℕ) → row < Npy s → included s row β i 0 ≡ exists s β i
    first_there row r =
        let y : first_y s row β i + 0 / sy s i ≡ row =
        ap (λ (d : ℕ). row * 2 ^ (N'y s i - d) + 0 / sy s i) first_depth ∙ ap (λ (d : ℕ). row * 2 ^ d + 0 / sy s i) (less_self (N'y s i)) ∙ ap (λ (d : ℕ). row * 2 ^ 0 + d) (zero-div (sy s i)) ∙ omega arith
        in
        sym (included_is s β i built h row 0 (pow_pos (s.nly - dy s β)))
        ∙ (λ j. exists s β i && eqb (zero-mod (sy s i) j) 0 && ltb (y j) (first_height j))
        ∙ ap (λ (t : Bool). exists s β i && true && t) (lt-ltb row (Npy s) r)
        ∙ and-true (exists s β i && true)
        ∙ and-true (exists s β i)
      where
        less_self : (n : ℕ) → n - n ≡ 0
        less_self n = omega arith

module _ (s : Shape) (row : ℕ) (built : Built s) where
  -- ---- a slot above 0 is one packet

  later_slot : (k l d β : ℕ) → (k ≡ 0 → ⊥) → 3 * level_group (turn_of k) + (k - 1) % 3 ≡ d → slot_line k ≡ l → β ≡ β₁ s + d → slot s row k ≡ packet s row l β
  unfolding slot packet
  later_slot k l d β up e f g =
      rw (later_types s built k up, type, f, one_step (1 * s.nc), one_step s.nc, one)
      (turns_same s.nc 0 1
      (λ j. when (included s row (β + j / s.nc) (j % s.nc) l) (part s (β + j / s.nc) (j % s.nc) (l + L0 s (β + j / s.nc) (j % s.nc))))
      (λ i. when (included s row β i l) (part s β i (l + L0 s β i)))
      (λ j h. each (0 + j * 1) (omega arith)))
    where
      one : 1 * s.nc ≡ s.nc
      one = omega arith

      type : slot_type s k ≡ β
      type = later_type s built k up ∙ sum (β₁ s) (3 * level_group (turn_of k)) ((k - 1) % 3) e ∙ sym g
        where
          sum : (b x y : ℕ) → x + y ≡ d → b + x + y ≡ b + d
          sum b x y h = omega arith

      each : (j : ℕ) → j < s.nc → when (included s row (β + j / s.nc) (j % s.nc) l) (part s (β + j / s.nc) (j % s.nc) (l + L0 s (β + j / s.nc) (j % s.nc)))
          ≡ when (included s row β j l) (part s β j (l + L0 s β j))
      each j h =
          let q : β + j / s.nc ≡ β = ap (λ (x : ℕ). β + x) (div-eq_of_lt h) ∙ omega arith in
          let r : j % s.nc ≡ j = mod-eq_of_lt h in
          λ i. when (included s row (q i) (r i) l) (part s (q i) (r i) (l + L0 s (q i) (r i)))

  -- ---- slot 0 is the first packet

  first_slot : row < Npy s → slot s row 0 ≡ first_packet s
  unfolding slot first_packet
  first_slot r =
      rw (first_count s built {k = 0} refl, first_type s built {k = 0} refl, first_line s built {k = 0} refl, one_step (β₁ s * s.nc), one_step (β₁ s), one_step s.nc)
      (turns_same (β₁ s * s.nc) 0 1
      (λ j. when (included s row (0 + j / s.nc) (j % s.nc) 0) (part s (0 + j / s.nc) (j % s.nc) (0 + L0 s (0 + j / s.nc) (j % s.nc))))
      (λ j. when (exists s (j / s.nc) (j % s.nc)) (part s (j / s.nc) (j % s.nc) 0))
      (λ j h. each (0 + j * 1) (omega arith))
      ∙ ap (λ (x : ℕ). turns (β₁ s * s.nc) x 1 (λ j. when (exists s (j / s.nc) (j % s.nc)) (part s (j / s.nc) (j % s.nc) 0))) (sym (zero-mul s.nc))
      ∙ turns_nested (β₁ s) s.nc 0 (λ β i. when (exists s β i) (part s β i 0)) built.some)
    where
      each : (j : ℕ) → j < β₁ s * s.nc → when (included s row (0 + j / s.nc) (j % s.nc) 0) (part s (0 + j / s.nc) (j % s.nc) (0 + L0 s (0 + j / s.nc) (j % s.nc)))
          ≡ when (exists s (j / s.nc) (j % s.nc)) (part s (j / s.nc) (j % s.nc) 0)
      each j h =
          let q : 0 + j / s.nc ≡ j / s.nc = omega arith in
          let b : j / s.nc < β₁ s = (div-lt_iff_lt-mul built.some).1 h in
          let m : j % s.nc < s.nc = mod-lt j built.some in
          let z : 0 + L0 s (j / s.nc) (j % s.nc) ≡ 0 = omega (arith, first_start s (j / s.nc) b (j % s.nc) built m) in
          rw q (λ i. when (first_there s (j / s.nc) b (j % s.nc) built m row r i) (part s (j / s.nc) (j % s.nc) (z i)))

  -- ---- all slots

  -- the three packets of one line of a level of both directions
  abbrev three : ℕ → ℕ → List (List Part)
  three β₀ l = packet s row l β₀ ∷ packet s row l (β₀ + 1) ∷ packet s row l (β₀ + 1 + 1) ∷ []

  level : (β₀ g : ℕ) → β₀ ≡ β₁ s + 3 * g → g ≤ s.nly → loop 0 (2 ^ (s.nly - dy s β₀)) 1 (λ l. loop β₀ (β₀ + 3) 1 (λ β. packet s row l β ∷ [])) ≡ turns (2 ^ g) 0 1 (three β₀)
  unfolding dy turns
  level β₀ g e h =
      let d : s.nly - down_of s.nlx s.nly β₀ ≡ g =
      ap (λ (x : ℕ). s.nly - x)
      ((type_both s.nlx s.nly β₀ (part_of (β₁ s) e).0).down ∙ ap (λ (q : ℕ). s.nly - q) (part_of (β₁ s) e).1)
      ∙ omega arith
      in
      rw (d, one_step (2 ^ g)) (turns_same (2 ^ g) 0 1 (λ l. loop β₀ (β₀ + 3) 1 (λ β. packet s row l β ∷ [])) (three β₀) (λ k _. line (0 + k * 1)))
    where
      part_of : (f : ℕ) → β₀ ≡ f + 3 * g → (f ≤ β₀) × ((β₀ - f) / 3 ≡ g)
      part_of f e = (omega arith, omega arith)

      line : (l : ℕ) → loop β₀ (β₀ + 3) 1 (λ β. packet s row l β ∷ []) ≡ three β₀ l
      line l = rw (three_steps β₀)

  abbrev later_packets : List (List Part)
  later_packets = loop (β₁ s) (Nβ s) 3 (λ β₀. loop 0 (2 ^ (s.nly - dy s β₀)) 1 (λ l. loop β₀ (β₀ + 3) 1 (λ β. packet s row l β ∷ [])))

  levels_count : {n : ℕ} → s.nly ≡ n → ceil_div (Nβ s - β₁ s) 3 ≡ n
  levels_count {n} e = count (Nβ s) (β₁ s) s.nly (sum (β₁ s) (Nβ s) (s.nlx - s.nly) (first_is s.nlx s.nly built.no_more) (filters_is s.nlx s.nly built.no_more)) ∙ e
    where
      count : (a b n : ℕ) → a ≡ b + 3 * n → ceil_div (a - b) 3 ≡ n
      count a b n e = omega arith

      sum : (f a x : ℕ) → f ≡ x + 1 → a ≡ x + 1 + 3 * s.nly → a ≡ f + 3 * s.nly
      sum f a x e g = omega arith

  slots_count : {n : ℕ} → s.nly ≡ n → ceil_div (slots s - 0) 1 ≡ 1 + 3 * (2 ^ n - 1)
  slots_count e = one_step (slots s) ∙ ap (λ (n : ℕ). 1 + 3 * (2 ^ n - 1)) e

  same_zero : row < Npy s → s.nly ≡ 0 → loop 0 (slots s) 1 (λ k. slot s row k ∷ []) ≡ first_packet s ∷ later_packets
  unfolding turns
  same_zero r e = rw (slots_count e, levels_count e) (λ i. first_slot r i ∷ [])

  same_one : row < Npy s → s.nly ≡ 1 → loop 0 (slots s) 1 (λ k. slot s row k ∷ []) ≡ first_packet s ∷ later_packets
  unfolding turns
  same_one r e =
      rw (slots_count e, levels_count e)
      ((λ i.
      first_slot r i
      ∷ later_slot 1 0 0 (β₁ s) (λ z. omega arith) refl (later_line s built 1 (λ z. omega arith)) (sym (add-zero (β₁ s))) i
      ∷ later_slot 2 0 1 (β₁ s + 1) (λ z. omega arith) refl (later_line s built 2 (λ z. omega arith)) refl i
      ∷ later_slot 3 0 2 (β₁ s + 1 + 1) (λ z. omega arith) refl (later_line s built 3 (λ z. omega arith)) (add_assoc (β₁ s) 1 1) i
      ∷ [])
      ∙ ap (λ (l : List (List Part)). first_packet s ∷ (l ++ [])) (sym (level (β₁ s) 0 (sym (add-zero (β₁ s))) (omega arith))))

  same_two : row < Npy s → s.nly ≡ 2 → loop 0 (slots s) 1 (λ k. slot s row k ∷ []) ≡ first_packet s ∷ later_packets
  unfolding turns
  same_two r e =
      rw (slots_count e, levels_count e)
      ((λ i.
      first_slot r i
      ∷ later_slot 1 0 0 (β₁ s) (λ z. omega arith) refl (later_line s built 1 (λ z. omega arith)) (sym (add-zero (β₁ s))) i
      ∷ later_slot 2 0 1 (β₁ s + 1) (λ z. omega arith) refl (later_line s built 2 (λ z. omega arith)) refl i
      ∷ later_slot 3 0 2 (β₁ s + 1 + 1) (λ z. omega arith) refl (later_line s built 3 (λ z. omega arith)) (add_assoc (β₁ s) 1 1) i
      ∷ later_slot 4 0 3 (β₁ s + 3) (λ z. omega arith) refl (later_line s built 4 (λ z. omega arith)) refl i
      ∷ later_slot 5 0 4 (β₁ s + 3 + 1) (λ z. omega arith) refl (later_line s built 5 (λ z. omega arith)) (add_assoc (β₁ s) 3 1) i
      ∷ later_slot 6 0 5 (β₁ s + 3 + 1 + 1) (λ z. omega arith) refl (later_line s built 6 (λ z. omega arith)) (plus (β₁ s)) i
      ∷ later_slot 7 1 3 (β₁ s + 3) (λ z. omega arith) refl (later_line s built 7 (λ z. omega arith)) refl i
      ∷ later_slot 8 1 4 (β₁ s + 3 + 1) (λ z. omega arith) refl (later_line s built 8 (λ z. omega arith)) (add_assoc (β₁ s) 3 1) i
      ∷ later_slot 9 1 5 (β₁ s + 3 + 1 + 1) (λ z. omega arith) refl (later_line s built 9 (λ z. omega arith)) (plus (β₁ s)) i
      ∷ [])
      ∙ (λ i. first_packet s ∷ (sym (level (β₁ s) 0 (sym (add-zero (β₁ s))) (omega arith)) i ++ (sym (level (β₁ s + 3) 1 refl (omega arith)) i ++ []))))
    where
      plus : (b : ℕ) → b + 3 + 1 + 1 ≡ b + 5
      plus b = omega arith

  -- the slots of a precinct, in order and without the empty ones, are its packets
  pub slots_are_packets : row < Npy s → nonempty (loop 0 (slots s) 1 (λ k. slot s row k ∷ [])) ≡ packets s row
  unfolding packets
  slots_are_packets r = ap nonempty (by s.nly refl built.down_levels)
    where
      by : (n : ℕ) → s.nly ≡ n → n ≤ 2 → loop 0 (slots s) 1 (λ k. slot s row k ∷ []) ≡ first_packet s ∷ later_packets
      by zero e h = same_zero r e
      by (suc zero) e h = same_one r e
      by (suc (suc zero)) e h = same_two r e
      by (suc (suc (suc n))) e h = absurd (omega arith)
