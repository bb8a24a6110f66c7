-- Every line of an existing band is a present candidate of one slot of one precinct row, and of no other. Assumes nothing.
use mathlib.Core.Path.{◌≡◌, refl, sym, ap, subst, ◌∙◌}
use mathlib.Core.Bool.{true, cond, ◌&&◌}
use Prim.Native.Nat.{ℕ, zero, suc, ◌+◌, ◌*◌, ◌-◌, ◌/◌, ◌%◌, ◌^◌, ◌≤◌, ◌<◌}
use native.Mathlib.Nat.{mul-add-div_right, mul-add-mod_self_right, div-eq_of_lt, div-lt_iff_lt-mul, mod-eq_of_lt, mod-lt, mul-mod_left, mul-div_cancel, zero-mul, mul-le-mul_right, suc-mul, div-add-mod', pow-suc, one-mul}
use native.Mathlib.Decide.{dec_le, dec_lt}
use native.Mathlib.Omega.{arith}
use borrow.Author.Tests.{lt-ltb, le-ltb, eqb-true}
use lib.Dec.{eqb, ltb}
use lib.Pow.{pow_pos, pow_mono}
use Rattle.layout.specs.declared.Shape.{Shape}
use Rattle.layout.specs.Bands.{sy, N'y, Nβ, β₁, dy, depth, Hb, exists, first_types}
use Rattle.layout.specs.Built.{Built}
use Rattle.layout.specs.Precincts.{first_y, most_lines}
use Rattle.layout.specs.Packets.{included}
use Rattle.layout.specs.Slots.{slots, level_group, turn_of, slot_type, slot_line, candidates, line_with, slot_with, candidate_with}
use Rattle.layout.proofs.Filters.{both_parts}
use Rattle.layout.proofs.Shapes.{dy_most}
use Rattle.layout.proofs.Slots.{first_type, first_count, first_line, later_type, later_types, later_line, later_turn, slot_fits, dy_level}
use Rattle.layout.proofs.Reaches.{double, depth_full, depth_half, depth_last, included_is}
use Rattle.layout.proofs.Packets.{first_letters}
use Rattle.layout.proofs.Present.{tests_true}

-- ---- the slot of line l of a band

-- candidate j of slot k is it
pub record Slotted (s : Shape) (β i l k j : ℕ) : Type 0 where
  pub slot : k < slots s
  pub candidate : j < candidates s k
  pub type : slot_type s k + j / s.nc ≡ β
  pub component : j % s.nc ≡ i
  pub line : slot_line k ≡ l

-- 2^g + l has the logarithm g
half_turn : (g l : ℕ) → g < 2 → l < 2 ^ g → (2 ^ g + l) / 2 ≡ g
half_turn zero l h k = omega arith
half_turn (suc zero) l h k = omega arith
half_turn (suc (suc g)) l h k = absurd (omega arith)

module _ (s : Shape) (built : Built s) where
  module _ (β i l : ℕ) (type : β < Nβ s) (h : i < s.nc) where
    first_slotted : β < β₁ s → l ≡ 0 → Slotted s β i l 0 (β * s.nc + i)
    first_slotted f z =
        record {
          slot = omega arith;
          candidate = rw (first_count s built {k = 0} refl) (omega (arith, mul-le-mul_right s.nc f, suc-mul β s.nc));
          type = rw (first_type s built {k = 0} refl) (quotient (mul-add-div_right built.some β i ∙ ap (λ (n : ℕ). β + n) (div-eq_of_lt h)));
          component = mul-add-mod_self_right β s.nc i ∙ mod-eq_of_lt h;
          line = first_line s built {k = 0} refl ∙ sym z;
        }
      where
        quotient : {n : ℕ} → n ≡ β + 0 → 0 + n ≡ β
        quotient e = omega arith

    -- level g and letters m
    later_slotted : (g m : ℕ) → g < s.nly → m < 3 → β ≡ β₁ s + 3 * g + m → l < 2 ^ g → Slotted s β i l (1 + 3 * (2 ^ g + l - 1) + m) i
    later_slotted g m a b e c =
        let up : 1 + 3 * (2 ^ g + l - 1) + m ≡ 0 → ⊥ = (λ z. omega arith) in
        let t : turn_of (1 + 3 * (2 ^ g + l - 1) + m) ≡ 2 ^ g + l = turned (2 ^ g + l) some in
        let q : level_group (turn_of (1 + 3 * (2 ^ g + l - 1) + m)) ≡ g = ap level_group t ∙ half_turn g l (omega (arith, built.down_levels)) c in
        let r : (1 + 3 * (2 ^ g + l - 1) + m - 1) % 3 ≡ m = rest (2 ^ g + l - 1) in
        record {
          slot = below (2 ^ g + l) (2 ^ s.nly) some (fewer (pow-suc 2 g) (pow_mono {i = suc g} {j = s.nly} a) c);
          candidate = rw (later_types s built (1 + 3 * (2 ^ g + l - 1) + m) up) (omega (arith, one-mul s.nc));
          type =
              (λ n. later_type s built (1 + 3 * (2 ^ g + l - 1) + m) up n + div-eq_of_lt h n)
              ∙ (λ n. β₁ s + 3 * q n + r n + 0)
              ∙ plain (β₁ s + 3 * g + m)
              ∙ sym e;
          component = mod-eq_of_lt h;
          line =
              later_line s built (1 + 3 * (2 ^ g + l - 1) + m) up ∙ (λ n. t n - 2 ^ q n) ∙ minus (2 ^ g) l;
        }
      where
        some : 0 < 2 ^ g + l
        some = omega (arith, pow_pos g)

        fewer : {p r n : ℕ} → p ≡ r * 2 → p ≤ n → l < r → r + l < n
        fewer e f k = omega arith

        below : (x n : ℕ) → 0 < x → x < n → 1 + 3 * (x - 1) + m < 1 + 3 * (n - 1)
        below x n p q = omega arith

        minus : (x y : ℕ) → x + y - x ≡ y
        minus x y = omega arith

        turned : (x : ℕ) → 0 < x → (1 + 3 * (x - 1) + m - 1) / 3 + 1 ≡ x
        turned x p = omega arith

        rest : (x : ℕ) → (1 + 3 * x + m - 1) % 3 ≡ m
        rest x = omega arith

        plain : (x : ℕ) → x + 0 ≡ x
        plain x = omega arith

    find_slot : l < 2 ^ (s.nly - dy s β) → Slotted s β i l (slot_with s β l) (candidate_with s β i)
    unfolding slot_with candidate_with
    find_slot c = by (dec_lt β (β₁ s))
      where
        by : Dec (β < β₁ s)
            → Slotted s β i l (cond (ltb β (β₁ s)) 0 (1 + 3 * (2 ^ ((β - β₁ s) / 3) + l - 1) + (β - β₁ s) % 3)) (cond (ltb β (β₁ s)) (β * s.nc + i) i)
        by (yes f) =
            let z : s.nly - dy s β ≡ 0 = omega (arith, (first_letters s β f).1) in
            rw (lt-ltb β (β₁ s) f) (first_slotted f (omega (arith, rw z at c)))
        by (no n) =
            let b : first_types s.nlx s.nly ≤ β = omega arith in
            let p = both_parts s.nlx s.nly β built.no_more type b in
            let d : s.nly - dy s β ≡ (β - first_types s.nlx s.nly) / 3 = level_of b p.1 in
            rw (le-ltb β (β₁ s) b)
            (later_slotted ((β - first_types s.nlx s.nly) / 3) ((β - first_types s.nlx s.nly) % 3) p.1 (mod-lt (β - first_types s.nlx s.nly) (omega arith)) (sym p.0) (rw d at c))
          where
            left : (n q : ℕ) → q < n → n - (n - q) ≡ q
            left n q h = omega arith

            level_of : first_types s.nlx s.nly ≤ β → (β - first_types s.nlx s.nly) / 3 < s.nly → s.nly - dy s β ≡ (β - first_types s.nlx s.nly) / 3
            level_of b p = ap (λ (x : ℕ). s.nly - x) (dy_level s β b) ∙ left s.nly ((β - first_types s.nlx s.nly) / 3) p

  -- ---- a slot and a candidate are known by the band and the line

  module _ (k k' j j' : ℕ) (h : k < slots s) (h' : k' < slots s) (c : j < candidates s k) (c' : j' < candidates s k')
      (type : slot_type s k + j / s.nc ≡ slot_type s k' + j' / s.nc) (part : j % s.nc ≡ j' % s.nc) where
    -- a candidate of slot 0 is of another type than one of a later slot
    pub first_apart : (n m : ℕ) → n ≡ 0 → (m ≡ 0 → ⊥) → (a b : ℕ) → a < candidates s n → slot_type s n + a / s.nc ≡ slot_type s m + b / s.nc → ⊥
    first_apart n m z up a b l e =
        let r : a < β₁ s * s.nc = rw (first_count s built z) at l in
        let q : a / s.nc < β₁ s = (div-lt_iff_lt-mul built.some).1 r in
        clash (β₁ s) (a / s.nc) (b / s.nc) (3 * level_group (turn_of m)) ((m - 1) % 3) q
        ((λ i. sym (first_type s built z) i + a / s.nc) ∙ e ∙ (λ i. later_type s built m up i + b / s.nc))
      where
        clash : (f a b x y : ℕ) → a < f → 0 + a ≡ f + x + y + b → ⊥
        clash f a b x y l e = omega arith

    pub same_candidate : slot_line k ≡ slot_line k' → (k ≡ k') × (j ≡ j')
    same_candidate line = by (dec_lt 0 k) (dec_lt 0 k')
      where
        candidate : (t t' : ℕ) → t ≡ t' → t + j / s.nc ≡ t' + j' / s.nc → j ≡ j'
        candidate t t' e f =
            let q : j / s.nc ≡ j' / s.nc = omega arith in
            sym (div-add-mod' j s.nc) ∙ (λ n. q n * s.nc + part n) ∙ div-add-mod' j' s.nc

        zeroth : k ≡ 0 → k' ≡ 0 → (k ≡ k') × (j ≡ j')
        zeroth z z' = (z ∙ sym z', candidate (slot_type s k) (slot_type s k') (first_type s built z ∙ sym (first_type s built z')) type)

        later : (k ≡ 0 → ⊥) → (k' ≡ 0 → ⊥) → (k ≡ k') × (j ≡ j')
        later up up' =
            let z : j / s.nc ≡ 0 = div-eq_of_lt (omega (arith, rw (later_types s built k up) at c)) in
            let z' : j' / s.nc ≡ 0 = div-eq_of_lt (omega (arith, rw (later_types s built k' up') at c')) in
            let e : β₁ s + 3 * level_group (turn_of k) + (k - 1) % 3 ≡ β₁ s + 3 * level_group (turn_of k') + (k' - 1) % 3 =
            plain (sym (later_type s built k up)) (sym (later_type s built k' up')) z z' type
            in
            let g = level (β₁ s) (level_group (turn_of k)) (level_group (turn_of k')) (k - 1) (k' - 1) e in
            let t : turn_of k ≡ turn_of k' =
            turn (turn_of k) (turn_of k') (2 ^ level_group (turn_of k)) (2 ^ level_group (turn_of k')) (ap (λ (n : ℕ). 2 ^ n) g.0) (later_turn s built k up h).1 (later_turn s built k' up' h').1
            (sym (later_line s built k up) ∙ line ∙ later_line s built k' up')
            in
            let same = number k k' up up' t g.1 in
            (same, candidate (slot_type s k) (slot_type s k') (ap (slot_type s) same) type)
          where
            plain : {a b x y t u : ℕ} → a ≡ t → b ≡ u → x ≡ 0 → y ≡ 0 → t + x ≡ u + y → a ≡ b
            plain p q r w e = omega arith

            level : (f g g' n n' : ℕ) → f + 3 * g + n % 3 ≡ f + 3 * g' + n' % 3 → (g ≡ g') × (n % 3 ≡ n' % 3)
            level f g g' n n' e = (omega arith, omega arith)

            turn : (t t' p p' : ℕ) → p ≡ p' → p ≤ t → p' ≤ t' → t - p ≡ t' - p' → t ≡ t'
            turn t t' p p' e a b d = omega arith

            number : (k k' : ℕ) → (k ≡ 0 → ⊥) → (k' ≡ 0 → ⊥) → (k - 1) / 3 + 1 ≡ (k' - 1) / 3 + 1 → (k - 1) % 3 ≡ (k' - 1) % 3 → k ≡ k'
            number k k' a b e d = omega arith

        by : Dec (0 < k) → Dec (0 < k') → (k ≡ k') × (j ≡ j')
        by (yes u) (yes u') = later (λ e. omega arith) (λ e. omega arith)
        by (no n) (no n') = zeroth (omega arith) (omega arith)
        by (no n) (yes u') = absurd (first_apart k k' (omega arith) (λ e. omega arith) j j' c type)
        by (yes u) (no n') = absurd (first_apart k' k (omega arith) (λ e. omega arith) j' j c' (sym type))

-- ---- lines of a band

-- candidate j of slot k is a present one of the row, and line y of a band
pub record Named (s : Shape) (row β i y k j : ℕ) : Type 0 where
  pub slot : k < slots s
  pub candidate : j < candidates s k
  pub type : slot_type s k + j / s.nc ≡ β
  pub component : j % s.nc ≡ i
  pub line : first_y s row β i + slot_line k / sy s i ≡ y
  pub present : included s row β i (slot_line k) ≡ true

module _ (s : Shape) (built : Built s) (β i : ℕ) (type : β < Nβ s) (h : i < s.nc) where
  -- a line that the band can have is one that a packet can name
  line_named : (q : ℕ) → q < most_lines s β i → q * sy s i < 2 ^ (s.nly - dy s β)
  line_named q k = by (dec_le (sy s i) 1)
    where
      half : sy s i ≡ 2 → Dec (dy s β < s.nly) → q * sy s i < 2 ^ (s.nly - dy s β)
      half t (yes m) =
          let e : s.nly - 2 / 2 - dy s β ≡ s.nly - dy s β - 1 = omega arith in
          let f : q < 2 ^ (s.nly - dy s β - 1) = rw (t, depth_half s β i built h t m, e) at k in
          rw t (omega (arith, double (s.nly - dy s β) (omega arith), f))
      half t (no n) =
          let d : dy s β ≡ s.nly = omega (arith, dy_most s β) in
          let e : s.nly - 2 / 2 - (s.nly - 1) ≡ 0 = omega arith in
          let f : q < 2 ^ 0 = rw (t, depth_last s β i built h t d, e) at k in
          let z : q ≡ 0 = omega arith in
          rw z (omega (arith, zero-mul (sy s i), pow_pos (s.nly - dy s β)))

      by : Dec (sy s i ≤ 1) → q * sy s i < 2 ^ (s.nly - dy s β)
      by (yes m) =
          let one : sy s i ≡ 1 = omega (arith, (built.sampled i h).down) in
          let e : s.nly - 1 / 2 - dy s β ≡ s.nly - dy s β = omega arith in
          let f : q < 2 ^ (s.nly - dy s β) = rw (one, depth_full s β i built h one, e) at k in
          rw one (omega arith)
      by (no n) = half (omega (arith, (built.sampled i h).down_less, (built.sampled i h).across_two)) (dec_lt (dy s β) s.nly)

  -- each line of an existing band has its candidate in the row of precincts that it belongs to
  pub every_line : exists s β i ≡ true → (y : ℕ) → y < Hb s β i
      → Named s (y / most_lines s β i) β i y (slot_with s β (line_with s β i y)) (candidate_with s β i)
  every_line x y b =
      let l = line_named (y % most_lines s β i) (mod-lt y (pow_pos (N'y s i - depth s β i))) in
      let f = find_slot s built β i (y % most_lines s β i * sy s i) type h l in
      let back : y % most_lines s β i * sy s i / sy s i ≡ y % most_lines s β i = mul-div_cancel (y % most_lines s β i) (built.sampled i h).down in
      let at : first_y s (y / most_lines s β i) β i + y % most_lines s β i * sy s i / sy s i ≡ y =
      ap (λ (n : ℕ). first_y s (y / most_lines s β i) β i + n) back ∙ div-add-mod' y (most_lines s β i)
      in
      let there : included s (y / most_lines s β i) β i (y % most_lines s β i * sy s i) ≡ true =
      sym (included_is s β i built h (y / most_lines s β i) (y % most_lines s β i * sy s i) l)
      ∙ (λ n. x n && eqb (mul-mod_left (y % most_lines s β i) (sy s i) n) 0 && ltb (at n) (Hb s β i))
      ∙ lt-ltb y (Hb s β i) b
      in
      record {
        slot = f.slot;
        candidate = f.candidate;
        type = f.type;
        component = f.component;
        line = ap (λ (n : ℕ). first_y s (y / most_lines s β i) β i + n / sy s i) f.line ∙ at;
        present = ap (included s (y / most_lines s β i) β i) f.line ∙ there;
      }

  -- and no other
  pub one_line : {row y k k' j j' : ℕ} → Named s row β i y k j → Named s row β i y k' j' → (k ≡ k') × (j ≡ j')
  one_line {row} {y} {k} {k'} {j} {j'} a b =
      same_candidate s built k k' j j' a.slot b.slot a.candidate b.candidate (a.type ∙ sym b.type) (a.component ∙ sym b.component)
      (whole a ∙ ap (λ (n : ℕ). n * sy s i) (cancel (first_y s row β i) (slot_line k / sy s i) (slot_line k' / sy s i) (a.line ∙ sym b.line)) ∙ sym (whole b))
    where
      cancel : (f m n : ℕ) → f + m ≡ f + n → m ≡ n
      cancel f m n e = omega arith

      whole : {k j : ℕ} → Named s row β i y k j → slot_line k ≡ slot_line k / sy s i * sy s i
      whole {k} {j} c =
          let fits : slot_line k < 2 ^ (s.nly - dy s β) =
          subst (λ (n : ℕ). slot_line k < 2 ^ (s.nly - dy s n)) c.type (slot_fits s built k j c.slot c.candidate).2
          in
          let t = tests_true (exists s β i) (eqb (slot_line k % sy s i) 0) (ltb (first_y s row β i + slot_line k / sy s i) (Hb s β i)) (included_is s β i built h row (slot_line k) fits ∙ c.present) in
          omega (arith, div-add-mod' (slot_line k) (sy s i), eqb-true (slot_line k % sy s i) 0 t.1)
