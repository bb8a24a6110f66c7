-- Slots: what the number of a slot says. Assumes nothing.
use mathlib.Core.Path.{◌≡◌, ap, ◌∙◌}
use Prim.Native.Nat.{ℕ, zero, suc, ◌+◌, ◌*◌, ◌-◌, ◌/◌, ◌%◌, ◌^◌, ◌≤◌, ◌<◌}
use native.Mathlib.Nat.{div-eq_of_lt, div-lt_iff_lt-mul, div-add-mod, mod-lt, mul-add, mul-one, mul-le-mul, mul-le-mul_left}
use native.Mathlib.Decide.{dec_lt}
use native.Mathlib.Omega.{arith}
use borrow.Author.Tests.{ne_eqb}
use lib.Pow.{pow_pos, pow_mono}
use Rattle.layout.specs.declared.Shape.{Shape}
use Rattle.layout.specs.Bands.{Nβ, NL, β₁, dy, first_types, down_of}
use Rattle.layout.specs.Built.{Built}
use Rattle.layout.specs.Slots.{slots, level_group, turn_of, slot_type, slot_types, slot_line, candidates}
use Rattle.layout.specs.Sizes.{candidate_band}
use Rattle.layout.proofs.Filters.{first_is, filters_is, type_both}

-- 2^g + l, for l below 2^g and g below NLy
pub turn_parts : (nly m : ℕ) → nly ≤ 2 → 1 ≤ m → m < 2 ^ nly → (m / 2 < nly) × (2 ^ (m / 2) ≤ m) × (m - 2 ^ (m / 2) < 2 ^ (m / 2))
turn_parts zero m h a b = absurd (omega arith)
turn_parts (suc zero) zero h a b = absurd (omega arith)
turn_parts (suc zero) (suc zero) h a b = (omega arith, omega arith, omega arith)
turn_parts (suc zero) (suc (suc m)) h a b = absurd (omega arith)
turn_parts (suc (suc zero)) zero h a b = absurd (omega arith)
turn_parts (suc (suc zero)) (suc zero) h a b = (omega arith, omega arith, omega arith)
turn_parts (suc (suc zero)) (suc (suc zero)) h a b = (omega arith, omega arith, omega arith)
turn_parts (suc (suc zero)) (suc (suc (suc zero))) h a b = (omega arith, omega arith, omega arith)
turn_parts (suc (suc zero)) (suc (suc (suc (suc m)))) h a b = absurd (omega arith)
turn_parts (suc (suc (suc n))) m h a b = absurd (omega arith)

-- the depth of a filter type of the levels of both directions
pub dy_level : (s : Shape) (β : ℕ) → first_types s.nlx s.nly ≤ β → dy s β ≡ s.nly - (β - first_types s.nlx s.nly) / 3
unfolding dy
dy_level s β h = (type_both s.nlx s.nly β h).down

module _ (s : Shape) (built : Built s) where
  pub power_most : 2 ^ s.nly ≤ 4
  power_most = pow_mono {i = s.nly} {j = 2} built.down_levels

  pub slots_most : slots s ≤ 10
  slots_most = omega (arith, power_most)

  module _ (k : ℕ) (up : k ≡ 0 → ⊥) where
    pub later_type : slot_type s k ≡ β₁ s + 3 * level_group (turn_of k) + (k - 1) % 3
    unfolding slot_type
    later_type = rw (ne_eqb k 0 up)

    pub later_types : slot_types s k ≡ 1
    unfolding slot_types
    later_types = rw (ne_eqb k 0 up)

    pub later_line : slot_line k ≡ turn_of k - 2 ^ level_group (turn_of k)
    unfolding slot_line
    later_line = rw (ne_eqb k 0 up)

    pub later_turn : k < slots s → (level_group (turn_of k) < s.nly) × (2 ^ level_group (turn_of k) ≤ turn_of k) × (turn_of k - 2 ^ level_group (turn_of k) < 2 ^ level_group (turn_of k))
    later_turn h = turn_parts s.nly (turn_of k) built.down_levels (omega arith) (omega (arith, pow_pos s.nly))

    -- the level of a slot
    pub later_depth : k < slots s → s.nly - dy s (slot_type s k) ≡ level_group (turn_of k)
    unfolding dy
    later_depth h =
        let d : down_of s.nlx s.nly (β₁ s + 3 * level_group (turn_of k) + (k - 1) % 3) ≡ s.nly - level_group (turn_of k) =
        (type_both s.nlx s.nly (β₁ s + 3 * level_group (turn_of k) + (k - 1) % 3) (omega arith)).down
        ∙ ap (λ (q : ℕ). s.nly - q) (quotient (β₁ s) (level_group (turn_of k)) (k - 1))
        in
        rw later_type (omega (arith, d, (later_turn h).0))
      where
        quotient : (f g m : ℕ) → (f + 3 * g + m % 3 - f) / 3 ≡ g
        quotient f g m = omega arith

  -- the first slot
  pub first_type : {k : ℕ} → k ≡ 0 → slot_type s k ≡ 0
  unfolding slot_type
  first_type e = rw e

  pub first_count : {k : ℕ} → k ≡ 0 → slot_types s k ≡ β₁ s
  unfolding slot_types
  first_count e = rw e

  pub first_line : {k : ℕ} → k ≡ 0 → slot_line k ≡ 0
  unfolding slot_line
  first_line e = rw e

  pub candidates_most : (k : ℕ) → candidates s k ≤ 24
  candidates_most k = mul-le-mul {n₁ = slot_types s k} {m₁ = s.nc} {n₂ = 6} {m₂ = 4} (by (dec_lt 0 k)) built.few
    where
      by : Dec (0 < k) → slot_types s k ≤ 6
      by (yes u) = omega (arith, later_types k (λ e. omega arith))
      by (no n) = omega (arith, first_count {k = k} (omega arith), first_is s.nlx s.nly built.no_more, built.levels)

  -- a candidate is a line that Table B.4 can name
  module _ (k j : ℕ) (h : k < slots s) (c : j < candidates s k) where
    pub slot_fits : (slot_type s k + j / s.nc < Nβ s) × (slot_line k < 4) × (slot_line k < 2 ^ (s.nly - dy s (slot_type s k + j / s.nc)))
    slot_fits = by (dec_lt 0 k)
      where
        types : first_types s.nlx s.nly + 3 * s.nly ≡ Nβ s
        types = omega (arith, first_is s.nlx s.nly built.no_more, filters_is s.nlx s.nly built.no_more)

        zeroth : k ≡ 0 → (slot_type s k + j / s.nc < Nβ s) × (slot_line k < 4) × (slot_line k < 2 ^ (s.nly - dy s (slot_type s k + j / s.nc)))
        zeroth e =
            let l : j < β₁ s * s.nc = rw (first_count e) at c in
            let q : j / s.nc < β₁ s = (div-lt_iff_lt-mul built.some).1 l in
            (omega (arith, first_type e, types, q), omega (arith, first_line e), omega (arith, first_line e, pow_pos (s.nly - dy s (slot_type s k + j / s.nc))))

        later : (k ≡ 0 → ⊥) → (slot_type s k + j / s.nc < Nβ s) × (slot_line k < 4) × (slot_line k < 2 ^ (s.nly - dy s (slot_type s k + j / s.nc)))
        later up =
            let l : j < 1 * s.nc = rw (later_types k up) at c in
            let q : j / s.nc ≡ 0 = div-eq_of_lt (omega (arith, l)) in
            let t = later_turn k up h in
            let z : slot_type s k + 0 ≡ slot_type s k = omega arith in (
              rw (q, z) (omega (arith, later_type k up, types, t.0, mod-lt (k - 1) {m = 3} (omega arith))),
              omega (arith, later_line k up, slots_most, h),
              rw (q, z) (rw (later_depth k up h, later_line k up) t.2),
            )

        by : Dec (0 < k) → (slot_type s k + j / s.nc < Nβ s) × (slot_line k < 4) × (slot_line k < 2 ^ (s.nly - dy s (slot_type s k + j / s.nc)))
        by (yes u) = later (λ e. omega arith)
        by (no n) = zeroth (omega arith)

    -- and it is of a band that there is: the bands of a slot's candidates follow one another
    pub band_is : s.nc * slot_type s k + j ≡ candidate_band s k j
    band_is = omega (arith, mul-add s.nc (slot_type s k) (j / s.nc), div-add-mod j s.nc)

    pub band_there : candidate_band s k j < NL s
    band_there =
        let β = slot_type s k + j / s.nc in
        omega (arith, mul-le-mul_left s.nc slot_fits.0, mul-add s.nc β 1, mul-one s.nc, mod-lt j built.some)
