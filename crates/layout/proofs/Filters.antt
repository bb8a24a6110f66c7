-- Filter types: the three ways that a β goes, and what follows from each. Assumes nothing.
use mathlib.Core.Path.{◌≡◌, refl}
use Prim.Native.Nat.{ℕ, zero, suc, ◌+◌, ◌*◌, ◌-◌, ◌/◌, ◌%◌, ◌≤◌, ◌<◌}
use native.Mathlib.Nat.{mod-lt}
use native.Mathlib.Decide.{dec_lt}
use native.Mathlib.Omega.{arith}
use borrow.Author.Tests.{lt-ltb, le-ltb, ne_eqb}
use Rattle.wavelet.specs.Transform.{Kind, LL, HL, LH, HH}
use Rattle.wavelet.specs.Bands.{τx, τy}
use Rattle.layout.specs.Bands.{filters, filter_type, first_types, letters, letters_of, across_of, down_of}
use Rattle.layout.specs.Sizes.{filter_of, SmallFilter}

-- the letters and the depths of β
pub record TypeIs (NLx NLy β : ℕ) (k : Kind) (dx dy : ℕ) : Type 0 where
  pub letters : letters_of NLx NLy β ≡ k
  pub across : across_of NLx NLy β ≡ dx
  pub down : down_of NLx NLy β ≡ dy

module _ (NLx NLy : ℕ) where
  pub type_low : TypeIs NLx NLy 0 LL NLx NLy
  type_low = record { letters = refl; across = refl; down = rw (lt-ltb 0 (first_types NLx NLy) (omega arith)) }

  pub type_across : (β : ℕ) → (β ≡ 0 → ⊥) → β < first_types NLx NLy → TypeIs NLx NLy β HL (NLx + 1 - β) NLy
  type_across β n h =
      let z = ne_eqb β 0 n in
      let l = lt-ltb β (first_types NLx NLy) h in
      record { letters = rw (z, l); across = rw (z, l); down = rw l }

  pub type_both : (β : ℕ) → first_types NLx NLy ≤ β
      → TypeIs NLx NLy β (letters ((β - first_types NLx NLy) % 3)) (NLy - (β - first_types NLx NLy) / 3) (NLy - (β - first_types NLx NLy) / 3)
  type_both β h =
      let z = ne_eqb β 0 (λ e. omega arith) in
      let l = le-ltb β (first_types NLx NLy) h in
      record { letters = rw (z, l); across = rw (z, l); down = rw l }

  -- which way a β goes
  pub data Way (β : ℕ) : Type 0 where
    at_low : β ≡ 0 → Way β
    at_across : (β ≡ 0 → ⊥) → β < first_types NLx NLy → Way β
    at_both : first_types NLx NLy ≤ β → Way β

  pub way : (β : ℕ) → Way β
  way zero = at_low refl
  way (suc β) = pick (dec_lt (suc β) (first_types NLx NLy))
    where
      pick : Dec (suc β < first_types NLx NLy) → Way (suc β)
      pick (yes h) = at_across (λ e. omega arith) h
      pick (no n) = at_both (omega arith)

-- ---- ranges

pub τx_most : (k : Kind) → τx k ≤ 1
τx_most LL = omega arith
τx_most HL = omega arith
τx_most LH = omega arith
τx_most HH = omega arith

pub τy_most : (k : Kind) → τy k ≤ 1
τy_most LL = omega arith
τy_most HL = omega arith
τy_most LH = omega arith
τy_most HH = omega arith

-- the letters as numbers
pub τx_letters : (m : ℕ) → m < 3 → τx (letters m) ≡ (m + 1) % 2
τx_letters zero h = refl
τx_letters (suc zero) h = refl
τx_letters (suc (suc zero)) h = refl
τx_letters (suc (suc (suc m))) h = absurd (omega arith)

pub τy_letters : (m : ℕ) → m < 3 → τy (letters m) ≡ (m + 1) / 2
τy_letters zero h = refl
τy_letters (suc zero) h = refl
τy_letters (suc (suc zero)) h = refl
τy_letters (suc (suc (suc m))) h = absurd (omega arith)

pub across_most : (NLx NLy β : ℕ) → NLy ≤ NLx → across_of NLx NLy β ≤ NLx
across_most NLx NLy β h = by (way NLx NLy β)
  where
    by : Way NLx NLy β → across_of NLx NLy β ≤ NLx
    by (at_low e) = rw e (omega (arith, (type_low NLx NLy).across))
    by (at_across n l) = omega (arith, (type_across NLx NLy β n l).across)
    by (at_both l) = omega (arith, (type_both NLx NLy β l).across)

pub down_most : (NLx NLy β : ℕ) → down_of NLx NLy β ≤ NLy
down_most NLx NLy β = by (way NLx NLy β)
  where
    by : Way NLx NLy β → down_of NLx NLy β ≤ NLy
    by (at_low e) = rw e (omega (arith, (type_low NLx NLy).down))
    by (at_across n l) = omega (arith, (type_across NLx NLy β n l).down)
    by (at_both l) = omega (arith, (type_both NLx NLy β l).down)

pub filter_small : (NLx NLy β : ℕ) → NLy ≤ NLx → NLx ≤ 5 → NLy ≤ 2 → SmallFilter (filter_of NLx NLy β)
filter_small NLx NLy β h x y =
    record {
      tx = τx_most (letters_of NLx NLy β);
      ty = τy_most (letters_of NLx NLy β);
      dx = omega (arith, across_most NLx NLy β h);
      dy = omega (arith, down_most NLx NLy β);
    }

-- ---- B.3's formula for β is the other way round

-- in the levels of both directions β is first + 3 q + m, for level NLy − q and letters m
split_sum : (NLx NLy β f q m tx ty : ℕ) → NLy ≤ NLx → f ≡ NLx - NLy + 1 → f + 3 * q + m ≡ β → q ≤ NLy → tx + 2 * ty ≡ 1 + m
    → NLx - NLy + tx + 2 * ty + 3 * (NLy - (NLy - q)) ≡ β
split_sum NLx NLy β f q m tx ty h e b l t = omega arith

pub across_sum : (NLx NLy β f : ℕ) → NLy ≤ NLx → f ≡ NLx - NLy + 1 → (β ≡ 0 → ⊥) → β < f → (NLy < NLx + 1 - β) × (NLx - (NLx + 1 - β) + 1 ≡ β)
across_sum NLx NLy β f h e n l = (omega arith, omega arith)

pub first_is : (NLx NLy : ℕ) → NLy ≤ NLx → first_types NLx NLy ≡ NLx - NLy + 1
first_is NLx NLy h = omega arith

pub filters_is : (NLx NLy : ℕ) → NLy ≤ NLx → filters NLx NLy ≡ NLx - NLy + 1 + 3 * NLy
filters_is NLx NLy h = omega arith

letters_sum : (m : ℕ) → m < 3 → τx (letters m) + 2 * τy (letters m) ≡ 1 + m
letters_sum m h = omega (arith, τx_letters m h, τy_letters m h)

module _ (NLx NLy β : ℕ) (h : NLy ≤ NLx) (b : β < filters NLx NLy) where
  abbrev Back : Type 0
  Back = filter_type NLx NLy (τx (letters_of NLx NLy β)) (τy (letters_of NLx NLy β)) (across_of NLx NLy β) (down_of NLx NLy β) ≡ β

  back_deep : (k : Kind) (x y : ℕ) → TypeIs NLx NLy β k x y → y < x → NLx - x + τx k ≡ β → Back
  back_deep k x y t l e = rw (t.letters, t.across, t.down, lt-ltb y x l) e

  back_even : (k : Kind) (x y : ℕ) → TypeIs NLx NLy β k x y → x ≤ y → NLx - NLy + τx k + 2 * τy k + 3 * (NLy - y) ≡ β → Back
  back_even k x y t l e = rw (t.letters, t.across, t.down, le-ltb y x l) e

  -- first + 3 q + m, with q below NLy
  pub both_parts : (l : first_types NLx NLy ≤ β)
      → (first_types NLx NLy + 3 * ((β - first_types NLx NLy) / 3) + (β - first_types NLx NLy) % 3 ≡ β) × ((β - first_types NLx NLy) / 3 < NLy)
  both_parts l = two (first_types NLx NLy) l (first_is NLx NLy h) (filters_is NLx NLy h)
    where
      two : (f : ℕ) → f ≤ β → f ≡ NLx - NLy + 1 → filters NLx NLy ≡ NLx - NLy + 1 + 3 * NLy → (f + 3 * ((β - f) / 3) + (β - f) % 3 ≡ β) × ((β - f) / 3 < NLy)
      two f l e g = (omega arith, omega arith)

  pub formula : Back
  formula = by (way NLx NLy β)
    where
      low : β ≡ 0 → Dec (NLy < NLx) → Back
      low e (yes l) = back_deep LL NLx NLy (rw e (type_low NLx NLy)) l (omega arith)
      low e (no n) = back_even LL NLx NLy (rw e (type_low NLx NLy)) (omega arith) (omega arith)

      by : Way NLx NLy β → Back
      by (at_low e) = low e (dec_lt NLy NLx)
      by (at_across n l) =
          let sum = across_sum NLx NLy β (first_types NLx NLy) h (first_is NLx NLy h) n l in
          back_deep HL (NLx + 1 - β) NLy (type_across NLx NLy β n l) sum.0 sum.1
      by (at_both l) =
          let q = (β - first_types NLx NLy) / 3 in
          let m = (β - first_types NLx NLy) % 3 in
          back_even (letters m) (NLy - q) (NLy - q) (type_both NLx NLy β l) (omega arith)
          (split_sum NLx NLy β (first_types NLx NLy) q m (τx (letters m)) (τy (letters m)) h (first_is NLx NLy h) (both_parts l).0 (omega (arith, (both_parts l).1))
          (letters_sum m (mod-lt (β - first_types NLx NLy) (omega arith))))
