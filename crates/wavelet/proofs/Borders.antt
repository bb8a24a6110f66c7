-- The filter of a line within its own Z samples: at each place the neighbours are samples of the line, so what stands past its ends need not be
-- kept. Assumes nothing.
use mathlib.Core.Path.{◌≡◌, refl, sym, ap, ◌∙◌}
use mathlib.Core.Bool.{Bool, cond}
use Prim.Native.Nat.{ℕ, zero, suc, ◌+◌, ◌*◌, ◌-◌, ◌%◌, ◌≤◌, ◌<◌}
use native.Mathlib.Decide.{dec_lt}
use native.Mathlib.Omega.{arith}
use borrow.Author.Tests.{lt-ltb, le-ltb, eq-eqb, ne_eqb}
use lib.IntN.{pos, ◌+ℤ◌, ◌-ℤ◌}
use Rattle.whole.specs.Numbers.{gap}
use Rattle.whole.proofs.Linear.{eq_z, sub_z}
use Rattle.wavelet.specs.Filter.{extended, Steps, even_out, odd_out, filter}
use Rattle.wavelet.specs.Runs.{right}

-- a step that takes its two neighbours in either order, as all of ours do
pub record Even_handed {A : Type 0} (S : Steps A) : Type 0 where
  pub swap : (x l r : A) → S.even x l r ≡ S.even x r l

pub one_less : (i j : ℕ) → i ≡ j + 1 → pos i -ℤ pos 1 ≡ pos j
one_less i j e = eq_z (pos i -ℤ pos 1) (pos j) (omega (arith, sub_z (pos i) (pos 1)))

three : {A : Type 0} (f : A → A → A → A) {x x' y y' z z' : A} → x ≡ x' → y ≡ y' → z ≡ z' → f x y z ≡ f x' y' z'
three f p q r = cc

module _ {A : Type 0} (Z : ℕ) (two : 2 ≤ Z) (X : ℕ → A) where
  pub extended_in : (i : ℕ) → i < Z → extended Z X (pos i) ≡ X i
  unfolding extended
  extended_in i h = rw (lt-ltb i Z h)

  extended_past : (i : ℕ) → Z ≤ i → extended Z X (pos i) ≡ X (gap (2 * (Z - 1)) i)
  unfolding extended
  extended_past i h = rw (le-ltb i Z h)

  pub extended_left : (i : ℕ) → i < Z → extended Z X (pos i -ℤ pos 1) ≡ X (gap i 1)
  unfolding extended
  extended_left zero h = refl
  extended_left (suc i) h = ap (extended Z X) (one_less (suc i) (gap (suc i) 1) (omega arith)) ∙ extended_in (gap (suc i) 1) (omega arith)

  pub extended_right : (i : ℕ) → i < Z → extended Z X (pos i +ℤ pos 1) ≡ X (right Z i)
  extended_right i h = pick (dec_lt (i + 1) Z)
    where
      pick : Dec (i + 1 < Z) → extended Z X (pos (i + 1)) ≡ X (right Z i)
      pick (yes k) = extended_in (i + 1) k ∙ ap X (omega arith)
      pick (no k) = extended_past (i + 1) (omega arith) ∙ ap X (omega arith)

-- ---- the filter at a place

module _ {A : Type 0} (S : Steps A) (Z : ℕ) (two : 2 ≤ Z) (X : ℕ → A) where
  even_out_is : (i : ℕ) → i < Z → even_out S Z X (pos i) ≡ S.even (X i) (X (gap i 1)) (X (right Z i))
  unfolding even_out
  even_out_is i h = three S.even (extended_in Z two X i h) (extended_left Z two X i h) (extended_right Z two X i h)

  pub filter_even : (i : ℕ) → i < Z → i % 2 ≡ 0 → filter S Z X i ≡ S.even (X i) (X (gap i 1)) (X (right Z i))
  unfolding filter
  filter_even i h e = rw (eq-eqb (i % 2) 0 e) (even_out_is i h)

  -- the even sample past the line's end is the one before its end
  even_out_past : Even_handed S → even_out S Z X (pos Z) ≡ even_out S Z X (pos (Z - 2))
  unfolding even_out
  even_out_past handed =
      three S.even (extended_past Z two X Z (omega arith)) (ap (extended Z X) (one_less Z (Z - 1) (omega arith)) ∙ extended_in Z two X (Z - 1) (omega arith)) (extended_past Z two X (Z + 1) (omega arith))
      ∙ handed.swap _ _ _
      ∙ sym (even_out_is (Z - 2) (omega arith) ∙ three S.even (ap X (omega arith)) (ap X (omega arith)) (ap X (omega arith)))

  filter_even_out : (i : ℕ) → i % 2 ≡ 0 → filter S Z X i ≡ even_out S Z X (pos i)
  unfolding filter
  filter_even_out i e = rw (eq-eqb (i % 2) 0 e)

  -- an even place one past the line's last is read at the last but one
  even_out_right : Even_handed S → (i : ℕ) → i < Z → even_out S Z X (pos (i + 1)) ≡ even_out S Z X (pos (right Z i))
  even_out_right handed i h = pick (dec_lt (i + 1) Z)
    where
      pick : Dec (i + 1 < Z) → even_out S Z X (pos (i + 1)) ≡ even_out S Z X (pos (right Z i))
      pick (yes k) = ap (λ (n : ℕ). even_out S Z X (pos n)) (omega arith)
      pick (no k) =
          ap (λ (n : ℕ). even_out S Z X (pos n)) (omega arith) ∙ even_out_past handed ∙ ap (λ (n : ℕ). even_out S Z X (pos n)) (omega arith)

  pub filter_odd : Even_handed S → (i : ℕ) → i < Z → i % 2 ≡ 1 → filter S Z X i ≡ S.odd (X i) (filter S Z X (gap i 1)) (filter S Z X (right Z i))
  unfolding filter odd_out
  filter_odd handed i h e =
      ap (λ (b : Bool). cond b (even_out S Z X (pos i)) (odd_out S Z X (pos i))) (ne_eqb (i % 2) 0 (omega arith))
      ∙ three S.odd (extended_in Z two X i h)
      (ap (even_out S Z X) (one_less i (gap i 1) (omega arith)) ∙ sym (filter_even_out (gap i 1) (omega arith)))
      (even_out_right handed i h ∙ sym (filter_even_out (right Z i) (omega arith)))
