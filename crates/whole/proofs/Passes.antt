-- A list whose first i elements have been put through g, by place and element, which is what a loop that writes g's value over each element holds after i turns. Assumes nothing.
use mathlib.Core.Path.{◌≡◌, refl, sym, ap}
use mathlib.Core.List.{List, [], ◌∷◌, map}
use Prim.Native.Nat.{ℕ, zero, suc, ◌≤◌, ◌<◌}
use native.Mathlib.Nat.{le_of_suc-le-suc, not-suc-le-zero, suc_inj}
use native.Mathlib.Omega.{arith}
use lib.ListN.{length, get_or, set}
use Rattle.whole.specs.Cells.{map_at}

module _ {A : Type 0} where
  unfoldable pub mapped : (ℕ → A → A) → ℕ → List A → List A
  mapped g zero xs = xs
  mapped g (suc i) [] = []
  mapped g (suc i) (x ∷ xs) = g 0 x ∷ mapped (λ (n : ℕ). g (suc n)) i xs

  pub mapped_none : (g : ℕ → A → A) (xs : List A) → mapped g 0 xs ≡ xs
  unfolding mapped
  mapped_none g xs = refl

  pub mapped_length : (g : ℕ → A → A) (i : ℕ) (xs : List A) → length (mapped g i xs) ≡ length xs
  unfolding mapped
  mapped_length g zero xs = refl
  mapped_length g (suc i) [] = refl
  mapped_length g (suc i) (x ∷ xs) = ap suc (mapped_length (λ (n : ℕ). g (suc n)) i xs)

  -- the element that the next turn reads is still the first
  pub mapped_here : (g : ℕ → A → A) (i : ℕ) (xs : List A) (d : A) → get_or (mapped g i xs) i d ≡ get_or xs i d
  unfolding mapped
  mapped_here g zero xs d = refl
  mapped_here g (suc i) [] d = refl
  mapped_here g (suc i) (x ∷ xs) d = mapped_here (λ (n : ℕ). g (suc n)) i xs d

  -- a turn
  pub mapped_step : (g : ℕ → A → A) (i : ℕ) (xs : List A) (d : A) → i < length xs → set (mapped g i xs) i (g i (get_or xs i d)) ≡ mapped g (suc i) xs
  unfolding mapped
  mapped_step g i [] d h = absurd (not-suc-le-zero h)
  mapped_step g zero (x ∷ xs) d h = refl
  mapped_step g (suc i) (x ∷ xs) d h = ap (λ (l : List A). g 0 x ∷ l) (mapped_step (λ (n : ℕ). g (suc n)) i xs d (le_of_suc-le-suc h))

  pub mapped_all : (g : ℕ → A → A) (i : ℕ) (xs : List A) → length xs ≤ i → mapped g i xs ≡ map_at g xs
  unfolding mapped map_at
  mapped_all g zero [] h = refl
  mapped_all g (suc i) [] h = refl
  mapped_all g zero (x ∷ xs) h = absurd (not-suc-le-zero h)
  mapped_all g (suc i) (x ∷ xs) h = ap (λ (l : List A). g 0 x ∷ l) (mapped_all (λ (n : ℕ). g (suc n)) i xs (le_of_suc-le-suc h))

  -- where g does not look at the place it is `map`
  pub map_at_map : (f : A → A) (xs : List A) → map_at (λ _. f) xs ≡ map f xs
  unfolding map_at
  map_at_map f [] = refl
  map_at_map f (x ∷ xs) = ap (λ (l : List A). f x ∷ l) (map_at_map f xs)

  -- what a pass leaves at each place
  pub map_at_length : (g : ℕ → A → A) (xs : List A) → length (map_at g xs) ≡ length xs
  unfolding map_at
  map_at_length g [] = refl
  map_at_length g (x ∷ xs) = ap suc (map_at_length (λ (n : ℕ). g (suc n)) xs)

  pub map_at_at : (g : ℕ → A → A) (xs : List A) (n : ℕ) (d : A) → n < length xs → get_or (map_at g xs) n d ≡ g n (get_or xs n d)
  unfolding map_at
  map_at_at g [] n d h = absurd (not-suc-le-zero h)
  map_at_at g (x ∷ xs) zero d h = refl
  map_at_at g (x ∷ xs) (suc n) d h = map_at_at (λ (n : ℕ). g (suc n)) xs n d (le_of_suc-le-suc h)

zero_ne_suc : {n : ℕ} → 0 ≡ suc n → ⊥
zero_ne_suc e = omega arith

-- a row written from another of the same length
pub map_at_from : {A B : Type 0} (f : A → B) (d : A) (xs : List A) (ys : List B) → length xs ≡ length ys → map_at (λ (n : ℕ) (_ : B). f (get_or xs n d)) ys ≡ map f xs
unfolding map_at
map_at_from f d [] [] e = refl
map_at_from f d [] (y ∷ ys) e = absurd (zero_ne_suc e)
map_at_from f d (x ∷ xs) [] e = absurd (zero_ne_suc (sym e))
map_at_from {B = B} f d (x ∷ xs) (y ∷ ys) e = ap (λ (l : List B). f x ∷ l) (map_at_from f d xs ys (suc_inj e))
