-- Annex E keeps every relation that the steps of its filter keep: equal bands make equal samples, near bands near samples, small bands small
-- ones. Each law is stated of three kinds of value at once, so that two samples and a number for their distance can stand in it; a law of fewer
-- leaves the others out. Assumes nothing.
use mathlib.Core.Path.{◌≡◌}
use Prim.Native.Nat.{ℕ, zero, suc, ◌+◌, ◌*◌, ◌-◌, ◌/◌, ◌%◌, ◌≤◌, ◌<◌}
use native.Mathlib.Decide.{ℕ_discrete, dec_lt}
use native.Mathlib.Omega.{arith}
use borrow.Author.Tests.{lt-ltb, le-ltb, eq-eqb, ne_eqb}
use lib.IntN.{pos, ◌-ℤ◌}
use Rattle.whole.specs.Numbers.{ceil_div, gap}
use Rattle.wavelet.specs.Filter.{extended, Steps, even_out, odd_out, filter}
use Rattle.wavelet.specs.Transform.{Band, low_size, high_size, woven, hor_transform, ver_transform}
use Rattle.wavelet.proofs.Borders.{one_less}
use Rattle.wavelet.proofs.Halves.{low_half}

-- what the two steps ask for a filter to join a low part that is L-related and a high part that is H-related: its even samples are E-related, and
-- all of its samples P-related
pub record Joins {A B C : Type 0} (S : Steps A) (S' : Steps B) (S'' : Steps C) (L H E P : A → B → C → Type 0) : Type 0 where
  pub at_even : {x l r : A} {x' l' r' : B} {x'' l'' r'' : C} → L x x' x'' → H l l' l'' → H r r' r''
      → E (S.even x l r) (S'.even x' l' r') (S''.even x'' l'' r'')
  pub at_odd : {x l r : A} {x' l' r' : B} {x'' l'' r'' : C} → H x x' x'' → E l l' l'' → E r r' r''
      → P (S.odd x l r) (S'.odd x' l' r') (S''.odd x'' l'' r'')
  pub of_even : {x : A} {x' : B} {x'' : C} → E x x' x'' → P x x' x''

-- the same with one relation
abbrev pub Keeps : {A B C : Type 0} → Steps A → Steps B → Steps C → (A → B → C → Type 0) → Type 0
Keeps S S' S'' R = Joins S S' S'' R R R R

-- ---- a line, read up to two places past its ends

module _ {A B C : Type 0} (Z : ℕ) (two : 2 ≤ Z) (X : ℕ → A) (X' : ℕ → B) (X'' : ℕ → C) (b : ℕ) (R : A → B → C → Type 0)
    (given : (k : ℕ) → k < Z → k % 2 ≡ b → R (X k) (X' k) (X'' k)) where
  read : (p : ℕ) → p ≤ Z + 1 → p % 2 ≡ b → R (extended Z X (pos p)) (extended Z X' (pos p)) (extended Z X'' (pos p))
  unfolding extended
  read p h e = pick (dec_lt p Z)
    where
      pick : Dec (p < Z) → R (extended Z X (pos p)) (extended Z X' (pos p)) (extended Z X'' (pos p))
      pick (yes k) = rw (lt-ltb p Z k) (given p k e)
      pick (no k) = rw (le-ltb p Z (omega arith)) (given (gap (2 * (Z - 1)) p) (omega arith) (omega arith))

  read_left : (p : ℕ) → p ≤ Z + 1 → (p + 1) % 2 ≡ b
      → R (extended Z X (pos p -ℤ pos 1)) (extended Z X' (pos p -ℤ pos 1)) (extended Z X'' (pos p -ℤ pos 1))
  unfolding extended
  read_left zero h e = given 1 two e
  read_left (suc p) h e = rw (one_less (suc p) p (omega arith)) (read p (omega arith) (omega arith))

-- ---- the filter

module _ {A : Type 0} (a h : ℕ → A) where
  pub woven_low : (k : ℕ) → k % 2 ≡ 0 → woven a h k ≡ a (k / 2)
  unfolding woven
  woven_low k e = rw (eq-eqb (k % 2) 0 e)

  pub woven_high : (k : ℕ) → k % 2 ≡ 1 → woven a h k ≡ h (k / 2)
  unfolding woven
  woven_high k e = rw (ne_eqb (k % 2) 0 (omega arith))

module _ {A B C : Type 0} {S : Steps A} {S' : Steps B} {S'' : Steps C} {L H E P : A → B → C → Type 0} (joins : Joins S S' S'' L H E P)
    (Z : ℕ) (two : 2 ≤ Z) where
  module _ (X : ℕ → A) (X' : ℕ → B) (X'' : ℕ → C) (low : (k : ℕ) → k < Z → k % 2 ≡ 0 → L (X k) (X' k) (X'' k))
      (high : (k : ℕ) → k < Z → k % 2 ≡ 1 → H (X k) (X' k) (X'' k)) where
    evens : (p : ℕ) → p ≤ Z → p % 2 ≡ 0 → E (even_out S Z X (pos p)) (even_out S' Z X' (pos p)) (even_out S'' Z X'' (pos p))
    unfolding even_out
    evens p h e =
        joins.at_even (read Z two X X' X'' 0 L low p (omega arith) e) (read_left Z two X X' X'' 1 H high p (omega arith) (omega arith))
        (read Z two X X' X'' 1 H high (p + 1) (omega arith) (omega arith))

    odds : (p : ℕ) → p < Z → p % 2 ≡ 1 → P (odd_out S Z X (pos p)) (odd_out S' Z X' (pos p)) (odd_out S'' Z X'' (pos p))
    unfolding odd_out
    odds p h e =
        joins.at_odd (read Z two X X' X'' 1 H high p (omega arith) e)
        (rw (one_less p (p - 1) (omega arith)) (evens (p - 1) (omega arith) (omega arith)))
        (evens (p + 1) (omega arith) (omega arith))

    pub filter_keeps : (i : ℕ) → i < Z → P (filter S Z X i) (filter S' Z X' i) (filter S'' Z X'' i)
    unfolding filter
    filter_keeps i h = pick (ℕ_discrete (i % 2) 0)
      where
        pick : Dec (i % 2 ≡ 0) → P (filter S Z X i) (filter S' Z X' i) (filter S'' Z X'' i)
        pick (yes e) = rw (eq-eqb (i % 2) 0 e) (joins.of_even (evens i (omega arith) e))
        pick (no e) = rw (ne_eqb (i % 2) 0 e) (odds i h (omega arith))

  -- a line that is woven of a low-pass and a high-pass part, each read at its own places alone
  module _ {a h : ℕ → A} {a' h' : ℕ → B} {a'' h'' : ℕ → C} (low : (i : ℕ) → i < ceil_div Z 2 → L (a i) (a' i) (a'' i))
      (high : (i : ℕ) → i < Z / 2 → H (h i) (h' i) (h'' i)) where
    pub woven_keeps : (i : ℕ) → i < Z → P (filter S Z (woven a h) i) (filter S' Z (woven a' h') i) (filter S'' Z (woven a'' h'') i)
    woven_keeps = filter_keeps (woven a h) (woven a' h') (woven a'' h'') at_low at_high
      where
        at_low : (k : ℕ) → k < Z → k % 2 ≡ 0 → L (woven a h k) (woven a' h' k) (woven a'' h'' k)
        at_low k l e = rw (woven_low a h k e, woven_low a' h' k e, woven_low a'' h'' k e) (low (k / 2) (omega arith))

        at_high : (k : ℕ) → k < Z → k % 2 ≡ 1 → H (woven a h k) (woven a' h' k) (woven a'' h'' k)
        at_high k l e = rw (woven_high a h k e, woven_high a' h' k e, woven_high a'' h'' k e) (high (k / 2) (omega arith))

-- the filter reads the line's own samples alone
pub equal : {A : Type 0} (S : Steps A) → Keeps S S S (λ x y _. x ≡ y)
equal S = record { at_even = λ p q r. cc; at_odd = λ p q r. cc; of_even = λ p. p }

pub filter_cong : {A : Type 0} (S : Steps A) (Z : ℕ) → 2 ≤ Z → (X X' : ℕ → A) → ((i : ℕ) → i < Z → X i ≡ X' i)
    → (i : ℕ) → i < Z → filter S Z X i ≡ filter S Z X' i
filter_cong S Z two X X' same = filter_keeps (equal S) Z two X X' X' (λ k h _. same k h) (λ k h _. same k h)

-- ---- bands: B.2's sizes of the two inputs at depth d and of the output one level up. A row, or a column, is any that both inputs have

-- the two filters of `inverse`, which are given the depth of the band that they make
abbrev pub hor_at : {A : Type 0} → Steps A → ℕ → ℕ → Band A → Band A → Band A
hor_at S W d = hor_transform S (low_size W d)

abbrev pub ver_at : {A : Type 0} → Steps A → ℕ → ℕ → Band A → Band A → Band A
ver_at S H d = ver_transform S (low_size H d)

module _ {A B C : Type 0} {S : Steps A} {S' : Steps B} {S'' : Steps C} {L H E P : A → B → C → Type 0} (joins : Joins S S' S'' L H E P)
    (n d : ℕ) (up : 0 < d) (two : 2 ≤ low_size n (d - 1)) (a h : Band A) (a' h' : Band B) (a'' h'' : Band C) where
  pub hor_keeps : (y : ℕ) → ((i : ℕ) → i < low_size n d → L (a i y) (a' i y) (a'' i y)) → ((i : ℕ) → i < high_size n d → H (h i y) (h' i y) (h'' i y))
      → (x : ℕ) → x < low_size n (d - 1) → P (hor_at S n (d - 1) a h x y) (hor_at S' n (d - 1) a' h' x y) (hor_at S'' n (d - 1) a'' h'' x y)
  unfolding hor_transform
  hor_keeps y low high = woven_keeps joins (low_size n (d - 1)) two (λ i l. low i (rw (low_half n d up) at l)) high

  pub ver_keeps : (x : ℕ) → ((i : ℕ) → i < low_size n d → L (a x i) (a' x i) (a'' x i)) → ((i : ℕ) → i < high_size n d → H (h x i) (h' x i) (h'' x i))
      → (y : ℕ) → y < low_size n (d - 1) → P (ver_at S n (d - 1) a h x y) (ver_at S' n (d - 1) a' h' x y) (ver_at S'' n (d - 1) a'' h'' x y)
  unfolding ver_transform
  ver_keeps x low high = woven_keeps joins (low_size n (d - 1)) two (λ i l. low i (rw (low_half n d up) at l)) high
