-- A part of a list in its middle, lent and given back: n elements from place a on. Assumes nothing.
use mathlib.Core.Path.{◌≡◌, sym, ap, ◌∙◌}
use mathlib.Core.List.{List, ◌++◌}
use Prim.Native.Nat.{ℕ, ◌+◌, ◌-◌, ◌≤◌, ◌<◌}
use native.Mathlib.Decide.{dec_lt}
use native.Mathlib.Omega.{arith}
use lib.ListN.{length, take, drop, get_or, length-take, length-drop, length-append, get_or-append}
use lib.Seq.{length-take-le, get_or-take, get_or-drop, get_or-append-add, drop-drop}

-- how many stand from place a on and before place a + n
pub between : (a n : ℕ) → a + n - a ≡ n
between a n = omega arith

module _ {A : Type 0} (a n : ℕ) (l : List A) (fits : a + n ≤ length l) where
  pub part_length : length (take n (drop a l)) ≡ n
  part_length = simp (length-take, length-drop) (omega arith)

  pub part_at : (d : A) (j : ℕ) → j < n → get_or (take n (drop a l)) j d ≡ get_or l (a + j) d
  part_at d j h = get_or-take n (drop a l) j d h ∙ get_or-drop a l j d

  -- as many elements given back
  module _ (ys : List A) (e : length ys ≡ n) where
    abbrev back : List A
    back = take a l ++ (ys ++ drop n (drop a l))

    front : length (take a l) ≡ a
    front = length-take-le a l (omega arith)

    pub back_length : length back ≡ length l
    back_length = simp (length-append, length-drop) (omega (arith, front))

    pub back_on : (d : A) (j : ℕ) → j < n → get_or back (a + j) d ≡ get_or ys j d
    back_on d j h =
        ap (λ (m : ℕ). get_or back (m + j) d) (sym front)
        ∙ get_or-append-add (take a l) (ys ++ drop n (drop a l)) j d
        ∙ get_or-append ys (drop n (drop a l)) d j (omega arith)

    pub back_off : (d : A) (m : ℕ) → (a ≤ m → a + n ≤ m) → get_or back m d ≡ get_or l m d
    back_off d m out = pick (dec_lt m a)
      where
        behind : a + n ≤ m → get_or back m d ≡ get_or l m d
        behind h =
            let q : m ≡ length (take a l) + (length ys + (m - (a + n))) = omega (arith, front) in
            let r : a + n + (m - (a + n)) ≡ m = omega arith in
            ap (λ (k : ℕ). get_or back k d) q
            ∙ get_or-append-add (take a l) (ys ++ drop n (drop a l)) (length ys + (m - (a + n))) d
            ∙ get_or-append-add ys (drop n (drop a l)) (m - (a + n)) d
            ∙ ap (λ (t : List A). get_or t (m - (a + n)) d) (drop-drop n a l)
            ∙ get_or-drop (a + n) l (m - (a + n)) d
            ∙ ap (λ (k : ℕ). get_or l k d) r

        pick : Dec (m < a) → get_or back m d ≡ get_or l m d
        pick (yes h) = get_or-append (take a l) (ys ++ drop n (drop a l)) d m (omega (arith, front)) ∙ get_or-take a l m d h
        pick (no h) = behind (out (omega arith))
