-- A line's places: what a loop that writes f's values to them, one after the other, holds after n turns. Assumes nothing.
use mathlib.Core.List.{List}
use mathlib.Core.Path.{◌≡◌, refl, ap, ap₂, ◌∙◌}
use Prim.Native.Nat.{ℕ, zero, suc, ◌+◌, ◌*◌, ◌<◌}
use native.Mathlib.Numerals.{add-one}
use native.Mathlib.Nat.{add-zero, add-suc, add_assoc, add-mul, mul-lt-mul_of_pos_right}
use native.Mathlib.Decide.{dec_lt}
use native.Mathlib.Omega.{arith}
use lib.IntN.{ℤ, pos}
use lib.ListN.{length, set, length-set}
use lib.Seq.{get_or-set_same, get_or-set_other}
use Rattle.whole.specs.Cells.{cell}
use Rattle.values.specs.Line.{placed}

module _ (first stride : ℕ) where
  pub placed_length : (f : ℕ → ℤ) (n : ℕ) (cells : List ℤ) → length (placed first stride f n cells) ≡ length cells
  unfolding placed
  placed_length f zero cells = refl
  placed_length f (suc n) cells = simp length-set (placed_length f n cells)

  pub placed_same : (f g : ℕ → ℤ) (n : ℕ) (cells : List ℤ) → ((k : ℕ) → k < n → f k ≡ g k) → placed first stride f n cells ≡ placed first stride g n cells
  unfolding placed
  placed_same f g zero cells h = refl
  placed_same f g (suc n) cells h =
      ap₂ (λ (l : List ℤ) (z : ℤ). set l (first + n * stride) z) (placed_same f g n cells (λ k l. h k (omega arith))) (h n (omega arith))

  -- n places, and then m more
  pub placed_join : (f : ℕ → ℤ) (n m : ℕ) (cells : List ℤ)
      → placed first stride f (n + m) cells ≡ placed (first + n * stride) stride (λ k. f (n + k)) m (placed first stride f n cells)
  unfolding placed
  placed_join f n zero cells = rw (add-zero n)
  placed_join f n (suc m) cells = rw (add-suc, placed_join f n m cells, add-mul n m stride, add_assoc)

  -- a cell that is no place is as it was
  pub placed_other : (f : ℕ → ℤ) (n : ℕ) (cells : List ℤ) (p : ℕ) → ((x : ℕ) → x < n → p ≡ first + x * stride → ⊥)
      → cell (placed first stride f n cells) p ≡ cell cells p
  unfolding placed
  placed_other f zero cells p h = refl
  placed_other f (suc n) cells p h =
      get_or-set_other (placed first stride f n cells) (first + n * stride) p (f n) (pos 0) (h n (omega arith))
      ∙ placed_other f n cells p (λ x l. h x (omega arith))

  -- a place holds its value: places that are apart do not write over each other
  pub placed_at : (f : ℕ → ℤ) (n : ℕ) (cells : List ℤ) (x : ℕ) → 0 < stride → x < n → first + x * stride < length cells
      → cell (placed first stride f n cells) (first + x * stride) ≡ f x
  unfolding placed
  placed_at f zero cells x s h i = absurd (omega arith)
  placed_at f (suc n) cells x s h i = pick (placed_at f n cells x s) (dec_lt x n)
    where
      pick : (x < n → first + x * stride < length cells → cell (placed first stride f n cells) (first + x * stride) ≡ f x) → Dec (x < n)
          → cell (set (placed first stride f n cells) (first + n * stride) (f n)) (first + x * stride) ≡ f x
      pick before (yes l) =
          get_or-set_other (placed first stride f n cells) (first + n * stride) (first + x * stride) (f n) (pos 0)
          (λ e. omega (arith, mul-lt-mul_of_pos_right l s))
          ∙ before l i
      pick before (no l) =
          let e : x ≡ n = omega arith in
          rw e (get_or-set_same (placed first stride f n cells) (first + n * stride) (f n) (pos 0) (rw (placed_length f n cells, ← e) i))

-- the invariant of such a loop, with n places written
pub record Placing (first stride : ℕ) (f : ℕ → ℤ) (n : ℕ) (cells₀ cells : List ℤ) : Type 0 where
  pub same : cells ≡ placed first stride f n cells₀
  pub long : length cells ≡ length cells₀

pub placing : {first stride : ℕ} {f : ℕ → ℤ} {n : ℕ} {cells₀ cells : List ℤ} → cells ≡ placed first stride f n cells₀ → Placing first stride f n cells₀ cells
placing {first} {stride} {f} {n} {cells₀} e = record { same = e; long = ap length e ∙ placed_length first stride f n cells₀ }

pub starts : {first stride : ℕ} {f : ℕ → ℤ} {cells : List ℤ} → Placing first stride f 0 cells cells
unfolding placed
starts = placing refl

pub places : {first stride : ℕ} {f : ℕ → ℤ} {n : ℕ} {cells₀ cells : List ℤ} {z : ℤ} → Placing first stride f n cells₀ cells → z ≡ f n
    → Placing first stride f (n + 1) cells₀ (set cells (first + n * stride) z)
unfolding placed
places {first} {stride} {n = n} {z = z} p e = placing (rw (add-one n, ← e) (ap (λ (l : List ℤ). set l (first + n * stride) z) p.same))
