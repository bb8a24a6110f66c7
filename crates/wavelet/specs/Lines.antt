-- Cells of a lent slice, and what filtering them in place leaves: a line of them, and a grid of rows.
use Rattle.std.specs.Prelude.{◌≡◌, List, ℕ, ◌+◌, ◌*◌, ◌≤◌, ◌<◌, ℤ, nat_abs, length}
use Rattle.whole.specs.Cells.{cell, Onto}
use Rattle.wavelet.specs.Filter.{Steps, filter}

-- ---- a line: n cells from `base` on, `stride` apart

-- its k-th cell
abbrev pub line : ℕ → ℕ → List ℤ → ℕ → ℤ
line base stride l k = cell l (base + k * stride)

-- at least 2 cells, all in the slice, and each of at most B in size
pub record Line (base stride n B : ℕ) (cells : List ℤ) : Type 0 where
  pub two : 2 ≤ n
  pub stride_up : 0 < stride
  pub inside : (k : ℕ) → k < n → base + k * stride < length cells
  pub most : (k : ℕ) → k < n → nat_abs (line base stride cells k) ≤ B

-- ---- a grid: n rows, t apart, of m cells each, s apart. Its cell (k, q) is the q-th of row k

abbrev pub OntoGrid : ℕ → ℕ → ℕ → ℕ → (ℕ × ℕ → ℤ) → List ℤ → List ℤ → Type 0
OntoGrid s m t n = Onto {I = ℕ × ℕ} (λ i. i.0 * t + i.1 * s) (λ i. (i.0 < n) × (i.1 < m))

-- at least 2 rows and 2 columns, all in a slice of that length, and no two cells the same
pub record Grid (s m t n len : ℕ) : Type 0 where
  pub two_across : 2 ≤ m
  pub two_down : 2 ≤ n
  pub s_up : 0 < s
  pub t_up : 0 < t
  pub inside : (k q : ℕ) → k < n → q < m → k * t + q * s < len
  pub apart : (k q k' q' : ℕ) → k < n → q < m → k' < n → q' < m → k * t + q * s ≡ k' * t + q' * s → (k ≡ k') × (q ≡ q')

-- each of its cells is at most B in size
pub record GridWithin (s m t n B : ℕ) (l : List ℤ) : Type 0 where
  pub most : (k q : ℕ) → k < n → q < m → nat_abs (line (k * t) s l q) ≤ B

-- its cell (k, q) when each row is filtered, and when then each column is
module _ (S : Steps ℤ) (s m t n : ℕ) (l : List ℤ) where
  abbrev pub across_cell : ℕ × ℕ → ℤ
  across_cell i = filter S m (line (i.0 * t) s l) i.1

  abbrev pub level_cell : ℕ × ℕ → ℤ
  level_cell i = filter S n (λ k. across_cell (k, i.1)) i.0
