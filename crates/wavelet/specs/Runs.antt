-- The filter as it is computed in place: a step at each of n cells, pairs of an even place and the odd one before it, and a level in one run down. Only the
-- functions that do so speak of this; what they make together is Filter's.
use Rattle.std.specs.Prelude.{◌≡◌, cond, List, ℕ, ◌+◌, ◌*◌, ◌-◌, ◌%◌, ◌^◌, ◌≤◌, ◌<◌, min, eqb, ltb, ℤ, nat_abs, length}
use Rattle.whole.specs.Numbers.{gap}
use Rattle.wavelet.specs.Filter.{Steps}
use Rattle.whole.specs.Cells.{Onto}
use Rattle.wavelet.specs.Lines.{line, Grid, GridWithin, across_cell, level_cell}

-- the sample right of i, mirrored at the line's end; the sample left of i stands at gap i 1
abbrev pub right : ℕ → ℕ → ℕ
right Z i = min (i + 1) (gap (2 * (Z - 1)) (i + 1))

-- the step at a place that is b modulo 2
abbrev pub step : {A : Type 0} → Steps A → ℕ → A → A → A → A
step S b x l r = cond (eqb b 0) (S.even x l r) (S.odd x l r)

-- two neighbours and what rounds their sum, and a sample and its neighbours, of a size at which no sum of a step wraps
pub record Summable (l r more : ℤ) : Type 0 where
  pub small_l : nat_abs l ≤ 2 ^ 61
  pub small_r : nat_abs r ≤ 2 ^ 61
  pub small_more : nat_abs more < 4

pub record Small (x l r : ℤ) : Type 0 where
  pub small_x : nat_abs x ≤ 2 ^ 61
  pub small_l : nat_abs l ≤ 2 ^ 61
  pub small_r : nat_abs r ≤ 2 ^ 61

-- ---- a step at each of n cells

-- n cells from c on, s apart, and their neighbours from l and from r on, none of which is among them
pub record Liftable (s n c l r : ℕ) (cells : List ℤ) : Type 0 where
  pub step_up : 0 < s
  pub inside : (j : ℕ) → j < n → (c + j * s < length cells) × (l + j * s < length cells) × (r + j * s < length cells)
  pub apart : (i j : ℕ) → i < n → j < n → (l + i * s ≡ c + j * s → ⊥) × (r + i * s ≡ c + j * s → ⊥)
  pub small : (j : ℕ) → j < n → Small (line c s cells j) (line l s cells j) (line r s cells j)

-- what is left in the j-th
abbrev pub lifted : Steps ℤ → ℕ → ℕ → ℕ → ℕ → ℕ → List ℤ → ℕ → ℤ
lifted S b s c l r cells j = step S b (line c s cells j) (line l s cells j) (line r s cells j)

-- ---- pairs: an even place, of which x is the value and `high` and `next` the neighbours, and the odd place before it, which holds `high` and whose
-- even neighbours are `before`, which is done, and the even place of the pair

pub record SmallPair (before high x next : ℤ) : Type 0 where
  pub small_before : nat_abs before ≤ 2 ^ 61
  pub small_high : nat_abs high ≤ 2 ^ 60
  pub small_x : nat_abs x ≤ 2 ^ 60
  pub small_next : nat_abs next ≤ 2 ^ 60

-- what is left at the odd place (0) and at the even one (1)
abbrev pub paired : Steps ℤ → ℤ → ℤ → ℤ → ℤ → ℕ → ℤ
paired S before high x next b = cond (eqb b 0) (S.odd high before (S.even x high next)) (S.even x high next)

-- m pairs, s apart: odd places from h on, even ones t behind them, what is done t before them, and the even places' other neighbours from r on. What a
-- pair reads, no pair before it has written
pub record Pairable (s m t h r : ℕ) (cells : List ℤ) : Type 0 where
  pub s_up : 0 < s
  pub t_up : 0 < t
  pub above : t ≤ h
  pub inside : (j : ℕ) → j < m → (h + t + j * s < length cells) × (r + j * s < length cells)
  pub apart : (i j a b : ℕ) → i < m → j < m → a < 2 → b < 2 → h + a * t + i * s ≡ h + b * t + j * s → i ≡ j
  pub done_apart : (i j b : ℕ) → i < m → j < m → b < 2 → h - t + i * s ≡ h + b * t + j * s → ⊥
  pub next_apart : (i j b : ℕ) → i < m → j < m → b < 2 → r + i * s ≡ h + b * t + j * s → i ≡ j
  pub small : (j : ℕ) → j < m → SmallPair (line (h - t) s cells j) (line h s cells j) (line (h + t) s cells j) (line r s cells j)

-- what is left in the j-th pair, at its odd place (0) and at its even one (1)
abbrev pub pair_cell : Steps ℤ → ℕ → ℕ → ℕ → ℕ → List ℤ → ℕ × ℕ → ℤ
pair_cell S s t h r cells i = paired S (line (h - t) s cells i.1) (line h s cells i.1) (line (h + t) s cells i.1) (line r s cells i.1) i.0

-- ---- a level in one run down: rows are filtered along just before the columns come to them

module _ (S : Steps ℤ) (s m t n : ℕ) (l : List ℤ) where
  -- the cell (k, q) of a row that is filtered along, when the columns have come to row a
  unfoldable pub staged : ℕ → ℕ × ℕ → ℤ
  staged a i = cond (ltb i.0 a) (level_cell S s m t n l i) (across_cell S s m t n l i)

  -- l' is l with the rows below b filtered along and the columns come to row a, and with no other cell changed
  pub record Levelled (a b : ℕ) (l' : List ℤ) : Type 0 where
    pub some : a ≤ b
    pub most : b ≤ n
    pub onto : Onto {I = ℕ × ℕ} (λ i. i.0 * t + i.1 * s) (λ i. (i.0 < b) × (i.1 < m)) (staged a) l l'

-- cells in the midst of such a run, with the columns at the odd row j, which is the last that is filtered along
pub record Midway (S : Steps ℤ) (s m t n j : ℕ) (y : List ℤ) : Type 0 where
  pub l : List ℤ
  pub grid : Grid s m t n (length l)
  pub within : GridWithin s m t n (2 ^ 58) l
  pub odd : j % 2 ≡ 1
  pub run : Levelled S s m t n l j (j + 1) y

-- from there on: the columns come to row a and the rows below b are filtered along, whatever cells the run began with
pub record Onward (S : Steps ℤ) (s m t n j a b : ℕ) (y z : List ℤ) : Type 0 where
  pub goes : {l : List ℤ} → Grid s m t n (length l) → GridWithin s m t n (2 ^ 58) l → Levelled S s m t n l j (j + 1) y → Levelled S s m t n l a b z
