-- F.3 over a picture, in place: components 0, 1 and 2 stand in three stretches of one list, one cell for each pixel.
use Rattle.std.specs.Prelude.{◌≡◌, ◌≢◌, List, ℕ, ◌+◌, ◌^◌, ◌≤◌, ◌<◌, ℤ, length, set}
use Rattle.whole.specs.Cells.{cell}
use Rattle.colour.specs.Rct.{inverse_rct, Small}
use Rattle.colour.specs.Kinds.{Holds}
use Rattle.colour.specs.declared.Pixel.{Pixel}

-- the pixel whose components are the cells at p, q and r
abbrev pub pixel : List ℤ → ℕ → ℕ → ℕ → Pixel ℤ
pixel l p q r = record { c0 = cell l p; c1 = cell l q; c2 = cell l r }

-- the pixel o put there
abbrev pub put : List ℤ → ℕ → ℕ → ℕ → Pixel ℤ → List ℤ
put l p q r o = set (set (set l p o.c0) q o.c1) r o.c2

-- three stretches of n cells, no two of which share a cell, with pixels whose components are at most 2^60 in size
pub record Stretches (first second third n : ℕ) (l : List ℤ) : Type 0 where
  pub inside : (first + n ≤ length l) × (second + n ≤ length l) × (third + n ≤ length l)
  pub apart : (x y : ℕ) → x < n → y < n → (first + x ≢ second + y) × (first + x ≢ third + y) × (second + x ≢ third + y)
  pub small : (x : ℕ) → x < n → Small (2 ^ 60) (pixel l (first + x) (second + x) (third + x))

-- whose pixels hold numbers
pub record HoldingNumbers (first second third n : ℕ) (l : List ℤ) : Type 0 where
  pub holds : (x : ℕ) → x < n → Holds (pixel l (first + x) (second + x) (third + x))

-- l' is l after f at the n pixels, and with no other cell changed
pub record TransformedBy (f : Pixel ℤ → Pixel ℤ) (first second third n : ℕ) (l l' : List ℤ) : Type 0 where
  pub same : length l' ≡ length l
  pub on : (x : ℕ) → x < n → pixel l' (first + x) (second + x) (third + x) ≡ f (pixel l (first + x) (second + x) (third + x))
  pub off : (j : ℕ) → ((x : ℕ) → x < n → (j ≢ first + x) × (j ≢ second + x) × (j ≢ third + x)) → cell l' j ≡ cell l j

-- the same with Table F.2
abbrev pub Transformed : ℕ → ℕ → ℕ → ℕ → List ℤ → List ℤ → Type 0
Transformed = TransformedBy inverse_rct
