-- Where a component's coefficients and samples stand in its lent cells: each coefficient where the samples that it becomes will be, so that the
-- transform moves nothing.
use Rattle.std.specs.Prelude.{◌≡◌, List, ℕ, ◌+◌, ◌*◌, ◌-◌, ◌^◌, ◌≤◌, ◌<◌, ℤ, length}
use Rattle.whole.specs.Cells.{cell}
use Rattle.wavelet.specs.Filter.{Steps, samples}
use Rattle.wavelet.specs.Transform.{Kind, Band, inverse}
use Rattle.wavelet.specs.Bands.{τx, τy, Decomposed}

-- the sample in column x and row y of a component of w columns
abbrev pub sample_at : ℕ → List ℤ → Band ℤ
sample_at w l x y = cell l (y * w + x)

-- the column, or row, of a coefficient: the i-th at depth d, low-pass (0) or high-pass (1)
abbrev pub place : ℕ → ℕ → ℕ → ℕ
place τ d i = i * 2 ^ d + τ * 2 ^ (d - 1)

-- the band arrays that stand in the cells
abbrev pub bands : {A : Type 0} → Band A → Kind → ℕ → ℕ → Band A
bands P k dx dy x y = P (place (τx k) dx x) (place (τy k) dy y)

-- h rows of w samples that fill a slice of that length, of the built range
pub record Sheet (w h len : ℕ) : Type 0 where
  pub all : h * w ≡ len
  pub wide : 0 < w
  pub narrow : w ≤ 16384
  pub high : 0 < h
  pub low : h ≤ 16384

-- a component that the transform takes, with levels of the built range
pub record Component (w h nx ny len : ℕ) : Type 0 where
  pub sheet : Sheet w h len
  pub levels : nx ≤ 5
  pub fewer : ny ≤ 2
  pub parts : Decomposed w h nx ny

-- every cell at exit is Annex E's value, by the steps S, of the bands that stood in the cells at entry
pub record TransformedBy (S : Steps ℤ) (w h nx ny : ℕ) (l l' : List ℤ) : Type 0 where
  pub same : length l' ≡ length l
  pub made : (x y : ℕ) → x < w → y < h → sample_at w l' x y ≡ inverse S w h nx ny (bands (sample_at w l)) x y

-- the same of samples
abbrev pub Transformed : ℕ → ℕ → ℕ → ℕ → List ℤ → List ℤ → Type 0
Transformed = TransformedBy samples
