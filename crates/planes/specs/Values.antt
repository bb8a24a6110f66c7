-- From the coefficients of a picture to its samples: Annex E for each component, Annex F, Annex G.
use Rattle.std.specs.Prelude.{List, [], ◌++◌, ℕ, zero, suc, ◌+◌, ◌*◌, ◌/◌, ◌%◌, ◌<◌, ℤ, get_or}
use Rattle.whole.specs.Cells.{listed}
use Rattle.wavelet.specs.Filter.{Steps, samples}
use Rattle.wavelet.specs.Transform.{Kind, Band, inverse}
use Rattle.wavelet.specs.Bands.{Coefficient}
use Rattle.colour.specs.Rct.{inverse_rct}
use Rattle.colour.specs.Table.{part_of, table_F1}
use Rattle.colour.specs.declared.Pixel.{Pixel}
use Rattle.output.specs.Linear.{sample}
use Rattle.layout.specs.declared.Shape.{Shape}
use Rattle.layout.specs.Bands.{Wc, Hc, N'x, N'y}
use Rattle.layout.specs.Cells.{samples as samples_before}

-- the band arrays T[β, x, y] of each component i, with β by its letters and depths
abbrev pub Bands : Type 0 → Type 0
Bands A = ℕ → Kind → ℕ → ℕ → Band A

abbrev pub Coefficients : Type 0
Coefficients = Bands ℤ

-- a value for each component i, column x and row y
abbrev pub Values : Type 0 → Type 0
Values A = ℕ → Band A

-- a property of each coefficient that the components have
abbrev pub Every : Shape → (ℕ → Kind → ℕ → ℕ → ℕ → ℕ → Type 0) → Type 0
Every s P =
    (i : ℕ) → i < s.nc → (k : Kind) (dx dy x y : ℕ) → Coefficient (Wc s i) (Hc s i) (N'x s i) (N'y s i) k dx dy x y → P i k dx dy x y

-- Annex E, of any kind of value that its filter has steps for: every component is decomposed
abbrev pub filtered : {A : Type 0} → Steps A → Shape → Bands A → Values A
filtered S s T i = inverse S (Wc s i) (Hc s i) (N'x s i) (N'y s i) (T i)

unfoldable pub transformed : Shape → Coefficients → Values ℤ
transformed s T i = filtered samples s T i

-- the pixel in column x and row y
abbrev pub pixel_at : Values ℤ → ℕ → ℕ → Pixel ℤ
pixel_at v x y = record { c0 = v 0 x y; c1 = v 1 x y; c2 = v 2 x y }

-- component i of a pixel; a fourth component takes no part
abbrev pub pixel_part : Pixel ℤ → ℤ → ℕ → ℤ
pixel_part p = part_of p.c0 p.c1 p.c2

-- Annex F, Tables F.1 and F.2
unfoldable pub coloured : ℕ → Values ℤ → Values ℤ
coloured Cpih v i x y =
    let o : Pixel ℤ = inverse_rct (pixel_at v x y) in
    table_F1 Cpih o.c0 o.c1 o.c2 (λ j. v j x y) i

-- G.3, with each component's precision
unfoldable pub sampled : ℕ → (ℕ → ℕ) → Values ℤ → Values ℕ
sampled Bw B v i x y = sample Bw (B i) (v i x y)

-- the whole way
abbrev pub samples_of : Shape → ℕ → ℕ → (ℕ → ℕ) → Coefficients → Values ℕ
samples_of s Cpih Bw B T = sampled Bw B (coloured Cpih (transformed s T))

-- ---- 'Samples stand component by component, row by row'

abbrev pub plane : ℕ → ℕ → Band ℕ → List ℕ
plane W H f = listed (H * W) (λ j. f (j % W) (j / W))

-- the first n components
unfoldable pub planes : Shape → Values ℕ → ℕ → List ℕ
planes s f zero = []
planes s f (suc n) = planes s f n ++ plane (Wc s n) (Hc s n) (f n)

-- the value of component i in column x and row y of such a list
abbrev pub in_planes : Shape → List ℕ → Values ℕ
in_planes s l i x y = get_or l (samples_before s i + (y * Wc s i + x)) 0
