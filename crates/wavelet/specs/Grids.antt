-- A component's samples on a grid of columns 0, s, 2 s, .. and rows 0, t, 2 t, .., as the levels of Table E.1 leave them in their cells.
use Rattle.std.specs.Prelude.{◌≡◌, List, ℕ, ◌+◌, ◌*◌, ◌-◌, ◌^◌, ◌≤◌, ◌<◌, ℤ, nat_abs, length}
use Rattle.whole.specs.Cells.{cell, OntoLine}
use Rattle.wavelet.specs.Filter.{Steps, filter}
use Rattle.wavelet.specs.Transform.{Band, LL, low_size, woven, hor_transform, ver_transform, down, across, both}
use Rattle.wavelet.specs.Places.{sample_at, place, bands, Sheet}
use Rattle.wavelet.specs.Lines.{line}

-- l' is l with the band g on the grid, and with no other sample changed
pub record Gridded (w h s t : ℕ) (g : Band ℤ) (l l' : List ℤ) : Type 0 where
  pub same : length l' ≡ length l
  pub on : (x y : ℕ) → x * s < w → y * t < h → sample_at w l' (x * s) (y * t) ≡ g x y
  pub off : (c r : ℕ) → c < w → r < h → ((x y : ℕ) → c ≡ x * s → r ≡ y * t → ⊥) → sample_at w l' c r ≡ sample_at w l c r

-- every sample is at most B in size
pub record SamplesWithin (w h B : ℕ) (l : List ℤ) : Type 0 where
  pub most : (c r : ℕ) → c < w → r < h → nat_abs (sample_at w l c r) ≤ B

module _ (S : Steps ℤ) where
  -- ---- Table E.1's two loops over the samples that stand in l

  abbrev pub hor_of : ℕ → ℕ → Band ℤ → Band ℤ → Band ℤ
  hor_of w d = hor_transform S (low_size w d)

  abbrev pub ver_of : ℕ → ℕ → Band ℤ → Band ℤ → Band ℤ
  ver_of h d = ver_transform S (low_size h d)

  -- one turn of the first loop, and of the second
  abbrev pub across_turn : ℕ → ℕ → ℕ → List ℤ → ℕ → Band ℤ → Band ℤ
  across_turn w h ny l = across (hor_of w) (ver_of h) (bands (sample_at w l)) ny

  abbrev pub both_turn : ℕ → ℕ → List ℤ → ℕ → Band ℤ → Band ℤ
  both_turn w h l = both (hor_of w) (ver_of h) (bands (sample_at w l))

  -- ---- the first loop, over one row alone: the row X of w samples, from depth nx to ny

  abbrev pub row_turn : ℕ → (ℕ → ℤ) → ℕ → (ℕ → ℤ) → ℕ → ℤ
  row_turn w X d low = filter S (low_size w (d - 1)) (woven low (λ i. X (place 1 d i)))

  abbrev pub row_low : ℕ → ℕ → ℕ → (ℕ → ℤ) → ℕ → ℤ
  row_low w nx ny X = down (row_turn w X) ny (nx - ny) (λ i. X (place 0 nx i))

  -- l' is l with that in the row's places of depth ny, and with no other cell changed; its cells are at most B in size
  pub record RowLevels (w base nx ny B : ℕ) (l l' : List ℤ) : Type 0 where
    pub made : OntoLine base (2 ^ ny) (low_size w ny) (row_low w nx ny (line base 1 l)) l l'
    pub within : (c : ℕ) → c < w → nat_abs (cell l' (base + c)) ≤ B

  -- the first loop over all rows that are multiples of 2^ny
  pub record AcrossLevels (w h nx ny B : ℕ) (l l' : List ℤ) : Type 0 where
    pub made : Gridded w h (2 ^ ny) (2 ^ ny) (down (across_turn w h ny l) ny (nx - ny) (bands (sample_at w l) LL nx ny)) l l'
    pub within : SamplesWithin w h B l'

  -- ---- the second loop

  -- the grid of depth d, each row filtered and then each column
  abbrev pub level_band : ℕ → ℕ → ℕ → List ℤ → Band ℤ
  level_band w h d l x y = filter S (low_size h d) (λ j. filter S (low_size w d) (λ i. sample_at w l (i * 2 ^ d) (j * 2 ^ d)) x) y

  -- its ny turns, from whatever band stands on the grid of depth ny, with l₀ elsewhere
  pub record BothLevels (w h ny : ℕ) (l l' : List ℤ) : Type 0 where
    pub made : {l₀ : List ℤ} {low : Band ℤ} → Gridded w h (2 ^ ny) (2 ^ ny) low l₀ l → Gridded w h (2 ^ 0) (2 ^ 0) (down (both_turn w h l₀) 0 ny low) l₀ l'

-- ---- what is asked of the cells

-- a row of w cells from `base` on, that nx levels can be made of, of which the first ny are left alone; each of at most B in size
pub record Row (w base nx ny B : ℕ) (l : List ℤ) : Type 0 where
  pub narrow : w ≤ 16384
  pub levels : nx ≤ 5
  pub fewer : ny ≤ nx
  pub two : (d : ℕ) → d < nx → 2 ≤ low_size w d
  pub inside : base + w ≤ length l
  pub most : (c : ℕ) → c < w → nat_abs (cell l (base + c)) ≤ B

-- the grid of depth d of such a sheet, with lines of two samples or more
pub record Pass (w h d len : ℕ) : Type 0 where
  pub sheet : Sheet w h len
  pub depth : d ≤ 5
  pub two_across : 2 ≤ low_size w d
  pub two_down : 2 ≤ low_size h d
