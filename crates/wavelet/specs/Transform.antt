-- E.2 to E.5: the order of directions and levels, over band arrays T[β, x, y]. A filter type β is written as the standard writes it, by two
-- letters (the first is the horizontal filter, H for high-pass) and its depths d_x and d_y.
use Rattle.std.specs.Prelude.{cond, ℕ, zero, suc, ◌+◌, ◌-◌, ◌/◌, ◌%◌, ◌^◌, min, eqb}
use Rattle.whole.specs.Numbers.{ceil_div}
use Rattle.wavelet.specs.Filter.{Steps, filter}

-- B.2: the size of a band, at depth d of a component's size n, in a direction where it is low-pass, and where it is high-pass
abbrev pub low_size : ℕ → ℕ → ℕ
low_size n d = ceil_div n (2 ^ d)

abbrev pub high_size : ℕ → ℕ → ℕ
high_size n d = ceil_div n (2 ^ (d - 1)) / 2

-- B.2: the letters of a filter type
pub data Kind : Type 0 where
  LL : Kind
  HL : Kind
  LH : Kind
  HH : Kind

-- T[β, x, y] for one β: column x, row y
abbrev pub Band : Type 0 → Type 0
Band A = ℕ → ℕ → A

-- E.3, E.4: the line X that a filter is given, low-pass samples at even places, high-pass samples at odd places
unfoldable pub woven : {A : Type 0} → (ℕ → A) → (ℕ → A) → ℕ → A
woven L H i = cond (eqb (i % 2) 0) (L (i / 2)) (H (i / 2))

-- E.4, Table E.3, and E.5, Table E.4 (whose high-pass input is T[βH, x, i]): Z is the output band's width, or height
unfoldable pub hor_transform : {A : Type 0} → Steps A → ℕ → Band A → Band A → Band A
hor_transform S Z L H x y = filter S Z (woven (λ i. L i y) (λ i. H i y)) x

unfoldable pub ver_transform : {A : Type 0} → Steps A → ℕ → Band A → Band A → Band A
ver_transform S Z L H x y = filter S Z (woven (λ i. L x i) (λ i. H x i)) y

-- for (d = to + n; d > to; d = d − 1) s = turn(d, s)
unfoldable pub down : {S : Type 0} → (ℕ → S → S) → ℕ → ℕ → S → S
down turn to zero s = s
down turn to (suc n) s = down turn to n (turn (to + suc n) s)

-- E.2, Table E.1, for one component. The loops carry the band LL; `hor` and `ver` are given the depth of the band that they make. They are
-- parameters, so that bands of samples, bands of numbers and one number for each band (Distance) go the same way
module _ {X : Type 0} (hor ver : ℕ → X → X → X) (T : Kind → ℕ → ℕ → X) where
  abbrev pub across : ℕ → ℕ → X → X
  across Ny dx low = hor (dx - 1) low (T HL dx Ny)

  abbrev pub both : ℕ → X → X
  both d low = ver (d - 1) (hor (d - 1) low (T HL d d)) (hor (d - 1) (T LH d d) (T HH d d))

  unfoldable pub table_E1 : ℕ → ℕ → X
  table_E1 Nx Ny = down both 0 (min Nx Ny) (down (across Ny) (min Nx Ny) (Nx - min Nx Ny) (T LL Nx Ny))

-- the output O[x, y] of a component of W by H samples with Nx levels across and Ny down
unfoldable pub inverse : {A : Type 0} → Steps A → ℕ → ℕ → ℕ → ℕ → (Kind → ℕ → ℕ → Band A) → Band A
inverse S W H Nx Ny T = table_E1 (λ d. hor_transform S (low_size W d)) (λ d. ver_transform S (low_size H d)) T Nx Ny
