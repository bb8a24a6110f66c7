-- B.1 to B.4: the components' sizes, their filter types and depths, which bands exist, and how many coefficients each has. Sd is 0: every
-- component is decomposed. N'x, N'y, NL, band and exists are all that speak of the band list.
use Rattle.std.specs.Prelude.{Bool, cond, ℕ, zero, suc, ◌+◌, ◌*◌, ◌-◌, ◌/◌, ◌%◌, ◌^◌, min, max, eqb, ltb, get_or}
use Rattle.whole.specs.Numbers.{ceil_div}
use Rattle.wavelet.specs.Transform.{Kind, LL, HL, LH, HH}
use Rattle.wavelet.specs.Bands.{τx, τy, columns, rows}
use Rattle.layout.specs.declared.Shape.{Shape}

-- A.4.5: the sampling factors s_x[i] and s_y[i]
abbrev pub sx : Shape → ℕ → ℕ
sx s i = get_or s.sx i 0

abbrev pub sy : Shape → ℕ → ℕ
sy s i = get_or s.sy i 0

-- B.1: the samples that a component has of so many points, by its sampling factor
abbrev pub samples_of : ℕ → ℕ → ℕ
samples_of points factor = ceil_div points factor

-- in a row, and in a column, of component i
unfoldable pub Wc : Shape → ℕ → ℕ
Wc s i = samples_of s.wf (sx s i)

unfoldable pub Hc : Shape → ℕ → ℕ
Hc s i = samples_of s.hf (sy s i)

-- the logarithm of a sampling factor, which is 1 or 2
abbrev pub log2 : ℕ → ℕ
log2 n = n / 2

-- B.2: the levels down, N'_L,y = N_L,y − log2 s_y
abbrev pub levels_of : ℕ → ℕ → ℕ
levels_of NLy sy = NLy - log2 sy

-- the levels of component i, across and down
abbrev pub N'x : Shape → ℕ → ℕ
N'x s i = s.nlx

abbrev pub N'y : Shape → ℕ → ℕ
N'y s i = levels_of s.nly (sy s i)

-- ---- B.3, over N_L,x and N_L,y, where N_L,x ≥ N_L,y

-- how many filter types there are
abbrev pub filters : ℕ → ℕ → ℕ
filters NLx NLy = 2 * min NLx NLy + max NLx NLy + 1

-- the β of a filter type
abbrev pub filter_type : ℕ → ℕ → ℕ → ℕ → ℕ → ℕ → ℕ
filter_type NLx NLy τx τy dx dy = cond (ltb dy dx) (NLx - dx + τx) (NLx - NLy + τx + 2 * τy + 3 * (NLy - dy))

-- how many filter types are low-pass down to the last level (Table B.4 names the number)
abbrev pub first_types : ℕ → ℕ → ℕ
first_types NLx NLy = max NLx NLy - min NLx NLy + 1

-- Tables B.1 to B.3, from β to the letters and the depths: LL, then HL once for each level that is across alone, then HL, LH, HH for each level of both
abbrev pub letters : ℕ → Kind
letters zero = HL
letters (suc zero) = LH
letters (suc (suc n)) = HH

abbrev pub letters_of : ℕ → ℕ → ℕ → Kind
letters_of NLx NLy β = cond (eqb β 0) LL (cond (ltb β (first_types NLx NLy)) HL (letters ((β - first_types NLx NLy) % 3)))

abbrev pub across_of : ℕ → ℕ → ℕ → ℕ
across_of NLx NLy β = cond (eqb β 0) NLx (cond (ltb β (first_types NLx NLy)) (NLx + 1 - β) (NLy - (β - first_types NLx NLy) / 3))

abbrev pub down_of : ℕ → ℕ → ℕ → ℕ
down_of NLx NLy β = cond (ltb β (first_types NLx NLy)) NLy (NLy - (β - first_types NLx NLy) / 3)

-- ---- the same of a picture

abbrev pub Nβ : Shape → ℕ
Nβ s = filters s.nlx s.nly

abbrev pub β₁ : Shape → ℕ
β₁ s = first_types s.nlx s.nly

unfoldable pub kind : Shape → ℕ → Kind
kind s β = letters_of s.nlx s.nly β

-- dx[β], which is dx[β,i]
unfoldable pub dx : Shape → ℕ → ℕ
dx s β = across_of s.nlx s.nly β

-- dy[β]
unfoldable pub dy : Shape → ℕ → ℕ
dy s β = down_of s.nlx s.nly β

-- dy[β,i]: a component has no level that it is not decomposed to
unfoldable pub depth : Shape → ℕ → ℕ → ℕ
depth s β i = min (dy s β) (N'y s i)

-- B.2: the width and the height of a band
unfoldable pub Wb : Shape → ℕ → ℕ → ℕ
Wb s β i = columns (Wc s i) (kind s β) (dx s β)

unfoldable pub Hb : Shape → ℕ → ℕ → ℕ
Hb s β i = rows (Hc s i) (kind s β) (depth s β i)

-- B.3: how many bands there are, existing or not, and the index b of a band
abbrev pub NL : Shape → ℕ
NL s = s.nc * Nβ s

abbrev pub band : Shape → ℕ → ℕ → ℕ
band s β i = s.nc * β + i

-- B.4: a band exists where the first line of its filter type, which B.6 calls L0, is one of the component's
abbrev pub has_first_line : ℕ → ℕ → ℕ → ℕ → Bool
has_first_line NLy sy dy τy = eqb (2 ^ (NLy - dy) * τy % sy) 0

-- bx[β,i], with dy[β] and not dy[β,i]; and b'x[b]
unfoldable pub exists : Shape → ℕ → ℕ → Bool
exists s β i = has_first_line s.nly (sy s i) (dy s β) (τy (kind s β))

abbrev pub band_exists : Shape → ℕ → Bool
band_exists s b = exists s (b / s.nc) (b % s.nc)
