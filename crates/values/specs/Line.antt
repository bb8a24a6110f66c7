-- One line of one band: its code groups in their order, each with the next nibbles of the data subpacket and the next bits of the sign subpacket.
use Rattle.std.specs.Prelude.{Bool, List, ℕ, zero, suc, ◌+◌, ◌*◌, ◌/◌, ◌%◌, ◌^◌, ◌≤◌, ◌<◌, ℤ, set}
use Rattle.whole.specs.Cells.{cell}
use Rattle.bits.specs.Groups.{Ng, Ncg, nibbles_of, count_cell_of, held_m}
use Rattle.quantiser.specs.Inverse.{coefficient_of, scaled}
use Rattle.values.specs.Group.{sign_bits_of, index}
use Rattle.values.specs.declared.Coding.{Coding}
use Rattle.values.specs.declared.Line.{Line}
use Rattle.values.specs.declared.Next.{Next}

-- ---- where the line stands

-- the cell of coefficient x
abbrev pub place : Line → ℕ → ℕ
place l x = l.first + x * l.stride

-- the count cell of group g
abbrev pub count_place : Line → ℕ → ℕ
count_place l g = count_cell_of l.first l.stride l.area g

-- what is asked of a line in n cells: its coefficient cells, and what stands `area` behind them, lie inside, and the coefficient cells span less
-- than `area`, so that none of them is a count cell. The other bounds keep the sums in a word
pub record Fit (how : Coding) (l : Line) (from : Next) (n : ℕ) : Type 0 where
  pub inside : (x : ℕ) → x < l.width → place l x + l.area < n
  pub apart : (x : ℕ) → x < l.width → x * l.stride < l.area
  pub width : l.width < 2 ^ 32
  pub at : from.at < 2 ^ 62
  pub sign : from.sign < 2 ^ 62
  pub fq : how.fq ≤ 15

-- ---- what it takes of the data subpacket and of the sign subpacket

-- M[p, λ, b, g], by its count cell
unfoldable pub M : Line → List ℤ → ℕ → ℕ
M l cells g = held_m (cell cells (count_place l g))

-- the next nibble of the one and the next bit of the other, behind the first g code groups of a line. The groups have these M, the band this T, and the line
-- begins at `from`
unfoldable pub behind : List ℕ → Bool → ℕ → (ℕ → ℕ) → Next → ℕ → Next
behind dat fs T M from zero = from
behind dat fs T M from (suc g) =
    let n = behind dat fs T M from g in
    record { at = n.at + nibbles_of (M g) T fs; sign = n.sign + sign_bits_of dat fs (M g) T n.at }

-- where group g begins
abbrev pub group_at : List ℕ → Coding → Line → Next → List ℤ → ℕ → Next
group_at dat how l from cells g = behind dat how.fs l.t (M l cells) from g

-- ---- what it leaves

-- the cells with f at the first n of the places that start at `first` and are `stride` apart
unfoldable pub placed : ℕ → ℕ → (ℕ → ℤ) → ℕ → List ℤ → List ℤ
placed first stride f zero cells = cells
placed first stride f (suc x) cells = set (placed first stride f x cells) (first + x * stride) (f x)

module _ (dat sgn : List ℕ) (how : Coding) (l : Line) (from : Next) (cells : List ℤ) where
  -- the signed index of coefficient x
  unfoldable pub index_at : ℕ → ℤ
  index_at x =
      let n = group_at dat how l from cells (x / Ng) in
      index dat how.fs (M l cells (x / Ng)) l.t n.at sgn n.sign (x % Ng)

  -- its coefficient: Annex D, and c << Fq of E.3
  unfoldable pub value_at : ℕ → ℤ
  value_at x = scaled how.fq (coefficient_of how.uniform (M l cells (x / Ng)) l.t (index_at x))

  -- what comes next in both subpackets, and the cells with the line's coefficients
  unfoldable pub line_values : Next × List ℤ
  line_values = (
    group_at dat how l from cells (Ncg l.width),
    placed l.first l.stride value_at l.width cells,
  )
