-- What the steps of the code answer. The line's definitions do not need these.
use Rattle.std.specs.Prelude.{Bool, cond, List, ◌≡◌, ℕ, ◌+◌, ◌-◌, ◌*◌, ◌^◌, ◌≤◌, ◌<◌, min, eqb, ℤ, get_or}
use Rattle.bits.specs.Fields.{field}
use Rattle.bits.specs.Groups.{Ng, nibbles_of}
use Rattle.quantiser.specs.Inverse.{coefficient_of, scaled}
use Rattle.values.specs.Group.{planes, sign_bits, sign_bits_of, index}
use Rattle.values.specs.Line.{place, count_place, M, placed}
use Rattle.values.specs.declared.Coding.{Coding}
use Rattle.values.specs.declared.Group.{Group}
use Rattle.values.specs.declared.Line.{Line}
use Rattle.values.specs.declared.Next.{Next}

-- ---- values, each with the bound that a sum asks for

pub record SignBit (v r : ℕ) : Type 0 where
  pub value : r ≡ cond (eqb v 0) 0 1
  pub most : r ≤ 1

pub record SignBits (vs : List ℕ) (r : ℕ) : Type 0 where
  pub value : r ≡ sign_bits (λ k. get_or vs k 0) Ng
  pub most : r ≤ Ng

pub record Magnitudes (dat : List ℕ) (from n : ℕ) (r : List ℕ) : Type 0 where
  pub each : (k : ℕ) → k < Ng → get_or r k 0 ≡ planes dat from n k

-- the Ng bits in which a group's signs begin
abbrev pub sign_field : List ℕ → List ℕ → Bool → ℕ → ℕ → ℕ
sign_field dat sgn fs at sign = cond fs (field sgn sign Ng) (field dat (Ng * at) Ng)

-- ---- a group in the cells

-- `count` places lie among n cells
pub record InCells (first stride count n : ℕ) : Type 0 where
  pub each : (k : ℕ) → k < count → first + k * stride < n

pub record GroupFit (how : Coding) (g : Group) (next : Next) (n : ℕ) : Type 0 where
  pub inside : InCells g.first g.stride g.count n
  pub count : g.count ≤ Ng
  pub m : g.m ≤ 31
  pub at : next.at < 2 ^ 63
  pub sign : next.sign < 2 ^ 63
  pub fq : how.fq ≤ 15

module _ (dat sgn : List ℕ) (how : Coding) (g : Group) (next : Next) where
  -- coefficient k
  unfoldable pub value : ℕ → ℤ
  value k = scaled how.fq (coefficient_of how.uniform g.m g.t (index dat how.fs g.m g.t next.at sgn next.sign k))

  -- what comes next, and the cells with those coefficients that the line has
  unfoldable pub group_values : List ℤ → Next × List ℤ
  group_values cells = (
    record { at = next.at + nibbles_of g.m g.t how.fs; sign = next.sign + sign_bits_of dat how.fs g.m g.t next.at },
    placed g.first g.stride value g.count cells,
  )

-- ---- the groups of a line

-- group g is there, and its count cell is among n
pub record HasGroup (l : Line) (g n : ℕ) : Type 0 where
  pub some : Ng * g < l.width
  pub inside : count_place l g < n

unfoldable pub group_of : Line → List ℤ → ℕ → Group
group_of l cells g =
    record { first = place l (Ng * g); stride = l.stride; count = min Ng (l.width - Ng * g); m = M l cells g; t = l.t }
