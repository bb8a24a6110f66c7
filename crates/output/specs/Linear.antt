-- G.3, linear output scaling: what Table G.2 makes of a value, and document 01's distance rules for it.
use Rattle.std.specs.Prelude.{◌≡◌, cond, List, ℕ, ◌-◌, ◌/◌, ◌^◌, ◌≤◌, ◌<◌, min, ℤ, pos, negsuc, nat_abs, ◌+ℤ◌, eqb, length}
use Rattle.std.specs.Int.Signed.{shr_z}
use Rattle.whole.specs.Numbers.{ceil_div}
use Rattle.whole.specs.Cells.{cell, Bounded}
use Rattle.whole.specs.declared.Kind.{Kind}
use Rattle.whole.specs.declared.Kind.TheVariants.{Samples, Numbers}

-- v + ((1 << Bw) >> 1): the inverse DC level shift
abbrev pub levelled : ℕ → ℤ → ℤ
levelled Bw v = v +ℤ pos (2 ^ Bw / 2)

-- (v + ((1 << ζ) >> 1)) >> ζ: the shift to the output range
abbrev pub rescaled : ℕ → ℤ → ℤ
rescaled ζ v = shr_z (v +ℤ pos (2 ^ ζ / 2)) (2 ^ ζ)

-- clamp(v, 0, m): the clamp to the target range
abbrev pub clamp : ℕ → ℤ → ℕ
clamp m (pos n) = min n m
clamp m (negsuc n) = 0

-- Table G.2: the sample of the value v, with ζ = Bw − B and m = (1 << B) − 1
unfoldable pub sample : ℕ → ℕ → ℤ → ℕ
sample Bw B v = clamp (2 ^ B - 1) (rescaled (Bw - B) (levelled Bw v))

-- document 01, distance rule 4: e becomes ceil(e / 2^k), with k = Bw − B
abbrev pub scaled_number : ℕ → ℕ → ℕ
scaled_number k e = ceil_div e (2 ^ k)

-- document 01, distance rule 5: the smaller of this and 2^B − 1
unfoldable pub distance : ℕ → ℕ → ℕ → ℕ
distance Bw B e = min (scaled_number (Bw - B) e) (2 ^ B - 1)

-- what a value of a kind is given as
abbrev pub output_of : Kind → ℕ → ℕ → ℤ → ℕ
output_of Samples Bw B v = sample Bw B v
output_of Numbers Bw B v = distance Bw B (nat_abs v)

-- document 02, C-22: a sample that is marked lost gets 2^B − 1 in the place of its distance
abbrev pub lost_distance : ℕ → ℕ → ℕ → ℕ
lost_distance B mark d = cond (eqb mark 0) d (2 ^ B - 1)

-- the precisions of the build: B is at most 16, and at most Bw, which is at most 20 (Table A.8)
pub record Precisions (Bw B : ℕ) : Type 0 where
  pub most : B ≤ 16
  pub order : B ≤ Bw
  pub wide : Bw ≤ 20

-- what is lent for a component: its values, at most 2^60 in size, and room for as many samples
pub record Lent (Bw B : ℕ) (work : List ℤ) (out : List ℕ) : Type 0 where
  pub precisions : Precisions Bw B
  pub small : Bounded (2 ^ 60) work
  pub room : length work ≡ length out

-- where they are distance numbers none is below 0
pub record HoldingNumbers (work : List ℤ) : Type 0 where
  pub number : (j : ℕ) → j < length work → cell work j ≡ pos (nat_abs (cell work j))
