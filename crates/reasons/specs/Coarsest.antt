-- Document 02, C-19: where an accepted page is coarsest. 'For an accepted page it names, per component before any colour transform, the lowest band that holds the
-- largest T and in it the lowest such precinct.'
use Rattle.std.specs.Prelude.{ℕ, ◌*◌, ◌/◌, ◌%◌, ◌≤◌, ◌<◌, ◌≡◌, Bool, true, cond, ◌&&◌, List, eqb, ltb}
use Rattle.layout.specs.declared.Shape.{Shape}
use Rattle.layout.specs.Bands.{NL, band_exists}
use Rattle.layout.specs.Precincts.{largest, Npx, Npy}
use Rattle.packets.specs.declared.Setting.{Setting}
use Rattle.packets.specs.declared.Precinct.{Precinct}
use Rattle.packets.specs.Precincts.{T}
use Rattle.slices.specs.Precinct.{holds}
use Rattle.slices.specs.Walk.{walk_has}
use Rattle.loops.specs.Lowest.{lowest, some}
use Rattle.reasons.specs.declared.Coarse.{Coarse}

-- B.11: the precincts of a slice that has all its rows, and all precincts of a page
abbrev pub per_slice : Shape → ℕ
per_slice s = Npx s * s.hsl

abbrev pub all : Shape → ℕ
all s = Npx s * Npy s

-- what stands in the place of a component that the page has not
abbrev pub nowhere : Coarse
nowhere = record { band = 0; precinct = 0; truncation = 0 }

-- of a stream s, whose first slice header stands at `at`
module _ (s : List ℕ) (c : Setting) (at : ℕ) where
  -- 'the standard's p = row × Np,x + column, which is the order in the stream, counted through all slices'
  unfoldable pub precinct_of : ℕ → Precinct
  precinct_of p = walk_has s c at (p / per_slice c.shape) (p % per_slice c.shape)

  -- precinct p holds a coefficient of band b
  abbrev pub held_by : ℕ → ℕ → Bool
  held_by p b = holds c (precinct_of p) b

  -- T[p,b]
  abbrev pub truncation_of : ℕ → ℕ → ℕ
  truncation_of p b = T c (precinct_of p) b

  -- 'Tᵢ = largest T[p,b] over component i's existing bands b and the precincts p that hold a coefficient of b'. Band b is of component b mod Nc
  unfoldable pub largest_in : ℕ → ℕ
  largest_in b = largest (λ p. cond (held_by p b) (truncation_of p b) 0) (all c.shape)

  unfoldable pub largest_of : ℕ → ℕ
  largest_of i = largest (λ b. cond (eqb (b % c.shape.nc) i) (largest_in b) 0) (NL c.shape)

  -- precinct p holds band b, which is of component i, with that T
  abbrev pub has_largest : ℕ → ℕ → ℕ → Bool
  has_largest i b p = eqb (b % c.shape.nc) i && (held_by p b && eqb (truncation_of p b) (largest_of i))

  -- 'The lowest band index b of component i with some such T[p,b] = Tᵢ; then the lowest p for that b'
  unfoldable pub band_of : ℕ → ℕ
  band_of i = lowest (λ b. some (has_largest i b) (all c.shape)) (NL c.shape)

  unfoldable pub precinct_number : ℕ → ℕ
  precinct_number i = lowest (has_largest i (band_of i)) (all c.shape)

  -- where component i is coarsest, all 0 where there is none
  abbrev pub coarse_of : ℕ → Coarse
  coarse_of i =
      record {
        band = cond (ltb i c.shape.nc) (band_of i) 0;
        precinct = cond (ltb i c.shape.nc) (precinct_number i) 0;
        truncation = cond (ltb i c.shape.nc) (largest_of i) 0;
      }

  -- ---- the same as a statement of a component i, its band b, precinct p and truncation position t, without any search
  pub record Coarsest (i b p t : ℕ) : Type 0 where
    -- the band exists, and is the component's
    pub band : b < NL c.shape
    pub exists : band_exists c.shape b ≡ true
    pub component : b % c.shape.nc ≡ i
    -- the precinct is one of the page's, and holds the band with this T
    pub precinct : p < all c.shape
    pub held : held_by p b ≡ true
    pub truncation : truncation_of p b ≡ t
    -- no precinct has a larger T in a band of the component that it holds, and none the same in a lower band
    pub most : (p' : ℕ) → p' < all c.shape → (b' : ℕ) → b' < NL c.shape → b' % c.shape.nc ≡ i → held_by p' b' ≡ true → truncation_of p' b' ≤ t
    pub lower_band : (p' : ℕ) → p' < all c.shape → (b' : ℕ) → b' < b → b' % c.shape.nc ≡ i → held_by p' b' ≡ true → truncation_of p' b' < t
    -- and no earlier precinct has it in this band
    pub earlier : (p' : ℕ) → p' < p → held_by p' b ≡ true → truncation_of p' b < t
