-- Laws of a distance for each sample, by document 01's rule taken place by place: how far a sample may be off, that no distance is above its component's, and which
-- coefficients count. Assumes nothing.
use mathlib.Core.Path.{◌≡◌, ap}
use mathlib.Core.Bool.{Bool, false}
use Prim.Native.Nat.{ℕ, ◌≤◌}
use native.Mathlib.Omega.{arith}
use Rattle.whole.specs.Numbers.{Within, Near}
use Rattle.wavelet.specs.Transform.{Kind}
use Rattle.wavelet.specs.Distance.{numbers, component_number}
use Rattle.wavelet.proofs.Components.{inverse_joined}
use Rattle.colour.specs.Rct.{numbers_rct}
use Rattle.colour.specs.Table.{coloured_number}
use Rattle.colour.proofs.Table.{number_grows}
use Rattle.output.specs.Linear.{distance}
use Rattle.output.proofs.Laws.{distance_grows}
use Rattle.layout.specs.declared.Shape.{Shape}
use Rattle.layout.specs.Bands.{N'x, N'y}
use Rattle.layout.specs.Built.{Built}
use Rattle.planes.specs.Values.{Bands, Coefficients, Every, samples_of}
use Rattle.planes.specs.Places.{Inside, Colours}
use Rattle.planes.specs.Numbers.{numbered, numbers_of, measured, distances_at}
use Rattle.planes.specs.Marks.{mark_of}
use Rattle.planes.proofs.Colouring.{same_place, behind}
use Rattle.planes.proofs.Laws.{samples_of_near_places}
use Rattle.planes.proofs.Marking.{kind_shielded}

module _ {s : Shape} (built : Built s) {Cpih : ℕ} (colours : Colours s Cpih) (Bw : ℕ) (B : ℕ → ℕ) (N : Bands ℕ) where
  -- coefficients that differ by at most their numbers make samples that differ by at most the distances of their places
  pub distances_near : (T T' : Coefficients) → Every s (λ i k dx dy x y. Within (N i k dx dy x y) (T i k dx dy x y) (T' i k dx dy x y))
      → (i x y : ℕ) → Inside s i x y → Near (distances_at s Cpih Bw B N i x y) (samples_of s Cpih Bw B T i x y) (samples_of s Cpih Bw B T' i x y)
  unfolding measured
  distances_near = samples_of_near_places built colours Bw B N (numbers_of s Cpih N) (λ x y. behind Cpih (λ i. numbered s N i x y))

  -- numbers of at most their band's make distances of at most their component's
  pub distances_most : (M : ℕ → Kind → ℕ → ℕ → ℕ) → Every s (λ i k dx dy x y. N i k dx dy x y ≤ M i k dx dy)
      → (i x y : ℕ) → Inside s i x y
      → distances_at s Cpih Bw B N i x y ≤ distance Bw (B i) (coloured_number Cpih (λ j. component_number (N'x s j) (N'y s j) (M j)) i)
  unfolding measured
  distances_most M given i x y p =
      distance_grows Bw (B i)
      (number_grows Cpih (λ j. numbered s N j x y) (λ j. component_number (N'x s j) (N'y s j) (M j))
      (λ one j h. at j (same_place built (colours.full one) p j (omega (arith, colours.three one)))) i (at i p))
    where
      at : (j : ℕ) → Inside s j x y → numbered s N j x y ≤ component_number (N'x s j) (N'y s j) (M j)
      at j q = inverse_joined (built.sampled j q.component).parts (N j) (M j) (given j q.component) x y q.column q.row

  -- numbers that agree where no coefficient is lost make distances that agree where no mark is
  pub distances_shielded : (N' : Bands ℕ) (lost : Bands Bool) → Every s (λ i k dx dy x y. lost i k dx dy x y ≡ false → N i k dx dy x y ≡ N' i k dx dy x y)
      → (i x y : ℕ) → Inside s i x y → mark_of s Cpih lost i x y ≡ false → distances_at s Cpih Bw B N i x y ≡ distances_at s Cpih Bw B N' i x y
  unfolding measured coloured_number
  distances_shielded N' lost given i x y p e =
      ap (distance Bw (B i))
      (kind_shielded built colours lost numbers (λ a b c. let r = numbers_rct (record { c0 = a; c1 = b; c2 = c }) in (r.c0, r.c1, r.c2)) N N' given i x y p e)
