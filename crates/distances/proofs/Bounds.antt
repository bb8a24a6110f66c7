-- How large the numbers of the distance rule are: no sum of them wraps. Assumes nothing.
use mathlib.Core.List.{List}
use Prim.Native.Nat.{ℕ, ◌+◌, ◌^◌, ◌≤◌, ◌<◌}
use native.Mathlib.Nat.{lt_of_lt_of_le}
use native.Mathlib.Omega.{arith}
use lib.ListN.{get_or}
use lib.Pow.{pow_mono}
use Rattle.quantiser.specs.Distance.{band_number}
use Rattle.quantiser.proofs.Laws.{band_small}
use Rattle.wavelet.specs.Transform.{Kind}
use Rattle.wavelet.specs.Bands.{Has}
use Rattle.wavelet.proofs.Components.{component_most}
use Rattle.layout.specs.declared.Shape.{Shape}
use Rattle.layout.specs.Bands.{N'x, N'y, band}
use Rattle.distances.specs.Rule.{type_of, number_of, component_number_of}
use Rattle.distances.specs.Steps.{Numbered}

module _ {s : Shape} {Fq : ℕ} {tops : List ℕ} (known : Numbered s Fq tops) where
  -- rule 1
  pub number_small : (b : ℕ) → band_number (get_or tops b 0) Fq < 2 ^ 46
  number_small b = lt_of_lt_of_le (band_small (get_or tops b 0) Fq) (pow_mono {i = get_or tops b 0 + Fq} {j = 46} (omega (arith, known.few b, known.fq)))

  -- rule 2
  pub component_small : (i : ℕ) → component_number_of s Fq tops i < 2 ^ 51
  unfolding component_number_of
  component_small i =
      let most = component_most (N'x s i) (N'y s i) (omega (arith, known.built.no_more)) (number_of s Fq tops i) (2 ^ 46) each in
      omega (arith, known.built.levels, known.built.down_levels, most)
    where
      each : (k : Kind) (dx dy : ℕ) → Has (N'x s i) (N'y s i) k dx dy → number_of s Fq tops i k dx dy ≤ 2 ^ 46
      each k dx dy _ = omega (arith, number_small (band s (type_of s k dx) i))
