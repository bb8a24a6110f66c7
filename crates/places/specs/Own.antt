-- Document 01's distance rule 1, place by place. Document 02, C-22: 'a coefficient has its own (2^T − 1) × 2^Fq'. Every coefficient has it, whatever its value is.
use Rattle.std.specs.Prelude.{List, ℕ}
use Rattle.quantiser.specs.Distance.{band_number}
use Rattle.layout.specs.Bands.{band}
use Rattle.layout.specs.Precincts.{slice_with, number_with}
use Rattle.packets.specs.declared.Setting.{Setting}
use Rattle.packets.specs.Precincts.{T}
use Rattle.slices.specs.Walk.{walk_has}
use Rattle.planes.specs.Values.{Bands}
use Rattle.distances.specs.Rule.{type_of}

-- of a stream s, whose first slice header stands at `at`
module _ (s : List ℕ) (c : Setting) (at : ℕ) where
  -- T[p,b] of the coefficient's band and precinct. B.5 and B.11 give it the precinct, and declared lengths lead there, whether its slice is spoilt or not
  unfoldable pub truncation_at : Bands ℕ
  truncation_at i k dx dy x y =
      let β = type_of c.shape k dx in
      T c (walk_has s c at (slice_with c.shape β i y) (number_with c.shape β i x y)) (band c.shape β i)

  abbrev pub own_number : Bands ℕ
  own_number i k dx dy x y = band_number (truncation_at i k dx dy x y) c.fq
