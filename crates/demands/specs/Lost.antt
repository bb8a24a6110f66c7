-- Document 02, C-15: where a slice is spoilt, the reading 'sets that slice's coefficients to 0'. `lost` tells of each slice whether it is.
use Rattle.std.specs.Prelude.{Bool, cond, List, ℕ, pos}
use Rattle.planes.specs.Values.{Bands, Coefficients}
use Rattle.reader.specs.Page.{header_of}
use Rattle.reader.specs.Modes.{by_slice}

module _ (s : List ℕ) (lost : ℕ → Bool) where
  -- B.5, B.11: a coefficient is lost with the slice of its precinct
  abbrev pub lost_at : Bands Bool
  lost_at = by_slice (header_of s) lost

  -- C, with 0 for each that is lost
  abbrev pub spared : Coefficients → Coefficients
  spared C i k dx dy x y = cond (lost_at i k dx dy x y) (pos 0) (C i k dx dy x y)
