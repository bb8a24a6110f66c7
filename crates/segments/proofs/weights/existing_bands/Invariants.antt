-- `segments::weights::existing_bands`: n counts the bands passed that exist. Assumes nothing.
use Prim.Native.Nat.{◌≤◌}
use mathlib.Core.Path.{◌≡◌}
use Rattle.segments.specs.Bands.{existing}
use Rattle.segments.specs.Weights.{band_in}
use Rattle.segments.proofs.weights.existing_bands.Given as goal

abbrev pub invariant-loop-b : goal.invariant-loop-b
invariant-loop-b l =
    (l.n ≡ existing (band_in l.s l.h l.cdt) l.b) × (l.n ≤ l.b)
