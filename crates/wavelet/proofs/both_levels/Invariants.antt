-- `wavelet::both_levels` is the second loop of Table E.1, from whatever band stands on the grid: the invariant is `BothDescending` from it, the measure
-- the depth. What does not depend on the band is taken from the one that stands there at entry. Assumes nothing.
use mathlib.Core.List.{List}
use Prim.Native.Nat.{◌^◌}
use lib.IntN.{ℤ}
use Rattle.wavelet.specs.Transform.{Band}
use Rattle.wavelet.specs.Kinds.{steps_of}
use Rattle.wavelet.specs.Grids.{Gridded}
use Rattle.wavelet.proofs.Descent.{BothDescending}
use Rattle.wavelet.proofs.both_levels.Given as goal

abbrev pub invariant-loop-d : goal.invariant-loop-d
invariant-loop-d l =
    (l₀ : List ℤ) (low : Band ℤ) → Gridded l.w l.h (2 ^ l.ny) (2 ^ l.ny) low l₀ l.initial.cells → BothDescending (steps_of l.kind) l.w l.h l.ny low l₀ l.cells l.d
