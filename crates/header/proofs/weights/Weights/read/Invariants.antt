-- `header::weights::Weights::read`: the loop fills both arrays, and counts the existing bands passed. Assumes nothing.
use Prim.Native.Nat.{◌≤◌}
use mathlib.Core.Path.{◌≡◌}
use Rattle.segments.specs.Bands.{existing}
use Rattle.header.specs.Header.{band_is, gain_of, priority_of}
use Rattle.whole.proofs.Lists.{Filled}
use Rattle.header.proofs.weights.Weights.read.Given as goal

abbrev pub invariant-loop-b : goal.invariant-loop-b
invariant-loop-b l =
    (l.k ≡ existing (band_is l.s l.h l.cdt) l.b) × (l.k ≤ l.b) × Filled 40 l.b (gain_of l.s l.h l.cdt l.wgt) l.gains × Filled 40 l.b (priority_of l.s l.h l.cdt l.wgt) l.priorities
