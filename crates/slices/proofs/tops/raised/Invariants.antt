use mathlib.Core.Path.{◌≡◌}
use Rattle.slices.specs.Precinct.{raised}
use Rattle.slices.proofs.tops.raised.Given as goal

abbrev pub invariant-loop-b : goal.invariant-loop-b
invariant-loop-b l = l.out ≡ raised l.c l.p l.b l.tops
