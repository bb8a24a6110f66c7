-- `distances::both_numbers` is the second loop of Table E.1: the invariant is `Descending`. Assumes nothing.
use Prim.Native.Nat.{◌^◌}
use Rattle.distances.specs.Steps.{both_turn}
use Rattle.distances.proofs.Descent.{Descending}
use Rattle.distances.proofs.both_numbers.Given as goal

abbrev pub invariant-loop-d : goal.invariant-loop-d
invariant-loop-d l = Descending (both_turn l.s l.fq l.tops l.i) 0 l.ny l.first (2 ^ 52) l.d l.low
