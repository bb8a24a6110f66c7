-- `distances::across_numbers` is the first loop of Table E.1: the invariant is `Descending`. Assumes nothing.
use Prim.Native.Nat.{◌-◌, ◌^◌}
use Rattle.wavelet.specs.Transform.{LL}
use Rattle.distances.specs.Rule.{number_of}
use Rattle.distances.specs.Steps.{across_turn}
use Rattle.distances.proofs.Descent.{Descending}
use Rattle.distances.proofs.across_numbers.Given as goal

abbrev pub invariant-loop-d : goal.invariant-loop-d
invariant-loop-d l =
    Descending (across_turn l.s l.fq l.tops l.i l.ny) l.ny (l.s.nlx - l.ny) (number_of l.s l.fq l.tops l.i LL l.s.nlx l.ny) (2 ^ 46) l.d l.low
