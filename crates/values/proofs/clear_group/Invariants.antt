-- `values::clear_group` meets its contract. Invariant: k places are written. Assumes nothing.
use lib.IntN.{pos}
use Rattle.values.proofs.Places.{Placing}
use Rattle.values.proofs.clear_group.Given as goal

abbrev pub invariant-loop-k : goal.invariant-loop-k
invariant-loop-k l = Placing l.first l.stride (λ _. pos 0) l.k l.initial.cells l.cells
