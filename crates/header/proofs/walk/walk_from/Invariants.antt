-- `header::walk::walk_from`: the loop is the definition's, by its measure: what is left of the stream falls with each step. Assumes nothing.
use Prim.Native.Nat.{◌+◌}
use lib.ListN.{length}
use Rattle.loops.proofs.Laws.{Looping}
use Rattle.header.specs.Turns.{turn, begun, Inside}
use Rattle.header.proofs.Steps.{left}
use Rattle.header.proofs.walk.walk_from.Given as goal

abbrev pub invariant-loop-w : goal.invariant-loop-w
invariant-loop-w l =
    Inside l.s l.w × Looping (left l.s) (turn l.s l.h) (begun l.p) (length l.s + 2) (begun l.p) l.w

abbrev pub decreases-loop-w : goal.decreases-loop-w
decreases-loop-w l =
    left l.s l.w
