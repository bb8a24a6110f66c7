-- `planes::marks` meets its contract. The invariant: the marks of the first i components are written. Assumes nothing.
use Rattle.planes.specs.Marks.{marks_in}
use Rattle.planes.proofs.Planes.{Written}
use Rattle.planes.proofs.marks.Given as goal

abbrev pub invariant-loop-i : goal.invariant-loop-i
invariant-loop-i l = Written l.s (marks_in l.s l.work) l.i l.out
