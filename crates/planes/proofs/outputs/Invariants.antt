-- `planes::outputs` meets its contract. The invariant: the output of the first i components is written. Assumes nothing.
use Prim.Native.Nat.{ℕ}
use lib.ListN.{get_or}
use Rattle.output.specs.Linear.{output_of}
use Rattle.planes.specs.Places.{values_in}
use Rattle.planes.proofs.Planes.{Written}
use Rattle.planes.proofs.outputs.Given as goal

abbrev pub invariant-loop-i : goal.invariant-loop-i
invariant-loop-i l = Written l.s (λ (i x y : ℕ). output_of l.kind l.bw (get_or l.depth i 0) (values_in l.s l.work i x y)) l.i l.out
