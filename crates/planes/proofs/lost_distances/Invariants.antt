-- `planes::lost_distances` meets its contract. The invariant: the first i components are what their marks make of them, the others are as they were. Assumes nothing.
use Prim.Native.Nat.{ℕ}
use lib.ListN.{get_or}
use Rattle.planes.proofs.LostPlanes.{LostFirst}
use Rattle.planes.proofs.lost_distances.Given as goal

abbrev pub invariant-loop-i : goal.invariant-loop-i
invariant-loop-i l = LostFirst l.s (λ (k : ℕ). get_or l.depth k 0) l.marks l.initial.out l.i l.out
