use Prim.Native.Nat.{◌≤◌}
use lib.ListN.{length}
use Rattle.rows.specs.Rows.{Fine}
use Rattle.loops.proofs.Laws.{Going}
use Rattle.layout.specs.Precincts.{Np}
use Rattle.slices.specs.Walk.{walk_turn}
use Rattle.slices.proofs.walk.walk_precincts.Given as goal

abbrev pub invariant-loop-n : goal.invariant-loop-n
invariant-loop-n l = Going (walk_turn l.s l.c) (λ y. (Fine, y)) (Np l.c.shape l.t) l.initial.place l.n l.place × (l.place ≤ length l.s)
