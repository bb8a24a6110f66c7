use Prim.Native.Nat.{◌≤◌}
use mathlib.Core.Path.{◌≡◌}
use lib.ListN.{length}
use Rattle.rows.specs.Rows.{Fine}
use Rattle.loops.proofs.Laws.{Going}
use Rattle.layout.specs.Precincts.{Np}
use Rattle.slices.specs.Slice.{precinct_turn}
use Rattle.slices.proofs.Pieces.{PrecinctsAdding}
use Rattle.slices.proofs.all_precincts.Given as goal

abbrev pub invariant-loop-n : goal.invariant-loop-n
invariant-loop-n l =
    Going (precinct_turn l.s l.c l.t) (λ y. (Fine, y)) (Np l.c.shape l.t) (l.initial.place, l.initial.most, l.initial.cells) l.n (l.place, l.most, l.cells)
    × (l.place ≤ length l.s) × (length l.cells ≡ length l.initial.cells)
    × PrecinctsAdding l.s l.c l.t (l.initial.place, l.initial.most, l.initial.cells) l.n (l.place, l.most, l.cells) l.bytes
