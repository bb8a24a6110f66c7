-- `stream` meets its contract. Assumes nothing.
use Prim.Native.Nat.{◌≤◌}
use mathlib.Core.Path.{◌≡◌}
use lib.ListN.{length}
use Rattle.loops.proofs.Laws.{Going}
use Rattle.layout.specs.Precincts.{slices}
use Rattle.slices.specs.Stream.{ended}
use Rattle.damage.specs.Stream.{turn_by}
use Rattle.damage.proofs.Pieces.{SlicesAdding}
use Rattle.damage.proofs.stream.Given as goal

abbrev pub invariant-loop-t : goal.invariant-loop-t
invariant-loop-t l =
    Going (turn_by l.s l.c l.damaged) (ended l.s) (slices l.c.shape) (l.initial.place, l.initial.most, l.initial.cells) l.t (l.place, l.most, l.cells)
    × (l.place ≤ length l.s) × (length l.cells ≡ length l.initial.cells)
    × SlicesAdding l.s l.c l.damaged (l.initial.place, l.initial.most, l.initial.cells) l.t (l.place, l.most, l.cells) l.bytes
