use Prim.Native.Nat.{◌≤◌}
use mathlib.Core.Path.{◌≡◌}
use lib.ListN.{length}
use Rattle.loops.proofs.Laws.{Going}
use Rattle.rows.specs.Rows.{first}
use Rattle.layout.specs.Slots.{slots}
use Rattle.slices.specs.Precinct.{body, no_flags, packet_turn, rest_checks}
use Rattle.slices.proofs.Pieces.{SlotsAdding}
use Rattle.slices.proofs.precincts.packets.Given as goal

abbrev pub invariant-loop-slot : goal.invariant-loop-slot
invariant-loop-slot l =
    Going (packet_turn l.s l.c l.p.row l.p.column l.p.at) (λ x. (first (rest_checks l.s l.c l.p.row l.p.column l.p.at x.0), x.2)) (slots l.c.shape)
    (body l.s l.c l.p.row l.p.column l.p.at, no_flags l.s l.c l.p.row l.p.column l.p.at, l.initial.cells) l.slot (l.at, l.raws, l.cells)
    × (l.at ≤ l.p.end) × (length l.cells ≡ length l.initial.cells)
    × SlotsAdding l.s l.c l.p.row l.p.column l.p.at l.initial.cells l.slot (l.at, l.raws, l.cells) l.bytes
