-- `packets::passes::packet_counts` meets its contract. Assumes nothing.
use mathlib.Core.Path.{◌≡◌}
use Prim.Native.Nat.{◌≤◌, ◌*◌, ◌^◌}
use lib.ListN.{length}
use Rattle.loops.proofs.Laws.{Going}
use Rattle.layout.specs.Slots.{candidates}
use Rattle.counts.specs.Lines.{end as counts_left}
use Rattle.packets.specs.Passes.{marks, count_turn}
use Rattle.packets.proofs.passes.packet_counts.Given as goal

abbrev pub invariant-loop-j : goal.invariant-loop-j
invariant-loop-j l =
    (length l.cells ≡ length l.initial.cells) × (l.need ≤ 2 ^ 36 * l.j) × (l.z ≡ marks l.s l.c l.p l.slot l.raw l.j) × (l.z ≤ 2 ^ 32 * l.j)
    × Going (count_turn l.s l.c l.p l.slot l.cnt l.sig l.raw) counts_left (candidates l.c.shape l.slot) (0, 0, l.initial.cells) l.j (l.at, l.need, l.cells)
