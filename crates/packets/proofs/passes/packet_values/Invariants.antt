-- `packets::passes::packet_values` meets its contract. Assumes nothing.
use mathlib.Core.Path.{◌≡◌}
use mathlib.Core.List.{List}
use Prim.Native.Nat.{◌≤◌, ◌*◌, ◌^◌}
use lib.IntN.{ℤ}
use lib.ListN.{length}
use Rattle.loops.proofs.Laws.{Going}
use Rattle.layout.specs.Slots.{candidates}
use Rattle.values.specs.declared.Next.{Next}
use Rattle.packets.specs.Passes.{value_turn}
use Rattle.packets.proofs.passes.packet_values.Given as goal

abbrev pub invariant-loop-j : goal.invariant-loop-j
invariant-loop-j l =
    (length l.cells ≡ length l.initial.cells) × (l.next.at ≤ 2 ^ 36 * l.j) × (l.next.sign ≤ 2 ^ 36 * l.j)
    × Going (value_turn l.c l.p l.slot l.dat l.sgn) (λ (x : Next × List ℤ). x) (candidates l.c.shape l.slot) (record { at = 0; sign = 0 }, l.initial.cells) l.j (l.next, l.cells)
