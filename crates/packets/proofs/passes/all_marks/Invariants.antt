-- `packets::passes::all_marks` meets its contract. Assumes nothing.
use mathlib.Core.Path.{◌≡◌}
use Prim.Native.Nat.{◌≤◌, ◌*◌, ◌^◌}
use Rattle.packets.specs.Passes.{marks}
use Rattle.packets.proofs.passes.all_marks.Given as goal

abbrev pub invariant-loop-j : goal.invariant-loop-j
invariant-loop-j l = (l.sum ≡ marks l.s l.c l.p l.slot l.raw l.j) × (l.sum ≤ 2 ^ 32 * l.j)
