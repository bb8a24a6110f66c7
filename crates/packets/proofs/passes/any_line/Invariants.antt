-- `packets::passes::any_line` meets its contract. Assumes nothing.
use mathlib.Core.Path.{◌≡◌}
use mathlib.Core.Bool.{false}
use Rattle.packets.specs.Packets.{any_line}
use Rattle.packets.proofs.passes.any_line.Given as goal

abbrev pub invariant-loop-j : goal.invariant-loop-j
invariant-loop-j l = any_line l.c l.p l.slot l.j ≡ false
