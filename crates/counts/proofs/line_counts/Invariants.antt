-- `counts::line_counts` meets its contract. Invariant: the groups that are left leave what the whole line leaves. Assumes nothing.
use Prim.Native.Nat.{◌≤◌, ◌*◌}
use mathlib.Core.Path.{◌≡◌}
use lib.ListN.{length}
use Rattle.loops.proofs.Laws.{Going}
use Rattle.bits.specs.Groups.{Ncg}
use Rattle.counts.specs.Lines.{turn, end}
use Rattle.counts.proofs.line_counts.Given as goal

abbrev pub invariant-loop-g : goal.invariant-loop-g
invariant-loop-g l =
    (length l.cells ≡ length l.initial.cells) × (l.need ≤ 32 * l.g)
    × Going (turn l.stretch l.sig l.coding l.place l.sig_at) end (Ncg l.place.width) (l.at, 0, l.initial.cells) l.g (l.i, l.need, l.cells)
