-- `vectors::main` counts no more streams than words.
use Rattle.std.proofs.Common.{◌≤◌, ◌<◌}
use Rattle.vectors.proofs.main.Given as goal

abbrev pub invariant-loop-i : goal.invariant-loop-i
invariant-loop-i l = (l.t.agreed ≤ l.t.streams) × (l.t.told ≤ l.t.streams) × (l.t.streams < l.i)
