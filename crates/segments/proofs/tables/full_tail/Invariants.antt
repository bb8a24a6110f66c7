-- `segments::tables::full_tail`: `tail` counts the components passed at whose end all are full. Assumes nothing.
use Prim.Native.Nat.{◌≤◌}
use mathlib.Core.Path.{◌≡◌}
use Rattle.segments.specs.Segments.{full_tail}
use Rattle.segments.proofs.tables.full_tail.Given as goal

abbrev pub invariant-loop-c : goal.invariant-loop-c
invariant-loop-c l =
    (l.tail ≡ full_tail l.s l.cdt l.c) × (l.tail ≤ l.c)
