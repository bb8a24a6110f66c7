-- `planes::cell_marks` meets its contract. The invariant: the first x marks are written, the others are as they were. Assumes nothing.
use mathlib.Core.Path.{◌≡◌}
use mathlib.Core.List.{List}
use Prim.Native.Nat.{ℕ}
use lib.IntN.{ℤ}
use Rattle.whole.specs.Cells.{cell}
use Rattle.whole.proofs.Passes.{mapped}
use Rattle.planes.specs.Marks.{cell_mark}
use Rattle.planes.proofs.cell_marks.Given as goal

-- what each place becomes
abbrev pub marks : List ℤ → ℕ → ℕ → ℕ
marks work x _ = cell_mark (cell work x)

abbrev pub invariant-loop-x : goal.invariant-loop-x
invariant-loop-x l = l.out ≡ mapped (marks l.work) l.x l.initial.out
