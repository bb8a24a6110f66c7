-- `output::linear_output` meets its contract. The invariant: the first x values are given out, the others are as they were. Assumes nothing.
use mathlib.Core.Path.{◌≡◌}
use mathlib.Core.List.{List}
use Prim.Native.Nat.{ℕ}
use lib.IntN.{ℤ}
use Rattle.whole.specs.Cells.{cell}
use Rattle.whole.specs.declared.Kind.{Kind}
use Rattle.whole.proofs.Passes.{mapped}
use Rattle.output.specs.Linear.{output_of}
use Rattle.output.proofs.linear_output.Given as goal

-- what each place becomes
abbrev pub given : List ℤ → Kind → ℕ → ℕ → ℕ → ℕ → ℕ
given work kind bw b x _ = output_of kind bw b (cell work x)

abbrev pub invariant-loop-x : goal.invariant-loop-x
invariant-loop-x l = l.out ≡ mapped (given l.work l.kind l.bw l.b) l.x l.initial.out
