-- `output::lost_output` meets its contract. The invariant: the first x distances are what their marks make of them, the others are as they were. Assumes nothing.
use mathlib.Core.Path.{◌≡◌}
use mathlib.Core.List.{List}
use Prim.Native.Nat.{ℕ}
use lib.ListN.{get_or}
use Rattle.whole.proofs.Passes.{mapped}
use Rattle.output.specs.Linear.{lost_distance}
use Rattle.output.proofs.lost_output.Given as goal

-- what each place becomes
abbrev pub losses : List ℕ → ℕ → ℕ → ℕ → ℕ
losses marks b x d = lost_distance b (get_or marks x 0) d

abbrev pub invariant-loop-x : goal.invariant-loop-x
invariant-loop-x l = l.out ≡ mapped (losses l.marks l.b) l.x l.initial.out
