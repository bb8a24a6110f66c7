-- `counts::code::ones_from` meets its contract. Invariant: the n bits passed are 1-bits. Assumes nothing.
use Prim.Native.Nat.{◌+◌, ◌-◌, ◌≤◌}
use mathlib.Core.Path.{◌≡◌}
use Rattle.counts.specs.Codes.{ones}
use Rattle.counts.proofs.code.ones_from.Given as goal

abbrev pub invariant-loop-n : goal.invariant-loop-n
invariant-loop-n l = (l.n ≤ l.limit + 8) × (ones l.s l.at l.n ≡ l.n)

abbrev pub decreases-loop-n : goal.decreases-loop-n
decreases-loop-n l = l.limit - l.n
