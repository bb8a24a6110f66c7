-- `sizes::Words::next_number` ends, since each byte is behind the one before.
use Rattle.std.proofs.Common.{◌≤◌, length}
use Rattle.sizes.proofs.Words.next_number.Given as goal

abbrev pub invariant-loop-b : goal.invariant-loop-b
invariant-loop-b l = length l.self.left.now ≤ length l.initial.self.left.now

abbrev pub decreases-loop-b : goal.decreases-loop-b
decreases-loop-b l = length l.self.left.now
