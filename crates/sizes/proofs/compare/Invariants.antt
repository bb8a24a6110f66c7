-- `sizes::compare` ends, since each line is behind the one before, and counts no more lines than bytes.
use Rattle.std.proofs.Common.{◌+◌, ◌≤◌, length}
use Rattle.sizes.proofs.compare.Given as goal

abbrev pub invariant-loop-words : goal.invariant-loop-words
invariant-loop-words g l = l.agreed + l.differing + length l.words.left.now ≤ length l.lines

abbrev pub decreases-loop-words : goal.decreases-loop-words
decreases-loop-words g l = length l.words.left.now
