-- `layouts::print_packets` numbers no more packets than there were slots.
use Rattle.std.proofs.Common.{◌≤◌}
use Rattle.layouts.proofs.print_packets.Given as goal

abbrev pub invariant-loop-k : goal.invariant-loop-k
invariant-loop-k g l = l.number ≤ l.k
