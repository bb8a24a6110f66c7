-- `show::put`: byte by byte. Assumes nothing.
use Rattle.std.proofs.Common.{take}
use Rattle.show.specs.Buffer.{Put}
use Rattle.show.proofs.put.Given as goal

abbrev pub invariant-loop-b : goal.invariant-loop-b
invariant-loop-b l = Put (take l.b-index l.bytes) l.from l.initial.out l.at l.out
