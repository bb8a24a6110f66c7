-- `show::why::put_coarsest`: one by one. Assumes nothing.
use Rattle.show.specs.Buffer.{Put}
use Rattle.show.specs.Why.{coarsest_lines}
use Rattle.show.proofs.why.put_coarsest.Given as goal

abbrev pub invariant-loop-i : goal.invariant-loop-i
invariant-loop-i l = Put (coarsest_lines l.w l.i) l.from l.initial.out l.at l.out
