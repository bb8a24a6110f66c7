-- `wavelet::lines::lift` meets its contract. Assumes nothing.
use Rattle.wavelet.specs.Kinds.{steps_of}
use Rattle.whole.specs.Cells.{OntoLine}
use Rattle.wavelet.specs.Runs.{lifted}
use Rattle.wavelet.proofs.lines.lift.Given as goal

abbrev pub invariant-loop-j : goal.invariant-loop-j
invariant-loop-j l = OntoLine l.c l.s l.j (lifted (steps_of l.kind) l.b l.s l.c l.l l.r l.initial.cells) l.initial.cells l.cells
