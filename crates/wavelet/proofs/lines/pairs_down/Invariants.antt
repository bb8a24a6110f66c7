-- `wavelet::lines::pairs_down` meets its contract. Assumes nothing.
use Rattle.wavelet.specs.Kinds.{steps_of}
use Rattle.wavelet.proofs.Pairs.{PairsDone}
use Rattle.wavelet.proofs.lines.pairs_down.Given as goal

abbrev pub invariant-loop-j : goal.invariant-loop-j
invariant-loop-j l = PairsDone (steps_of l.kind) l.s l.t l.h l.r l.j l.initial.cells l.cells
