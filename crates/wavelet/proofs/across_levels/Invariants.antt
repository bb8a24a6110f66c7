-- `wavelet::across_levels` is the first loop of Table E.1, row after row. Assumes nothing.
use Rattle.wavelet.specs.Kinds.{steps_of}
use Rattle.wavelet.proofs.Rows.{AcrossDone}
use Rattle.wavelet.proofs.across_levels.Given as goal

abbrev pub invariant-loop-q : goal.invariant-loop-q
invariant-loop-q l = AcrossDone (steps_of l.kind) l.w l.h l.nx l.ny l.q l.initial.cells l.cells
