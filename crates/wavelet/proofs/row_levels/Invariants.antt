-- `wavelet::row_levels` is the first loop of Table E.1 over one row: the invariant is `RowDescending`. Assumes nothing.
use Rattle.wavelet.specs.Kinds.{steps_of}
use Rattle.wavelet.proofs.Descent.{RowDescending}
use Rattle.wavelet.proofs.row_levels.Given as goal

abbrev pub invariant-loop-d : goal.invariant-loop-d
invariant-loop-d l = RowDescending (steps_of l.kind) l.w l.base l.nx l.ny l.initial.cells l.cells l.d
