-- `wavelet::lines::level` meets its contract: the invariant is that the run has gone on from what its top left, with the columns at the odd row 2 k + 1.
-- Assumes nothing.
use Prim.Native.Nat.{◌+◌, ◌*◌}
use Rattle.wavelet.specs.Kinds.{steps_of}
use Rattle.wavelet.specs.Runs.{Onward}
use Rattle.wavelet.proofs.lines.level.Given as goal

abbrev pub invariant-loop-k : goal.invariant-loop-k
invariant-loop-k l = Onward (steps_of l.kind) l.s l.m l.t l.n 1 (2 * l.k + 1) (2 * l.k + 1 + 1) l.initial.cells l.cells
