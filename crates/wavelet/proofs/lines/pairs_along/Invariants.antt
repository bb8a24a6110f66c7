-- `wavelet::lines::pairs_along` meets its contract. Assumes nothing.
use Prim.Native.Nat.{◌+◌, ◌*◌}
use Rattle.wavelet.specs.Kinds.{steps_of}
use Rattle.wavelet.proofs.Running.{Running}
use Rattle.wavelet.proofs.lines.pairs_along.Given as goal

abbrev pub invariant-loop-k : goal.invariant-loop-k
invariant-loop-k l = Running (steps_of l.kind) l.base l.stride l.n (2 * l.k + 1) l.even l.high l.initial.cells l.cells
