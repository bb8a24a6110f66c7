-- `values::magnitudes` meets its contract. Invariant: each size has the j planes passed. Assumes nothing.
use Rattle.values.proofs.Planes.{Sized}
use Rattle.values.proofs.magnitudes.Given as goal

abbrev pub invariant-loop-j : goal.invariant-loop-j
invariant-loop-j l =
    Sized l.dat l.from l.j 0 l.v0 × Sized l.dat l.from l.j 1 l.v1 × Sized l.dat l.from l.j 2 l.v2 × Sized l.dat l.from l.j 3 l.v3
