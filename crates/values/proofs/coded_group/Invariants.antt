-- `values::coded_group` meets its contract. Invariant: k places are written, and `used` counts the signs of their coefficients. Assumes nothing.
use mathlib.Core.Path.{◌≡◌}
use Rattle.values.specs.Group.{v, sign_bits}
use Rattle.values.specs.Steps.{value}
use Rattle.values.proofs.Places.{Placing}
use Rattle.values.proofs.Groups.{Read}
use Rattle.values.proofs.coded_group.Given as goal

abbrev pub invariant-loop-k : goal.invariant-loop-k
invariant-loop-k l =
    Read l.dat l.sgn l.how l.group l.next l.v l.signs
    × (l.used ≡ sign_bits (v l.dat l.how.fs l.group.m l.group.t l.next.at) l.k)
    × Placing l.group.first l.group.stride (value l.dat l.sgn l.how l.group l.next) l.k l.initial.cells l.cells
