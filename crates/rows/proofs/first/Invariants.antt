-- `rows::first`: what is left of the table decides as the whole table does. Assumes nothing.
use Rattle.std.proofs.Common.{◌≡◌, drop}
use Rattle.rows.specs.Rows.{first}
use Rattle.rows.proofs.first.Given as goal

abbrev pub invariant-loop-c : goal.invariant-loop-c
invariant-loop-c l = first l.t ≡ first (drop l.c-index l.t)
