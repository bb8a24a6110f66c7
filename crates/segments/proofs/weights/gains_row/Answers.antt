-- `segments::weights::gains_row`: the gains passed refuse nothing, and the one at hand decides. Assumes nothing.
use mathlib.Core.Path.{sym}
use native.Mathlib.Omega.{arith}
use Rattle.rows.proofs.Tables.{each_none}
use Rattle.rows.proofs.Passing.{each_handed, each_passed}
use Rattle.segments.specs.Weights.{gain_row}
use Rattle.segments.proofs.weights.gains_row.Goals as goal

pub loop-k-init : goal.loop-k-init
loop-k-init c = sym (each_none _)

pub loop-k-preserved : goal.loop-k-preserved
loop-k-preserved c =
    let a = c.args in
    each_passed c.loop-k.k (gain_row a.s.now a.p) c.loop-k.invariant c.gain_row.ensures c.branch-gain_row.ensures c.in_ok-gain_row.is

pub returns-in_err-gain_row : goal.returns-in_err-gain_row
returns-in_err-gain_row c =
    let a = c.args in
    each_handed c.loop-k.k (gain_row a.s.now a.p) c.loop-k.invariant c.gain_row.ensures a.n (omega arith) c.branch-gain_row.ensures c.in_err-gain_row.is c.from_residual.ensures.1
