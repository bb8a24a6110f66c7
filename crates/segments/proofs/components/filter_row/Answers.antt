-- `segments::components::filter_row`: the levels passed refuse nothing, and the one at hand decides. Assumes nothing.
use mathlib.Core.Path.{sym}
use native.Mathlib.Omega.{arith}
use Rattle.rows.proofs.Tables.{each_none}
use Rattle.rows.proofs.Passing.{each_handed, each_passed}
use Rattle.segments.specs.Components.{level_checks}
use Rattle.segments.proofs.components.filter_row.Goals as goal

pub loop-d-init : goal.loop-d-init
loop-d-init c = sym (each_none _)

pub loop-d-preserved : goal.loop-d-preserved
loop-d-preserved c =
    let a = c.args in
    each_passed c.loop-d.d (level_checks a.field a.place a.n) c.loop-d.invariant c.level_row.ensures c.branch-level_row.ensures c.in_ok-level_row.is

pub returns-in_err-level_row : goal.returns-in_err-level_row
returns-in_err-level_row c =
    let a = c.args in
    each_handed c.loop-d.d (level_checks a.field a.place a.n) c.loop-d.invariant c.level_row.ensures a.levels (omega arith) c.branch-level_row.ensures c.in_err-level_row.is c.from_residual.ensures.1
