-- `segments::components::components_row`: the components passed refuse nothing, and the one at hand decides. Assumes nothing.
use mathlib.Core.Path.{sym}
use native.Mathlib.Omega.{arith}
use Rattle.rows.proofs.Tables.{each_none}
use Rattle.rows.proofs.Passing.{each_handed, each_passed}
use Rattle.segments.specs.Components.{component_checks}
use Rattle.segments.proofs.components.components_row.Goals as goal

pub loop-c-init : goal.loop-c-init
loop-c-init c = sym (each_none _)

pub component_row-requires : goal.component_row-requires
component_row-requires c =
    let x = c.requires in
    let m = c.widest-m.ensures in
    (x.0, x.1, omega (arith, x.0.nc.1), m.0, m.1)

pub loop-c-preserved : goal.loop-c-preserved
loop-c-preserved c =
    let a = c.args in
    each_passed c.loop-c.c (component_checks a.s.now a.h a.p) c.loop-c.invariant c.component_row.ensures c.branch-component_row.ensures c.in_ok-component_row.is

pub returns-in_err-component_row : goal.returns-in_err-component_row
returns-in_err-component_row c =
    let a = c.args in
    each_handed c.loop-c.c (component_checks a.s.now a.h a.p) c.loop-c.invariant c.component_row.ensures a.h.nc (omega arith) c.branch-component_row.ensures c.in_err-component_row.is c.from_residual.ensures.1
