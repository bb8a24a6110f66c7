-- `segments::components::component_row`: three tables, one after the other. Assumes nothing.
use mathlib.Core.List.{◌++◌}
use Rattle.rows.proofs.Passing.{handed, passed}
use Rattle.segments.specs.Components.{depth_checks, across_checks, down_checks}
use Rattle.segments.proofs.components.component_row.Goals as goal

pub returns-in_err-depth_row : goal.returns-in_err-depth_row
returns-in_err-depth_row c =
    let a = c.args in
    let later = across_checks a.s.now a.h a.p a.c ++ down_checks a.s.now a.h a.p a.c in
    handed (depth_checks a.s.now a.h a.p a.c) later c.depth_row.ensures c.branch-depth_row.ensures c.in_err-depth_row.is c.from_residual.ensures.1

pub returns-in_err-across_row : goal.returns-in_err-across_row
returns-in_err-across_row c =
    let a = c.args in
    let across = across_checks a.s.now a.h a.p a.c in
    let down = down_checks a.s.now a.h a.p a.c in
    passed (depth_checks a.s.now a.h a.p a.c) (across ++ down) c.depth_row.ensures c.branch-depth_row.ensures c.in_ok-depth_row.is
    (handed across down c.across_row.ensures c.branch-across_row.ensures c.in_err-across_row.is c.from_residual-in_err-across_row.ensures.1)

pub returns : goal.returns
returns c =
    let a = c.args in
    let across = across_checks a.s.now a.h a.p a.c in
    let down = down_checks a.s.now a.h a.p a.c in
    passed (depth_checks a.s.now a.h a.p a.c) (across ++ down) c.depth_row.ensures c.branch-depth_row.ensures c.in_ok-depth_row.is
    (passed across down c.across_row.ensures c.branch-across_row.ensures c.in_ok-across_row.is c.down_row.ensures)
