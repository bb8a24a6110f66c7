use mathlib.Core.Path.{sym, ap, ◌∙◌}
use Rattle.std.specs.Result.{result_from_control_flow}
use Rattle.rows.proofs.Passing.{handed_on}
use Rattle.slices.specs.Precinct.{packets_by, precinct}
use Rattle.slices.proofs.PrecinctLaws.{stands, refused_precinct}
use Rattle.slices.proofs.precincts.precinct.Goals as goal

pub returns-in_err-header_row : goal.returns-in_err-header_row
unfolding precinct
returns-in_err-header_row c =
    let a = c.args in
    let v = sym c.header_row.ensures ∙ c.branch-header_row.ensures ∙ ap result_from_control_flow c.in_err-header_row.is in
    refused_precinct (λ i. packets_by a.s.now a.c a.p.row a.p.column a.p.at (v i) a.cells.now)
    (handed_on c.branch-header_row.ensures c.in_err-header_row.is c.from_residual.ensures.1)

pub packets-requires : goal.packets-requires
packets-requires c =
    let h = c.requires in
    (h.0.settled, stands h.0 h.1 h.2 (sym c.header_row.ensures ∙ c.branch-header_row.ensures ∙ ap result_from_control_flow c.in_ok-header_row.is), h.2)

pub returns : goal.returns
unfolding precinct
returns c =
    let a = c.args in
    let q = c.packets.ensures in
    let v = sym c.header_row.ensures ∙ c.branch-header_row.ensures ∙ ap result_from_control_flow c.in_ok-header_row.is in
    record { is = (λ i. packets_by a.s.now a.c a.p.row a.p.column a.p.at (v i) a.cells.now) ∙ q.is; bytes = q.bytes }
