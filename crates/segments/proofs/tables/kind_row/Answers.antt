-- `segments::tables::kind_row`: each arm is the table of its kind. Assumes nothing.
use mathlib.Core.Path.{sym, ◌∙◌}
use Rattle.rows.specs.Rows.{first}
use Rattle.segments.specs.Segments.{checks_of}
use Rattle.segments.proofs.tables.kind_row.Goals as goal

pub returns-in-Components : goal.returns-in-Components
returns-in-Components c =
    let a = c.args in
    c.table_row.ensures ∙ (λ i. first (checks_of (sym c.in-Components.is i) a.s.now a.h a.x a.g))

pub returns-in-Weights : goal.returns-in-Weights
returns-in-Weights c =
    let a = c.args in
    c.weight_row.ensures ∙ (λ i. first (checks_of (sym c.in-Weights.is i) a.s.now a.h a.x a.g))

pub returns-in-Extension : goal.returns-in-Extension
returns-in-Extension c =
    let a = c.args in
    c.extension_row.ensures ∙ (λ i. first (checks_of (sym c.in-Extension.is i) a.s.now a.h a.x a.g))

pub returns-in-Undecomposed : goal.returns-in-Undecomposed
returns-in-Undecomposed c =
    let a = c.args in
    c.undecomposed_row.ensures ∙ (λ i. first (checks_of (sym c.in-Undecomposed.is i) a.s.now a.h a.x a.g))

pub returns-in-Registration : goal.returns-in-Registration
returns-in-Registration c =
    let a = c.args in
    c.registration_row.ensures ∙ (λ i. first (checks_of (sym c.in-Registration.is i) a.s.now a.h a.x a.g))

pub returns-in-Unbuilt : goal.returns-in-Unbuilt
returns-in-Unbuilt c =
    let a = c.args in
    c.unbuilt_row.ensures ∙ (λ i. first (checks_of (sym c.in-Unbuilt.is i) a.s.now a.h a.x a.g))

pub returns-in-Slice : goal.returns-in-Slice
returns-in-Slice c =
    let a = c.args in
    c.slice_row.ensures ∙ (λ i. first (checks_of (sym c.in-Slice.is i) a.s.now a.h a.x a.g))

pub returns-in-Predicted : goal.returns-in-Predicted
returns-in-Predicted c =
    let a = c.args in
    c.predicted_row.ensures ∙ (λ i. first (checks_of (sym c.in-Predicted.is i) a.s.now a.h a.x a.g))

pub returns-in-Unknown : goal.returns-in-Unknown
returns-in-Unknown c =
    let a = c.args in
    c.unknown_row.ensures ∙ (λ i. first (checks_of (sym c.in-Unknown.is i) a.s.now a.h a.x a.g))
