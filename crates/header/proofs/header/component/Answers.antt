-- `header::header::component`: in the table, or none. Assumes nothing.
use mathlib.Core.Bool.{cond}
use mathlib.Core.Path.{sym, ◌∙◌}
use borrow.Author.Tests.{lt-ltb, le-ltb}
use Rattle.segments.specs.Components.{component_at}
use Rattle.header.specs.Header.{no_component}
use Rattle.header.proofs.header.component.Goals as goal

pub returns-then-c-h : goal.returns-then-c-h
returns-then-c-h c =
    let a = c.args in
    c.read.ensures.value ∙ (λ i. cond (sym (lt-ltb a.c a.h.nc c.if-c-h.true) i) (component_at a.s.now a.cdt a.c) no_component)

pub returns-else-c-h : goal.returns-else-c-h
returns-else-c-h c =
    let a = c.args in
    λ i. cond (sym (le-ltb a.c a.h.nc c.if-c-h.false) i) (component_at a.s.now a.cdt a.c) no_component
