-- `reader::plane_row` meets its contract. Assumes nothing.
use mathlib.Core.Path.{refl, ◌∙◌}
use mathlib.Core.List.{[], ◌∷◌}
use Rattle.rows.specs.Rows.{check, ample, first}
use Rattle.rows.specs.declared.Row.TheVariants.{Lent}
use Rattle.reader.proofs.plane_row.Goals as goal

pub returns-then-asked : goal.returns-then-asked
returns-then-asked c =
    let a = c.args in
    rw c.if-asked.true (c.first.ensures ∙ (λ i. first (check Lent a.h.slice a.plane a.cells (c.requires i) ample ∷ [])))

pub returns : goal.returns
returns c = rw c.if-asked.false refl
