use Prim.Native.Nat.{◌+◌, ◌/◌, ◌%◌}
use mathlib.Core.Path.{◌∙◌}
use mathlib.Core.List.{[], ◌∷◌}
use Rattle.rows.specs.Rows.{check, first}
use Rattle.rows.specs.declared.Row.TheVariants.{Mode}
use Rattle.rows.specs.declared.Field.TheVariants.{D}
use Rattle.slices.proofs.precincts.mode_row.Goals as goal

pub returns-then-exists : goal.returns-then-exists
returns-then-exists c =
    let a = c.args in
    rw c.if-exists.true
    (c.first.ensures ∙ (λ i. first (check Mode (a.at + a.bit / 8) D (c.field-d.ensures.value i % 2) 0 0 ∷ [])))
