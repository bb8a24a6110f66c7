use Prim.Native.Nat.{◌+◌}
use mathlib.Core.Path.{◌∙◌}
use mathlib.Core.List.{[], ◌∷◌}
use Rattle.rows.specs.Rows.{check, ample, first}
use Rattle.rows.specs.declared.Row.TheVariants.{Cut, Marker}
use Rattle.rows.specs.declared.Field.TheVariants.{Eoc, Tail}
use Rattle.picture.specs.Markers.{EOC}
use Rattle.slices.proofs.end_row.Goals as goal

pub returns : goal.returns
returns c =
    let a = c.args in
    c.first.ensures
    ∙ (λ i. first (
    check Cut a.at Eoc (c.left-there.ensures i) 2 ample
    ∷ check Marker a.at Eoc (c.u16_at-marker.ensures.value i) EOC EOC
    ∷ check Marker (a.at + 2) Tail (c.left-behind.ensures i) 0 0
    ∷ []))
