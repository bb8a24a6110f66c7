use Prim.Native.Nat.{◌+◌, ◌*◌, ◌-◌, ◌^◌}
use mathlib.Core.Path.{◌≡◌, ◌∙◌}
use mathlib.Core.List.{[], ◌∷◌}
use native.Mathlib.Omega.{arith}
use Rattle.rows.specs.Rows.{check, ample, first}
use Rattle.rows.specs.declared.Row.TheVariants.{Cut, Value, Length}
use Rattle.rows.specs.declared.Field.TheVariants.{Lprc, Precinct as PrecinctField, Q, R}
use Rattle.layout.specs.Headers.{header_bytes_of}
use Rattle.slices.specs.Precinct.{lprc}
use Rattle.slices.proofs.PrecinctLaws.{ends_at}
use Rattle.slices.proofs.precincts.field_row.Goals as goal

pub overflow_sub-size : goal.overflow_sub-size
overflow_sub-size c = omega (arith, ends_at c.requires.2)

pub returns : goal.returns
returns c =
    let a = c.args in
    let is = c.requires.2.is in
    let size : a.p.end - a.p.at ≡ header_bytes_of a.c.shape + lprc a.s.now a.c a.p.row a.p.column a.p.at = omega (arith, ends_at c.requires.2) in
    let there = c.left-there.ensures in
    c.first.ensures
    ∙ (λ i. first (
    check Cut a.p.at Lprc (there i) 3 ample
    ∷ check Value a.p.at Lprc (c.u24_at-lprc.ensures.value i) 1 (2 ^ 20 - 1)
    ∷ check Length a.p.at PrecinctField (size i) 0 (there i)
    ∷ check Value (a.p.at + 3) Q (is i).q 0 31
    ∷ check Value (a.p.at + 4) R (is i).r 0 (2 * c.band_count.ensures.0 i - 1)
    ∷ []))
