-- `lost::lose_rows` meets its contract. Assumes nothing.
use native.Mathlib.Omega.{arith}
use Rattle.damage.proofs.LostRows.{rows_fit, rows_lost_by}
use Rattle.damage.proofs.Stretches.{stretched_fill}
use Rattle.damage.proofs.lost.lose_rows.Goals as goal

pub slice_bounds-fill-end : goal.slice_bounds-fill-end
slice_bounds-fill-end c =
    let f = rows_fit c.args.s c.requires.0 c.args.i c.args.t c.requires.1 c.rows_of-r.ensures (λ z. (c.component_of-c.ensures.is z).w)
    c.samples_before-coefficients.ensures c.area_of.ensures c.requires.3 in
    omega (arith, f)

pub slice_bounds-fill-end-2 : goal.slice_bounds-fill-end-2
slice_bounds-fill-end-2 c =
    let f = rows_fit c.args.s c.requires.0 c.args.i c.args.t c.requires.1 c.rows_of-r.ensures (λ z. (c.component_of-c.ensures.is z).w)
    c.samples_before-coefficients.ensures c.area_of.ensures c.requires.3 in
    omega (arith, f, c.fill.ensures.len)

pub returns : goal.returns
returns c =
    let f = rows_fit c.args.s c.requires.0 c.args.i c.args.t c.requires.1 c.rows_of-r.ensures (λ z. (c.component_of-c.ensures.is z).w)
    c.samples_before-coefficients.ensures c.area_of.ensures c.requires.3 in
    rows_lost_by c.args.s c.requires.0 c.args.i c.args.t c.requires.1 c.rows_of-r.ensures (λ z. (c.component_of-c.ensures.is z).w)
    c.samples_before-coefficients.ensures.0 c.area_of.ensures.0
    (stretched_fill (omega (arith, f)) (omega (arith, f)) (c.fill.ensures.after (λ y e. e)))
    (stretched_fill (omega (arith, f)) (omega (arith, f, c.fill.ensures.len)) (c.fill-2.ensures.after (λ y e. e)))
