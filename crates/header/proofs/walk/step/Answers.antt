-- `header::walk::step`: the segment is what its reader answers, and so are its verdict and its kind. Assumes nothing.
use mathlib.Core.Path.{◌∙◌}
use native.Mathlib.Omega.{arith}
use Rattle.rows.specs.Rows.{first}
use Rattle.picture.proofs.Laws.{at_place}
use Rattle.segments.specs.Segments.{kind_of, segment_checks}
use Rattle.header.specs.Walk.{judged, step}
use Rattle.header.proofs.walk.step.Goals as goal

pub segment_row-v-requires : goal.segment_row-v-requires
segment_row-v-requires c =
    let p = at_place c.read-g.ensures in
    let i = c.requires.2 in
    (c.requires.0, record { at = omega (arith, p, c.requires.1, i.at); cdt = omega (arith, c.requires.1, i.cdt) })

pub judge-requires : goal.judge-requires
judge-requires c =
    let p = at_place c.read-g.ensures in
    (omega (arith, p, c.requires.1, c.requires.2.at), c.read-g.ensures.below)

pub returns : goal.returns
unfolding step
returns c =
    let a = c.args in
    let s = a.s.now in
    let g = c.read-g.ensures.value in
    let v = c.segment_row-v.ensures ∙ (λ i. first (segment_checks s a.h a.w.seen (g i))) in
    let k = c.kind_of.ensures ∙ (λ i. kind_of (g i).marker) in
    c.judge.ensures ∙ (λ i. judged (v i) (k i) s (g i) a.w.seen)
