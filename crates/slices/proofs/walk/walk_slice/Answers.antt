use mathlib.Core.Path.{sym, ◌∙◌}
use Rattle.slices.specs.Walk.{walk_by, walk_slice}
use Rattle.slices.proofs.SliceLaws.{header_ends}
use Rattle.slices.proofs.WalkLaws.{walks_still}
use Rattle.slices.proofs.walk.walk_slice.Goals as goal

pub walk_by-requires : goal.walk_by-requires
walk_by-requires c =
    let a = c.args in
    let h = c.requires in
    (h.0, h.1, h.3, (λ e. header_ends a.s.now a.t a.at (sym c.slice_row-v.ensures ∙ e)))

pub returns : goal.returns
unfolding walk_slice
returns c =
    let a = c.args in
    walks_still (λ i. walk_by a.s.now a.c (sym c.slice_row-v.ensures i) a.t a.at) c.walk_by.ensures
