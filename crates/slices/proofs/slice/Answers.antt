use mathlib.Core.Path.{sym, ◌∙◌}
use Rattle.slices.specs.Slice.{precincts_by, slice}
use Rattle.slices.proofs.SliceLaws.{header_ends, read_still}
use Rattle.slices.proofs.slice.Goals as goal

pub precincts_by-requires : goal.precincts_by-requires
precincts_by-requires c =
    let a = c.args in
    let h = c.requires in
    (h.0, h.1, (λ e. header_ends a.s.now a.t a.at (sym c.slice_row-v.ensures ∙ e)))

pub returns : goal.returns
unfolding slice
returns c =
    let a = c.args in
    read_still (λ i. precincts_by a.s.now a.c a.t (sym c.slice_row-v.ensures i) (a.at, a.tops, a.cells.now)) c.precincts_by.ensures
