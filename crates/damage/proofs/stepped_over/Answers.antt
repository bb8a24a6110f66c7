-- `stepped_over` meets its contract. Assumes nothing.
use Prim.Native.Nat.{◌+◌, ◌≤◌}
use mathlib.Core.Path.{refl, ◌∙◌}
use native.Mathlib.Omega.{arith}
use lib.ListN.{length}
use Rattle.rows.specs.Rows.{Fine}
use Rattle.slices.specs.Slice.{slice_header_bytes}
use Rattle.slices.proofs.WalkLaws.{slice_ends}
use Rattle.slices.proofs.Pieces.{precincts_few, headed}
use Rattle.damage.proofs.Turns.{stepped_on, stepped_back}
use Rattle.damage.proofs.stepped_over.Goals.{In-Ok}
use Rattle.damage.proofs.stepped_over.Goals as goal

-- where the walk is fine, the slice's header and its precincts lie in the stream
ends : (c : In-Ok) →
    let a = c.args in
    (a.at + slice_header_bytes ≤ a.to) × (a.to ≤ length a.s.now)
ends c =
    let a = c.args in
    slice_ends a.s.now a.c a.t a.at a.to (c.requires.2 ∙ (λ i. (c.in-Ok.is i, a.to)))

pub overflow_add-from : goal.overflow_add-from
overflow_add-from c = omega (arith, ends c, c.requires.0.short)

pub all_precincts-requires : goal.all_precincts-requires
all_precincts-requires c =
    let h = c.requires in
    (record { settled = h.0.settled; short = h.0.short; inside = omega (arith, ends (goal.at.all_precincts-requires c).In-Ok); room = h.0.room }, h.1)

pub with_header-r-requires : goal.with_header-r-requires
with_header-r-requires c =
    let a = c.args in
    precincts_few a.s.now a.c a.t (a.at + slice_header_bytes, a.tops, a.cells.now) c.all_precincts.ensures c.requires.0.short

pub behind_slice-requires : goal.behind_slice-requires
behind_slice-requires c =
    let h = c.requires in
    let e = ends (goal.at.behind_slice-requires c).In-Ok in
    (h.0.settled.shape, h.1, omega (arith, h.0.room, c.all_precincts.auto.cells), e.0, omega (arith, e, h.0.short))

pub returns-in-Ok : goal.returns-in-Ok
returns-in-Ok c =
    let a = c.args in
    let v = c.in-Ok.is in
    stepped_on a.s.now a.c a.t (a.at, a.tops, a.cells.now) v c.requires.2
    (headed a.s.now a.c a.t (a.at, a.tops, a.cells.now) {v = Fine} refl c.all_precincts.ensures c.with_header-r.ensures) c.behind_slice.ensures

pub returns-in-Err : goal.returns-in-Err
returns-in-Err c =
    let a = c.args in
    stepped_back a.s.now a.c a.t (a.at, a.tops, a.cells.now) a.to c.in-Err.is c.stopped.ensures
