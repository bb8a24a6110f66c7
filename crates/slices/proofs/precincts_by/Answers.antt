use Prim.Native.Nat.{◌+◌}
use Rattle.slices.specs.Slice.{slice_header_bytes, precincts_by}
use Rattle.slices.specs.Pieces.{slice_pieces}
use Rattle.slices.proofs.PrecinctLaws.{settled}
use Rattle.slices.proofs.SliceLaws.{stops_here}
use Rattle.slices.proofs.Pieces.{precincts_few, headed}
use Rattle.slices.proofs.precincts_by.Goals as goal

pub all_precincts-requires : goal.all_precincts-requires
all_precincts-requires c =
    let h = c.requires in
    (record { settled = h.0.settled; short = h.0.short; inside = h.2 c.in-Ok.is; room = h.0.room }, h.1)

pub with_header-requires : goal.with_header-requires
with_header-requires c =
    let a = c.args in
    precincts_few a.s.now a.c a.t (a.at + slice_header_bytes, a.tops, a.cells.now) c.all_precincts.ensures c.requires.0.short

pub returns-in-Ok : goal.returns-in-Ok
returns-in-Ok c =
    let a = c.args in
    headed a.s.now a.c a.t (a.at, a.tops, a.cells.now) c.in-Ok.is c.all_precincts.ensures c.with_header.ensures

pub returns-in-Err : goal.returns-in-Err
returns-in-Err c =
    let a = c.args in
    let v = c.in-Err.is in
    stops_here (slice_pieces a.s.now a.c a.t (a.at, a.tops, a.cells.now))
    (settled (λ i. precincts_by a.s.now a.c a.t (v i) (a.at, a.tops, a.cells.now)) v) v c.stopped.ensures
