-- `stream` meets its contract. Assumes nothing.
use Prim.Native.Nat.{◌≤◌, ◌<◌}
use mathlib.Core.Path.{refl, sym, ap, ◌∙◌}
use native.Mathlib.Omega.{arith}
use Rattle.loops.proofs.Laws.{begins, goes_on, stops, ends}
use Rattle.pieces.specs.Pieces.{bytes_by}
use Rattle.pieces.proofs.Laws.{adds_up, adds_on, adds_end}
use Rattle.layout.specs.Precincts.{slices}
use Rattle.slices.specs.Slice.{State}
use Rattle.damage.specs.Stream.{turn_by, stream_by}
use Rattle.damage.specs.Pieces.{stream_pieces_by}
use Rattle.slices.proofs.PrecinctLaws.{settled}
use Rattle.slices.proofs.SliceLaws.{turned_goes, turned_stops, stops_here}
use Rattle.damage.proofs.Pieces.{turn_tiles, slices_begin}
use Rattle.damage.proofs.stream.Goals as goal

pub loop-t-init : goal.loop-t-init
loop-t-init c =
    let a = c.args in
    (begins, c.requires.inside, refl, slices_begin a.s.now a.c a.damaged (a.at, a.tops, a.cells.now))

pub slice-r-requires : goal.slice-r-requires
slice-r-requires c =
    let h = c.requires in
    let l = c.loop-t in (
      record { settled = h.settled; short = h.short; inside = l.invariant.1; room = omega (arith, h.room, l.invariant.2) },
      omega (arith, c.loop-t-test.true, c.slice_count-count.ensures.0),
    )

pub and-bytes-requires : goal.and-bytes-requires
and-bytes-requires c =
    let l = c.loop-t in
    let a = c.args in
    let r = c.slice-r in
    let v = c.in-Ok.is in
    let x : State = (l.place, l.most, l.cells) in
    let goes = turned_goes {turn = turn_by a.s.now a.c a.damaged l.t x} r.ensures v in
    omega (arith, adds_up l.invariant.3 goes (turn_tiles a.s.now a.c a.damaged l.t x _ goes) r.ensures.bytes v, r.ensures.inside v, c.requires.short)

pub returns-in-Err : goal.returns-in-Err
unfolding stream_by
returns-in-Err c =
    let l = c.loop-t in
    let a = c.args in
    let v = c.in-Err.is in
    let r = c.slice-r in
    let x : State = (l.place, l.most, l.cells) in
    let here = stops_here {s = a.s.now} (stream_pieces_by a.s.now a.c a.damaged (a.at, a.tops, a.cells.now))
    (settled (stops l.invariant.0 (omega (arith, c.loop-t-test.true, c.slice_count-count.ensures.0)) (turned_stops {turn = turn_by a.s.now a.c a.damaged l.t x} r.ensures v)) v) v c.stopped.ensures in
    record { is = here.is; bytes = here.bytes }

pub loop-t-preserved : goal.loop-t-preserved
loop-t-preserved c =
    let l = c.loop-t in
    let a = c.args in
    let r = c.slice-r in
    let v = c.in-Ok.is in
    let x : State = (l.place, l.most, l.cells) in
    let goes = turned_goes {turn = turn_by a.s.now a.c a.damaged l.t x} r.ensures v in
    let below : l.t < slices a.c.shape = omega (arith, c.loop-t-test.true, c.slice_count-count.ensures.0) in (
      goes_on l.invariant.0 below goes,
      r.ensures.inside v,
      r.auto.cells ∙ l.invariant.2,
      rw c.and-bytes.ensures (adds_on l.invariant.3 goes (turn_tiles a.s.now a.c a.damaged l.t x _ goes) r.ensures.bytes v below),
    )

pub behind_all-requires : goal.behind_all-requires
behind_all-requires c =
    let l = c.loop-t in
    let short = c.requires.short in
    (omega (arith, l.invariant.1, short), omega (arith, l.invariant.3.leads, l.invariant.1, short))

pub returns : goal.returns
unfolding stream_by stream_pieces_by
returns c =
    let l = c.loop-t in
    let a = c.args in
    let q = c.behind_all in
    let past : slices a.c.shape ≤ l.t = omega (arith, c.loop-t-test.false, c.slice_count-count.ensures.0) in
    record {
      is = ends l.invariant.0 past ∙ (λ i. (sym q.ensures.verdict i, (sym q.ensures.at i, sym q.ensures.tops i, l.cells)));
      bytes = q.ensures.bytes ∙ ap (bytes_by q.result.verdict) (adds_end l.invariant.3 past);
    }
