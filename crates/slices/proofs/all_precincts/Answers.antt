use Prim.Native.Nat.{◌≤◌, ◌<◌}
use mathlib.Core.Path.{refl, sym, ◌∙◌}
use native.Mathlib.Omega.{arith}
use Rattle.loops.proofs.Laws.{begins, goes_on, stops, ends}
use Rattle.pieces.proofs.Laws.{bytes_end, adds_up, adds_on, adds_end}
use Rattle.layout.specs.Precincts.{Np}
use Rattle.slices.specs.Slice.{precincts}
use Rattle.slices.specs.Pieces.{precincts_pieces}
use Rattle.layout.proofs.Columns.{slices_most}
use Rattle.slices.proofs.PrecinctLaws.{settled}
use Rattle.slices.proofs.SliceLaws.{turned_goes, turned_stops, stops_here}
use Rattle.slices.proofs.Pieces.{precinct_turn_tiles, precincts_begin}
use Rattle.slices.proofs.all_precincts.Goals as goal

pub precincts_in_slice-count-requires : goal.precincts_in_slice-count-requires
precincts_in_slice-count-requires c =
    let h = c.requires in
    (h.0.settled.shape, omega (arith, h.1, slices_most c.args.c.shape h.0.settled.shape))

pub loop-n-init : goal.loop-n-init
loop-n-init c =
    let a = c.args in
    (begins, c.requires.0.inside, refl, precincts_begin a.s.now a.c a.t (a.at, a.tops, a.cells.now))

pub precinct_turn-r-requires : goal.precinct_turn-r-requires
precinct_turn-r-requires c =
    let h = c.requires in
    let l = c.loop-n in (
      record { settled = h.0.settled; short = h.0.short; inside = l.invariant.1; room = omega (arith, h.0.room, l.invariant.2) },
      h.1,
      omega (arith, c.loop-n-test.true, c.precincts_in_slice-count.ensures),
    )

pub and-bytes-requires : goal.and-bytes-requires
and-bytes-requires c =
    let l = c.loop-n in
    let a = c.args in
    let r = c.precinct_turn-r in
    let v = c.in-Ok.is in
    let goes = turned_goes r.ensures v in
    let tiles = precinct_turn_tiles a.s.now a.c a.t l.n (l.place, l.most, l.cells) _ goes in
    omega (arith, adds_up l.invariant.3 goes tiles r.ensures.bytes v, r.ensures.inside v, c.requires.0.short)

pub returns-in-Err : goal.returns-in-Err
unfolding precincts
returns-in-Err c =
    let l = c.loop-n in
    let a = c.args in
    let v = c.in-Err.is in
    let r = c.precinct_turn-r in
    stops_here (precincts_pieces a.s.now a.c a.t (a.at, a.tops, a.cells.now))
    (settled (stops l.invariant.0 (omega (arith, c.loop-n-test.true, c.precincts_in_slice-count.ensures)) (turned_stops r.ensures v)) v) v c.stopped.ensures

pub loop-n-preserved : goal.loop-n-preserved
loop-n-preserved c =
    let l = c.loop-n in
    let a = c.args in
    let r = c.precinct_turn-r in
    let v = c.in-Ok.is in
    let goes = turned_goes r.ensures v in
    let tiles = precinct_turn_tiles a.s.now a.c a.t l.n (l.place, l.most, l.cells) _ goes in
    let below : l.n < Np a.c.shape a.t = omega (arith, c.loop-n-test.true, c.precincts_in_slice-count.ensures) in (
      goes_on l.invariant.0 below goes,
      r.ensures.inside v,
      r.auto.cells ∙ l.invariant.2,
      rw c.and-bytes.ensures (adds_on l.invariant.3 goes tiles r.ensures.bytes v below),
    )

pub returns : goal.returns
unfolding precincts
returns c =
    let l = c.loop-n in
    let a = c.args in
    let past : Np a.c.shape a.t ≤ l.n = omega (arith, c.loop-n-test.false, c.precincts_in_slice-count.ensures) in
    record {
      is = ends l.invariant.0 past;
      inside = λ e. l.invariant.1;
      bytes = sym (bytes_end l.bytes) ∙ adds_end l.invariant.3 past;
    }
