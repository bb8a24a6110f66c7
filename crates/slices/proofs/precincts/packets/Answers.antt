use Prim.Native.Nat.{◌≤◌, ◌<◌, ◌-◌}
use mathlib.Core.Path.{◌≡◌, refl, sym, ap, ◌∙◌}
use native.Mathlib.Omega.{arith}
use Rattle.loops.proofs.Laws.{begins, goes_on, stops, ends}
use Rattle.std.specs.Result.{result_from_control_flow}
use Rattle.rows.specs.Rows.{Fine}
use Rattle.rows.proofs.Passing.{handed_on}
use Rattle.pieces.proofs.Laws.{bytes_end, adds_up, adds_on, adds_end}
use Rattle.layout.specs.Slots.{slots}
use Rattle.slices.specs.Precinct.{body, packets}
use Rattle.packets.proofs.LinePasses.{standing_still}
use Rattle.slices.proofs.PrecinctLaws.{ends_at, rest_is, passed_goes, passed_stops, settled, refused_precinct}
use Rattle.slices.proofs.Pieces.{slot_tiles, slots_begin}
use Rattle.slices.proofs.precincts.packets.Goals as goal

pub overflow_sub-at : goal.overflow_sub-at
overflow_sub-at c = omega (arith, c.u24_at.ensures.value, ends_at c.requires.2)

pub overflow_sub-at-2 : goal.overflow_sub-at-2
overflow_sub-at-2 c = omega (arith, c.u24_at.ensures.value, ends_at c.requires.2)

pub loop-slot-init : goal.loop-slot-init
loop-slot-init c =
    let a = c.args in
    let x = c.requires.2 in
    let at = a.p.end - c.u24_at.result in
    let e : at ≡ body a.s.now a.c a.p.row a.p.column a.p.at = omega (arith, c.u24_at.ensures.value, ends_at x) in
    (rw e begins, omega arith, refl, slots_begin a.s.now a.c a.p.row a.p.column a.p.at a.cells.now e c.of_precincts-bytes.ensures)

pub packet_turn-requires : goal.packet_turn-requires
packet_turn-requires c =
    let h = c.requires in
    let l = c.loop-slot in
    (h.0, standing_still h.1 l.invariant.2, l.invariant.1, omega (arith, c.loop-slot-test.true, c.slot_count-slot-end.ensures.0), h.2)

-- the step to the next slot has its pieces
pub and-bytes-requires : goal.and-bytes-requires
and-bytes-requires c =
    let l = c.loop-slot in
    let a = c.args in
    let h = c.requires in
    let f = passed_goes c.packet_turn.ensures (c.branch-f.ensures ∙ ap result_from_control_flow c.in_ok-f.is) in
    let tiles = slot_tiles a.s.now a.c a.p.row a.p.column a.p.at l.slot (l.at, l.raws, l.cells) _ (omega (arith, l.invariant.1, ends_at h.2)) f.turn in
    omega (arith, adds_up l.invariant.3 {v = Fine} f.turn tiles.1 f.bytes refl, f.inside, h.2.small)

pub returns-in_err-f : goal.returns-in_err-f
unfolding packets
returns-in_err-f c =
    let below : c.loop-slot.slot < slots c.args.c.shape = omega (arith, c.loop-slot-test.true, c.slot_count-slot-end.ensures.0) in
    let v = c.branch-f.ensures ∙ ap result_from_control_flow c.in_err-f.is in
    refused_precinct (stops c.loop-slot.invariant.0 below (passed_stops c.packet_turn.ensures v)) (handed_on c.branch-f.ensures c.in_err-f.is c.from_residual.ensures.1)

pub loop-slot-preserved : goal.loop-slot-preserved
loop-slot-preserved c =
    let l = c.loop-slot in
    let a = c.args in
    let f = passed_goes c.packet_turn.ensures (c.branch-f.ensures ∙ ap result_from_control_flow c.in_ok-f.is) in
    let tiles = slot_tiles a.s.now a.c a.p.row a.p.column a.p.at l.slot (l.at, l.raws, l.cells) _ (omega (arith, l.invariant.1, ends_at c.requires.2)) f.turn in
    let below : l.slot < slots a.c.shape = omega (arith, c.loop-slot-test.true, c.slot_count-slot-end.ensures.0) in (
      goes_on l.invariant.0 below f.turn,
      f.inside,
      c.packet_turn.auto.cells ∙ l.invariant.2,
      rw c.and-bytes.ensures (adds_on l.invariant.3 {v = Fine} f.turn tiles.1 f.bytes refl below),
    )

pub returns-in_err-rest_row : goal.returns-in_err-rest_row
unfolding packets
returns-in_err-rest_row c =
    let l = c.loop-slot in
    let past : slots c.args.c.shape ≤ l.slot = omega (arith, c.loop-slot-test.false, c.slot_count-slot-end.ensures.0) in
    let v = c.branch-rest_row.ensures ∙ ap result_from_control_flow c.in_err-rest_row.is in
    refused_precinct (settled (ends l.invariant.0 past) (sym v ∙ c.rest_row.ensures ∙ rest_is l.at c.requires.2))
    (handed_on c.branch-rest_row.ensures c.in_err-rest_row.is c.from_residual-in_err-rest_row.ensures.1)

pub returns : goal.returns
unfolding packets
returns c =
    let l = c.loop-slot in
    let past : slots c.args.c.shape ≤ l.slot = omega (arith, c.loop-slot-test.false, c.slot_count-slot-end.ensures.0) in
    let v = c.branch-rest_row.ensures ∙ ap result_from_control_flow c.in_ok-rest_row.is in
    record {
      is = settled (ends l.invariant.0 past) (sym v ∙ c.rest_row.ensures ∙ rest_is l.at c.requires.2);
      bytes = sym (bytes_end l.bytes) ∙ adds_end l.invariant.3 past;
    }
