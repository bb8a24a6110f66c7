use mathlib.Core.Path.{sym, ap, ◌∙◌}
use native.Mathlib.Omega.{arith}
use Rattle.std.specs.Result.{result_from_control_flow}
use Rattle.layout.proofs.Slots.{slots_most}
use Rattle.packets.proofs.Laws.{packet_inside}
use Rattle.pieces.specs.Pieces.{bytes_of}
use Rattle.pieces.proofs.Laws.{read_bytes}
use Rattle.packets.specs.Pieces.{packet_pieces}
use Rattle.rows.proofs.Passing.{handed_on}
use Rattle.slices.proofs.PrecinctLaws.{packet_there, packet_goes, packet_absent, refused_slot}
use Rattle.slices.proofs.Pieces.{pieces_there, pieces_absent}
use Rattle.slices.proofs.precincts.packet_turn.Goals as goal

pub any_line-requires : goal.any_line-requires
any_line-requires c =
    let h = c.requires in
    record { settled = h.0; row = h.1.row; column = h.1.column; which = h.3 }

pub packet-o-requires : goal.packet-o-requires
packet-o-requires c =
    let h = c.requires in
    (h.0, h.1, h.2, h.3, sym c.any_line.ensures ∙ c.if-any_line.true)

pub bounds-flags-slot : goal.bounds-flags-slot
bounds-flags-slot c =
    let h = c.requires in
    omega (arith, h.3, slots_most c.args.c.shape h.0.shape)

pub returns-in_err-o : goal.returns-in_err-o
returns-in_err-o c =
    let a = c.args in
    let there = sym c.any_line.ensures ∙ c.if-any_line.true in
    let v = c.branch-o.ensures ∙ ap result_from_control_flow c.in_err-o.is in
    refused_slot (packet_there a.s.now a.c a.p.row a.p.column a.p.at a.slot a.at a.raws a.cells.now c.requires.4 there c.packet-o.ensures.left v)
    (handed_on c.branch-o.ensures c.in_err-o.is c.from_residual.ensures.1)

pub returns-then-any_line : goal.returns-then-any_line
returns-then-any_line c =
    let a = c.args in
    let h = c.requires in
    let o = c.packet-o.ensures in
    let there = sym c.any_line.ensures ∙ c.if-any_line.true in
    let v = c.branch-o.ensures ∙ ap result_from_control_flow c.in_ok-o.is in
    record {
      turn = packet_goes a.s.now a.c a.p.row a.p.column a.p.at a.slot a.at a.raws a.cells.now h.4 there o.left v o.dr o.past;
      inside = omega (arith, o.past, packet_inside a.s.now a.c a.p a.slot a.at a.raws a.cells.now h.2 ((λ i. (o.left i).0) ∙ v));
      bytes =
          read_bytes (packet_pieces a.s.now a.c a.p a.slot a.at a.cells.now) o.bytes v
          ∙ ap bytes_of (pieces_there a.s.now a.c a.p.row a.p.column a.p.at a.slot a.at a.raws a.cells.now h.4 there);
    }

pub returns : goal.returns
returns c =
    let a = c.args in
    let h = c.requires in
    let none = sym c.any_line.ensures ∙ c.if-any_line.false in
    record {
      turn = packet_absent a.s.now a.c a.p.row a.p.column a.p.at a.slot a.at a.raws a.cells.now h.4 none;
      inside = h.2;
      bytes = pieces_absent a.s.now a.c a.p.row a.p.column a.p.at a.slot a.at a.raws a.cells.now h.4 none;
    }
