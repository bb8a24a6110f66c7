-- `packets::packet` meets its contract. Assumes nothing.
use Rattle.packets.specs.Steps.{Within}
use Rattle.packets.proofs.Pieces.{decoded_read, decoded_refused}
use Rattle.packets.proofs.packet.Goals.{Start}
use Rattle.packets.proofs.packet.Goals as goal

within : (c : Start) → Within c.args.s.now c.args.c c.args.p c.args.slot
within c =
    let at = c.requires.1 in
    record {
      slotted = record { settled = c.requires.0; row = at.row; column = at.column; which = c.requires.3 };
      short = at.short;
      at = at.at;
      end = at.end;
    }

pub returns-in-Ok : goal.returns-in-Ok
returns-in-Ok c =
    let a = c.args in
    decoded_read a.s.now a.c a.p a.slot a.at a.raws a.cells.now c.open-o.ensures c.subpackets.ensures c.in-Ok.is

pub returns-in-Err : goal.returns-in-Err
returns-in-Err c =
    let a = c.args in
    decoded_refused a.s.now a.c a.p a.slot a.at a.raws a.cells.now c.open-o.ensures c.subpackets.ensures c.in-Err.is
