-- `packets::counts_of` meets its contract. Assumes nothing.
use Rattle.packets.proofs.Stretches.{counts_are}
use Rattle.packets.proofs.counts_of.Goals as goal

pub returns : goal.returns
returns c =
    let a = c.args in
    counts_are a.s.now a.c a.p a.slot a.parts.at c.requires.1 a.cells.now c.packet_counts.ensures
