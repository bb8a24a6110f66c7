-- `packets::passes::count_line` meets its contract. Assumes nothing.
use Rattle.packets.proofs.LinePasses.{count_ready, count_there, count_absent}
use Rattle.packets.proofs.passes.count_line.Goals as goal

pub line_counts-requires : goal.line_counts-requires
line_counts-requires c =
    let a = c.args in
    count_ready a.s.now a.c a.p a.raw a.l c.coding_of-coding.ensures c.requires.0 c.requires.1 (c.requires.2 c.if-l.true) c.requires.3 c.requires.4

pub returns-then-l : goal.returns-then-l
returns-then-l c =
    let a = c.args in
    count_there a.s.now a.c a.p a.cnt.now a.sig.now a.raw a.l a.at a.z a.cells.now c.if-l.true c.coding_of-coding.ensures c.line_counts.ensures

pub returns : goal.returns
returns c =
    let a = c.args in
    count_absent a.s.now a.c a.p a.cnt.now a.sig.now a.raw a.l a.at a.z a.cells.now c.if-l.false
