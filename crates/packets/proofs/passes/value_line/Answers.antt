-- `packets::passes::value_line` meets its contract. Assumes nothing.
use Rattle.packets.proofs.LinePasses.{value_fit, value_there, value_absent}
use Rattle.packets.proofs.passes.value_line.Goals as goal

pub truncation_of-requires : goal.truncation_of-requires
truncation_of-requires c = (c.requires.0, (c.requires.1 c.if-l.true).band)

pub line_values-requires : goal.line_values-requires
line_values-requires c =
    let a = c.args in
    (c.requires.5, value_fit a.c a.p.row a.l c.requires.0 (c.requires.1 c.if-l.true) c.requires.2 c.requires.3 c.requires.4)

pub returns-then-l : goal.returns-then-l
returns-then-l c =
    let a = c.args in
    value_there a.c a.p a.dat.now a.sgn.now a.l a.from a.cells.now c.if-l.true c.truncation_of.ensures.value c.line_values.ensures

pub returns : goal.returns
returns c =
    let a = c.args in
    value_absent a.c a.p a.dat.now a.sgn.now a.l a.from a.cells.now c.if-l.false
