-- `reader::records::size_of` meets its contract. Assumes nothing.
use native.Mathlib.Omega.{arith}
use Rattle.reader.proofs.Openings.{size_there, size_none}
use Rattle.reader.proofs.records.size_of.Goals as goal

pub component_of-c-requires : goal.component_of-c-requires
component_of-c-requires c =
    let shape = c.shape_of-s.ensures in
    rw shape (c.requires.0, c.if-i-p.true)

pub returns-then-i-p : goal.returns-then-i-p
returns-then-i-p c =
    size_there c.args.h c.args.i c.if-i-p.true (rw c.shape_of-s.ensures at c.component_of-c.ensures)

pub returns : goal.returns
returns c =
    let a = c.args in
    size_none a.h a.i (omega (arith, c.if-i-p.false))
