-- `places::fill_candidate` meets its contract. Assumes nothing.
use native.Mathlib.Omega.{arith}
use Rattle.packets.proofs.Lines.{lies_read, stride_some}
use Rattle.places.proofs.fill_candidate.Goals as goal

pub number_in-requires : goal.number_in-requires
number_in-requires c =
    let h = c.requires in
    (h.0.settled, (lies_read h.0 h.1 c.line_at-l.ensures c.if-l.true).band)

pub fill_line-requires : goal.fill_line-requires
fill_line-requires c =
    let a = c.args in
    let h = c.requires in
    let e = c.line_at-l.ensures in
    let lies = lies_read h.0 h.1 e c.if-l.true in
    (record { each = λ x l. omega (arith, lies.inside x l, h.2) }, rw e (stride_some a.c a.p a.slot a.j))
