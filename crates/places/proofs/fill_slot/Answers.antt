-- `places::fill_slot` meets its contract. Invariant: j candidates are filled. Assumes nothing.
use native.Mathlib.Omega.{arith}
use Rattle.places.proofs.Laws.{next_candidate}
use Rattle.places.proofs.fill_slot.Goals as goal

pub loop-j-preserved : goal.loop-j-preserved
loop-j-preserved c =
    let a = c.args in
    let l = c.loop-j in
    let h = c.requires.0 in
    next_candidate a.c h.settled a.p h.column h.which l.j (omega arith) l.invariant c.fill_candidate.ensures
