-- `places::fill_precinct` meets its contract. Invariant: so many slots are filled. Assumes nothing.
use native.Mathlib.Omega.{arith}
use Rattle.places.proofs.Laws.{next_slot}
use Rattle.places.proofs.fill_precinct.Goals as goal

pub loop-slot-preserved : goal.loop-slot-preserved
loop-slot-preserved c =
    let l = c.loop-slot in
    next_slot c.args.c c.requires.0 c.args.p c.requires.2 l.slot (omega arith) l.invariant c.fill_slot.ensures
