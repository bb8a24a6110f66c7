-- `layout::lines::candidate_count` meets its contract. Assumes nothing.
use native.Mathlib.Omega.{arith}
use Rattle.layout.proofs.Slots.{candidates_most}
use Rattle.layout.proofs.lines.candidate_count.Goals as goal

pub overflow_mul-result : goal.overflow_mul-result
overflow_mul-result c = grind (arith, c.slot_of-slot.ensures, candidates_most c.args.s c.requires.0 c.args.k)

pub returns : goal.returns
returns c = grind (arith, c.slot_of-slot.ensures, candidates_most c.args.s c.requires.0 c.args.k)
