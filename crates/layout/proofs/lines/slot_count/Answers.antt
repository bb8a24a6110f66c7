-- `layout::lines::slot_count` meets its contract. Assumes nothing.
use native.Mathlib.Omega.{arith}
use Rattle.layout.proofs.Slots.{slots_most}
use Rattle.layout.proofs.lines.slot_count.Goals as goal

pub returns : goal.returns
returns c = grind (arith, c.power.ensures, slots_most c.args.s c.requires)
