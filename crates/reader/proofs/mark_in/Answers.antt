-- `reader::mark_in` meets its contract. Assumes nothing.
use mathlib.Core.Path.{◌∙◌}
use mathlib.Core.Bool.{cond}
use Rattle.reader.specs.Settings.{N}
use Rattle.reader.proofs.Marking.{marked_not}
use Rattle.reader.proofs.mark_in.Goals as goal

pub mark-requires : goal.mark-requires
mark-requires c =
    let a = c.args in
    let p = c.requires in
    record { ranges = p.0.ranges; built = p.0.built; enough = p.0.enough; room = p.1 ∙ (λ j. cond (c.if-damaged.true j) (N a.h) 0) }

pub returns-then-damaged : goal.returns-then-damaged
returns-then-damaged c =
    rw c.if-damaged.true (record { marks = c.mark.ensures.marks; same = c.mark.ensures.same })

pub returns-else-damaged : goal.returns-else-damaged
returns-else-damaged c =
    marked_not (N c.args.h) c.args.marks.now c.if-damaged.false c.requires.1
