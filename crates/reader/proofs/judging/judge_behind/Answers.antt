-- `reader::judging::judge_behind` meets its contract. Assumes nothing.
use mathlib.Core.Path.{sym, ◌∙◌, subst}
use native.Mathlib.Nat.{le_refl}
use Rattle.layout.specs.Cells.{samples}
use Rattle.reader.specs.Steps.{Opened}
use Rattle.reader.proofs.Openings.{opened}
use Rattle.reader.proofs.Leaving.{roomy}
use Rattle.reader.proofs.Judgement.{judges}
use Rattle.reader.proofs.judging.judge_behind.Goals as goal

pub samples_before-n-requires : goal.samples_before-n-requires
samples_before-n-requires c =
    rw (c.shape_of-s.ensures, c.requires.1) ((opened c.args.stream.now c.requires.0).shape, le_refl _)

pub room_row-w-requires : goal.room_row-w-requires
room_row-w-requires c = (c.samples_before-n.ensures.0 ∙ (λ i. samples (c.shape_of-s.ensures i) (c.shape_of-s.ensures i).nc), c.samples_before-n.ensures.1)

pub judge_lent-requires : goal.judge_lent-requires
judge_lent-requires c =
    let own = c.samples_before-n.ensures.0 ∙ (λ i. samples (c.shape_of-s.ensures i) (c.shape_of-s.ensures i).nc) in (
      subst (Opened c.args.stream.now) (sym c.requires.1) (opened c.args.stream.now c.requires.0),
      own,
      c.samples_before-n.ensures.1,
      λ fine. (roomy c.args.damaged c.args.placed c.args.h own c.room_row-w.ensures fine).1,
    )

pub returns : goal.returns
returns c =
    judges c.requires.0 c.requires.1 c.room_row-w.ensures c.judge_lent.ensures
