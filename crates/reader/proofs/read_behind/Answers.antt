-- `reader::read_behind` meets its contract. Assumes nothing.
use mathlib.Core.Path.{sym, ◌∙◌, subst}
use native.Mathlib.Nat.{le_refl}
use Rattle.layout.specs.Cells.{samples}
use Rattle.reader.specs.Steps.{Opened}
use Rattle.reader.proofs.Openings.{opened}
use Rattle.reader.proofs.Leaving.{reads}
use Rattle.reader.proofs.read_behind.Goals as goal

pub samples_before-n-requires : goal.samples_before-n-requires
samples_before-n-requires c =
    rw (c.shape_of-s.ensures, c.requires.1) ((opened c.args.stream.now c.requires.0).shape, le_refl _)

pub room_row-w-requires : goal.room_row-w-requires
room_row-w-requires c = (c.samples_before-n.ensures.0 ∙ (λ i. samples (c.shape_of-s.ensures i) (c.shape_of-s.ensures i).nc), c.samples_before-n.ensures.1)

pub decode_by-requires : goal.decode_by-requires
decode_by-requires c = (
  subst (Opened c.args.stream.now) (sym c.requires.1) (opened c.args.stream.now c.requires.0),
  c.samples_before-n.ensures.0 ∙ (λ i. samples (c.shape_of-s.ensures i) (c.shape_of-s.ensures i).nc),
  c.samples_before-n.ensures.1,
  c.room_row-w.ensures,
)

pub returns : goal.returns
returns c =
    reads c.requires.0 c.requires.1 c.room_row-w.ensures c.decode_by.ensures
