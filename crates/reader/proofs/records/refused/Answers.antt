-- `reader::records::refused` meets its contract. Assumes nothing.
use mathlib.Core.Bool.{false}
use lib.ListN.{replicate}
use Rattle.pieces.specs.Pieces.{nothing}
use Rattle.reader.proofs.records.refused.Goals as goal

pub returns : goal.returns
returns c =
    λ i. record {
      answer = c.answer.ensures i;
      place = c.place.ensures i;
      components = 0;
      caption = false;
      width = replicate 4 0;
      height = replicate 4 0;
      precision = replicate 4 0;
      distance = replicate 4 0;
      bytes = nothing;
    }
