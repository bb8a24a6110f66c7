-- `reasons::refused_why` meets its contract. Assumes nothing.
use lib.ListN.{replicate}
use Rattle.reasons.proofs.refused_why.Goals as goal

pub returns : goal.returns
returns c =
    λ i. record {
      verdict = c.args.v;
      place = c.place.ensures i;
      components = 0;
      coarsest = replicate 4 (c.nowhere.ensures i);
    }
