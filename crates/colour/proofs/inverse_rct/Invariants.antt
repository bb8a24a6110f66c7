-- `colour::inverse_rct` meets its contract. The invariant: the first x pixels are transformed, and no other cell has changed. Assumes nothing.
use Rattle.colour.specs.Kinds.{rct_of}
use Rattle.colour.specs.Pass.{TransformedBy}
use Rattle.colour.proofs.inverse_rct.Given as goal

abbrev pub invariant-loop-x : goal.invariant-loop-x
invariant-loop-x l = TransformedBy (rct_of l.kind) l.first l.second l.third l.x l.initial.work l.work
