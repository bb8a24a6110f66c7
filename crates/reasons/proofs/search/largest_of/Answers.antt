-- `reasons::search::largest_of` meets its contract. Invariant: the largest of the bands before. Assumes nothing.
use mathlib.Core.Path.{refl, ◌∙◌}
use Rattle.layout.specs.Precincts.{largest}
use Rattle.layout.proofs.Columns.{largest_next}
use Rattle.reasons.proofs.search.largest_of.Invariants.{own}
use Rattle.reasons.proofs.search.largest_of.Goals as goal

pub loop-b-init : goal.loop-b-init
unfolding largest
loop-b-init c = refl

pub loop-b-preserved : goal.loop-b-preserved
loop-b-preserved c =
    let a = c.args in
    let l = c.loop-b in
    c.max-top.ensures ∙ largest_next (own a.nc a.i a.tops) l.b l.invariant c.own_top.ensures
