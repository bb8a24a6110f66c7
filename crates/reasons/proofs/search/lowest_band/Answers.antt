-- `reasons::search::lowest_band` meets its contract. Invariant: no band before has passed. Assumes nothing.
use mathlib.Core.Path.{refl, sym, ◌∙◌}
use Rattle.loops.proofs.Lowest.{search_stops, search_ends}
use Rattle.reasons.proofs.search.lowest_band.Goals as goal

pub returns-then-has_largest : goal.returns-then-has_largest
returns-then-has_largest c = search_stops c.loop-b.invariant c.loop-b-test.true (sym c.has_largest.ensures ∙ c.if-has_largest.true)

pub returns : goal.returns
returns c = search_ends c.loop-b.invariant c.loop-b-test.false refl
