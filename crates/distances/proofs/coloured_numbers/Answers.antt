-- `distances::coloured_numbers` meets its contract. Assumes nothing.
use mathlib.Core.List.{[], ◌∷◌}
use borrow.Author.Rules.{rules}
use borrow.Author.Tests.{eq-eqb, ne_eqb}
use lib.ListN.{get_or}
use Rattle.whole.specs.Cells.{listed}
use Rattle.whole.proofs.Lists.{listed_self}
use Rattle.distances.specs.Rule.{coloured_number}
use Rattle.distances.proofs.coloured_numbers.Goals as goal

pub returns-then-cpih-eq1 : goal.returns-then-cpih-eq1
unfolding listed coloured_number
returns-then-cpih-eq1 c =
    let a = c.args in
    let r = c.numbers_rct-r.ensures in
    rw (eq-eqb a.cpih 1 c.if-cpih-eq1.true) (λ i. (r i).c0 ∷ ((r i).c1 ∷ ((r i).c2 ∷ (get_or a.e 3 0 ∷ []))))

pub returns : goal.returns
unfolding listed coloured_number
returns c =
    let a = c.args in
    rw (ne_eqb a.cpih 1 c.if-cpih-eq1.false) (listed_self 4 a.e 0 (search rules))
