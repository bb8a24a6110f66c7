-- `damaged_slice` meets its contract. Assumes nothing.
use mathlib.Core.Path.{refl}
use Rattle.damage.specs.Stream.{stepped_over, damaged_turn}
use Rattle.damage.proofs.Turns.{turned_still}
use Rattle.damage.proofs.damaged_slice.Goals as goal

pub stepped_over-requires : goal.stepped_over-requires
stepped_over-requires c =
    let h = c.requires in
    (h.0, h.1, c.walk_slice-w.ensures.is)

pub returns : goal.returns
unfolding damaged_turn
returns c =
    let a = c.args in
    turned_still (λ i. stepped_over a.s.now a.c a.t (a.at, a.tops, a.cells.now) (c.walk_slice-w.ensures.is i)) refl c.stepped_over.ensures
