-- `slice` meets its contract. Assumes nothing.
use Rattle.slices.specs.Slice.{State}
use Rattle.slices.proofs.SliceLaws.{slice_turned}
use Rattle.damage.specs.Stream.{turn_by}
use Rattle.damage.specs.Pieces.{pieces_by}
use Rattle.damage.proofs.Turns.{turned_still}
use Rattle.damage.proofs.slice.Goals as goal

pub returns-then-damaged : goal.returns-then-damaged
returns-then-damaged c =
    let a = c.args in
    let x : State = (a.at, a.tops, a.cells.now) in
    let e = c.if-damaged.true in
    turned_still (λ i. turn_by a.s.now a.c (e i) a.t x) (λ i. pieces_by a.s.now a.c (e i) a.t x) c.damaged_slice.ensures

pub returns-else-damaged : goal.returns-else-damaged
returns-else-damaged c =
    let a = c.args in
    let x : State = (a.at, a.tops, a.cells.now) in
    let e = c.if-damaged.false in
    turned_still (λ i. turn_by a.s.now a.c (e i) a.t x) (λ i. pieces_by a.s.now a.c (e i) a.t x)
    (slice_turned a.s.now a.c a.t x c.slice.ensures)
