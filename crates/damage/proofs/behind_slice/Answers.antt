-- `behind_slice` meets its contract. Assumes nothing.
use Prim.Native.Nat.{◌-◌}
use mathlib.Core.Path.{ap, ◌∙◌}
use native.Mathlib.Omega.{arith}
use Rattle.pieces.specs.Pieces.{Markers, Spoilt, plus, all}
use Rattle.pieces.proofs.Laws.{piece_once}
use Rattle.slices.specs.Slice.{slice_header_bytes}
use Rattle.damage.proofs.Turns.{goes_behind, loses_behind}
use Rattle.damage.proofs.behind_slice.Goals as goal

pub and-requires : goal.and-requires
and-requires c =
    let a = c.args in
    omega (
      arith,
      ap all c.of_markers-header.ensures,
      piece_once Markers slice_header_bytes,
      ap all c.of_spoilt.ensures,
      piece_once Spoilt (a.to - a.from),
      c.requires.4,
    )

pub returns-in-Ok : goal.returns-in-Ok
returns-in-Ok c =
    let a = c.args in
    goes_behind a.c a.t a.from a.to a.tops a.r a.cells.now c.in-Ok.is

pub returns-in-Err : goal.returns-in-Err
returns-in-Err c =
    let a = c.args in
    loses_behind a.c a.t a.from a.to a.tops a.r a.cells.now c.in-Err.is c.lose.ensures
    (c.and.ensures ∙ (λ i. plus (c.of_markers-header.ensures i) (c.of_spoilt.ensures i)))
