-- No slice makes a count cell negative, whether it is accepted or refused. Assumes nothing.
use Prim.Native.Nat.{ℕ, ◌+◌, ◌*◌, ◌<◌}
use mathlib.Core.Path.{refl}
use mathlib.Core.List.{List}
use native.Mathlib.Omega.{arith}
use Rattle.whole.specs.Cells.{cell}
use Rattle.layout.specs.Bands.{Wc, Hc}
use Rattle.layout.specs.Precincts.{slices}
use Rattle.layout.specs.Cells.{area, start}
use Rattle.layout.specs.Slots.{line_at}
use Rattle.layout.proofs.Cells.{cell_below, every_cell}
use Rattle.packets.specs.declared.Setting.{Setting}
use Rattle.packets.specs.Ready.{Settled}
use Rattle.packets.proofs.Addresses.{There, count_apart}
use Rattle.packets.proofs.CountCells.{NotNegative, NoCoefficient, packet_counts_cell}
use Rattle.slices.specs.Precinct.{precinct_at}
use Rattle.slices.specs.Slice.{State, slice}
use Rattle.slices.proofs.Laws.{slice_keeps}
use Rattle.slices.proofs.PrecinctCoefficients.{address}

-- column X and row Y of component i's counts are no coefficient's place
module _ (c : Setting) (settled : Settled c) {i X Y : ℕ} (h : i < c.shape.nc) (column : X < Wc c.shape i) (row : Y < Hc c.shape i) where
  count_place : {r k slot j : ℕ} → There c.shape r k slot j → NoCoefficient (line_at c.shape r k slot j) (start c.shape i + area c.shape i + (Y * Wc c.shape i + X))
  unfolding area
  count_place there x l e =
      let W = Wc c.shape i in
      let q = every_cell c.shape settled.shape i h (Y * W + X) (cell_below W Y X column (Hc c.shape i) row) in
      let A = address c settled h q.exists (record { down = refl; across = refl }) in
      count_apart c.shape settled.shape A.there there _ x A.inside l (omega (arith, A.coefficient, A.behind, q.cell, e))

  pub slice_counts_cell : (s : List ℕ) (t : ℕ) → t < slices c.shape → (x : State) → NotNegative (cell x.2 (start c.shape i + area c.shape i + (Y * Wc c.shape i + X)))
      → NotNegative (cell (slice s c t x).1.2 (start c.shape i + area c.shape i + (Y * Wc c.shape i + X)))
  slice_counts_cell s t l x =
      slice_keeps s c (λ z. NotNegative (cell z (start c.shape i + area c.shape i + (Y * Wc c.shape i + X)))) settled.shape t l
      (λ r k at slot place raws cells down own across which.
      packet_counts_cell s c (precinct_at s c r k at) slot place raws cells (start c.shape i + area c.shape i + (Y * Wc c.shape i + X))
      (λ j m p. count_place (record { across = across; which = which; candidate = m; present = p })))
      x
