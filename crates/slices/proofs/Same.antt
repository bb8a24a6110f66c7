-- Cell locality of precincts and slices: verdict, place and cells depend, at a kind of cells that has all that the slice reads, on what stood there alone.
-- Assumes nothing.
use Rattle.std.specs.Prelude.{Ok, Err}
use Prim.Native.Nat.{ℕ, ◌+◌, ◌*◌, ◌/◌, ◌%◌, ◌<◌}
use mathlib.Core.Path.{◌≡◌, refl, subst}
use mathlib.Core.Bool.{Bool, true, false, cond}
use mathlib.Core.List.{List}
use native.Mathlib.Omega.{arith}
use borrow.Author.Tests.{eqb-false}
use lib.IntN.{ℤ}
use lib.ListN.{set}
use Rattle.whole.specs.Cells.{Same}
use Rattle.loops.specs.Run.{go}
use Rattle.loops.proofs.Follows.{Both, run_both}
use Rattle.rows.specs.Rows.{first, Fine, Verdict}
use Rattle.bits.specs.Groups.{Ng}
use Rattle.layout.specs.Bands.{NL, band_exists}
use Rattle.layout.specs.Precincts.{Npx, Npy, Np, slices, slice_top}
use Rattle.layout.specs.Slots.{slots, candidates, line_at}
use Rattle.counts.specs.Lines.{count_cell, above_cell}
use Rattle.packets.specs.declared.Setting.{Setting}
use Rattle.packets.specs.Precincts.{D}
use Rattle.packets.specs.Passes.{line, place_of}
use Rattle.packets.specs.Ready.{Settled, Slotted}
use Rattle.packets.specs.Packets.{any_line, head, past, packet}
use Rattle.packets.proofs.Lines.{lies}
use Rattle.packets.proofs.Same.{Reaches, packet_same}
use Rattle.slices.specs.Precinct.{precinct_at, header_checks, Packing, packed, packet_turn, rest_checks, body, no_flags, packets, packets_by, precinct}
use Rattle.slices.specs.Slice.{State, Left, slice_header_bytes, row_of, column_in, is_top, slice_checks, placed, precinct_turn, precincts, precincts_by, slice}
use Rattle.slices.proofs.PrecinctLaws.{header_modes}
use Rattle.slices.proofs.SliceLaws.{row_inside, column_inside}

-- ---- a precinct

module _ (P : ℕ → Type 0) where
  abbrev Agree : Verdict × List ℤ → Verdict × List ℤ → Type 0
  Agree x y = (x.0 ≡ y.0) × Same P x.1 y.1

  module _ (s : List ℕ) (c : Setting) (row column at : ℕ) where
    abbrev SamePacking : Packing s c row column at → Packing s c row column at → Type 0
    SamePacking x y = (x.0 ≡ y.0) × (x.1 ≡ y.1) × Same P x.2 y.2

    packed_same : (slot m n : ℕ) (u w : List ℕ) (x y : Verdict) (a b : List ℤ) → m ≡ n → u ≡ w → x ≡ y → Same P a b
        → Both SamePacking Agree (packed s c row column at slot m u (x, a)) (packed s c row column at slot n w (y, b))
    packed_same slot m n u w x y a b e f g same =
        subst (λ (v : Verdict). Both SamePacking Agree (packed s c row column at slot m u (x, a)) (packed s c row column at slot n w (v, b))) g (by x)
      where
        by : (x : Verdict) → Both SamePacking Agree (packed s c row column at slot m u (x, a)) (packed s c row column at slot n w (x, b))
        by (Ok _) = (
          (λ i. past s c (precinct_at s c row column at) slot (e i)),
          (λ i. set (f i) slot (head s c (precinct_at s c row column at) slot (e i)).dr),
          same,
        )
        by (Err k) = (refl, same)

    module _ (reach : (slot : ℕ) → slot < slots c.shape → Reaches P s c (precinct_at s c row column at) slot) where
      packet_turn_same : (slot : ℕ) (x y : Packing s c row column at) → slot < slots c.shape → SamePacking x y
          → Both SamePacking Agree (packet_turn s c row column at slot x) (packet_turn s c row column at slot y)
      unfolding packet_turn
      packet_turn_same slot x y l h = by (any_line c (precinct_at s c row column at) slot (candidates c.shape slot))
        where
          left : ℕ → List ℕ → List ℤ → Verdict × List ℤ
          left place raws cells = packet s c (precinct_at s c row column at) slot place raws cells

          by : (any : Bool) → Both SamePacking Agree (cond any (packed s c row column at slot x.0 x.1 (left x.0 x.1 x.2)) (go x))
              (cond any (packed s c row column at slot y.0 y.1 (left y.0 y.1 y.2)) (go y))
          by true =
              let q = packet_same s c (precinct_at s c row column at) slot (reach slot l) x.0 x.1 x.2 y.2 h.2 in
              let z = left x.0 x.1 x.2 in
              let w = left x.0 x.1 y.2 in
              let e : w ≡ left y.0 y.1 y.2 = λ i. left (h.0 i) (h.1 i) y.2 in
              subst (λ (v : Verdict × List ℤ). Both SamePacking Agree (packed s c row column at slot x.0 x.1 z) (packed s c row column at slot y.0 y.1 v)) e
              (packed_same slot x.0 y.0 x.1 y.1 z.0 w.0 z.1 w.1 h.0 h.1 q.0 q.1)
          by false = h

      packets_same : (a b : List ℤ) → Same P a b → Agree (packets s c row column at a) (packets s c row column at b)
      unfolding packets
      packets_same a b same =
          run_both SamePacking Agree (packet_turn s c row column at) (packet_turn s c row column at)
          (λ x. (first (rest_checks s c row column at x.0), x.2)) (λ x. (first (rest_checks s c row column at x.0), x.2)) (slots c.shape)
          (λ x y h. ((λ i. first (rest_checks s c row column at (h.0 i))), h.2)) packet_turn_same (slots c.shape) 0
          (body s c row column at, no_flags s c row column at, a) (body s c row column at, no_flags s c row column at, b) (omega arith) (refl, refl, same)

    -- where it holds of an accepted header that its lines read cells of the kind
    pub precinct_same : (top : Bool) → (first (header_checks s c row column at top) ≡ Fine → (slot : ℕ) → slot < slots c.shape → Reaches P s c (precinct_at s c row column at) slot)
        → (a b : List ℤ) → Same P a b → Agree (precinct s c row column at top a) (precinct s c row column at top b)
    unfolding precinct
    precinct_same top reach a b same = by _ refl
      where
        by : (v : Verdict) → first (header_checks s c row column at top) ≡ v → Agree (packets_by s c row column at v a) (packets_by s c row column at v b)
        by (Ok _) e = packets_same (reach e) a b same
        by (Err k) e = (refl, same)

-- ---- a slice

-- a kind of cells that has all that the lines of slice t read: their count cells and, below the slice's top row, those of the lines above
pub record Closed (P : ℕ → Type 0) (c : Setting) (t : ℕ) : Type 0 where
  pub counts : (row column slot j : ℕ) → row < Npy c.shape → row / c.shape.hsl ≡ t → column < Npx c.shape → slot < slots c.shape → j < candidates c.shape slot
      → (line_at c.shape row column slot j).present ≡ true → (g : ℕ) → Ng * g < (line_at c.shape row column slot j).width
      → P (count_cell (place_of (line_at c.shape row column slot j)) g)
  pub over : (row column slot j : ℕ) → row < Npy c.shape → row / c.shape.hsl ≡ t → column < Npx c.shape → slot < slots c.shape → j < candidates c.shape slot
      → (line_at c.shape row column slot j).present ≡ true → slice_top c.shape t < row → (g : ℕ) → Ng * g < (line_at c.shape row column slot j).width
      → P (above_cell (place_of (line_at c.shape row column slot j)) g)

-- two states at one place, whatever their tops are
abbrev pub SameState : (ℕ → Type 0) → State → State → Type 0
SameState P x y = (x.0 ≡ y.0) × Same P x.2 y.2

abbrev pub SameLeft : (ℕ → Type 0) → Left → Left → Type 0
SameLeft P x y = (x.0 ≡ y.0) × SameState P x.1 y.1

module _ (P : ℕ → Type 0) (s : List ℕ) (c : Setting) (settled : Settled c) (t : ℕ) (h : t < slices c.shape) (closed : Closed P c t) where
  reaches : (n : ℕ) → n < Np c.shape t → (at : ℕ) → first (header_checks s c (row_of s c t n) (column_in s c t n) at (is_top s c t n)) ≡ Fine
      → (slot : ℕ) → slot < slots c.shape → Reaches P s c (precinct_at s c (row_of s c t n) (column_in s c t n) at) slot
  reaches n l at e slot m =
      let r = row_inside c.shape settled.shape t h n l in
      let k = column_inside c.shape settled.shape t h n l in
      let p = precinct_at s c (row_of s c t n) (column_in s c t n) at in
      let slotted : Slotted c p slot = record { settled = settled; row = r.0; column = k; which = m } in
      record {
        counts = λ j q there g w. closed.counts (row_of s c t n) (column_in s c t n) slot j r.0 r.1 k m q there g w;
        over = λ j q there d g w. closed.over (row_of s c t n) (column_in s c t n) slot j r.0 r.1 k m q there
            (below (line c p slot j).band (lies c p slot j slotted q there).band (lies c p slot j slotted q there).exists d) g w;
      }
    where
      -- row 8: no vertical prediction in the top row
      below : (b : ℕ) → b < NL c.shape → band_exists c.shape b ≡ true → D s c (precinct_at s c (row_of s c t n) (column_in s c t n) at) b % 2 ≡ 1
          → slice_top c.shape t < row_of s c t n
      below b u v d = by (is_top s c t n) refl
        where
          by : (top : Bool) → is_top s c t n ≡ top → slice_top c.shape t < row_of s c t n
          by true f = absurd (omega (arith, d, header_modes s c (row_of s c t n) (column_in s c t n) at (is_top s c t n) e f b u v))
          by false f = omega (arith, eqb-false (row_of s c t n) (slice_top c.shape t) f)

  placed_same : (n : ℕ) (x y : State) (v w : Verdict) (a b : List ℤ) → x.0 ≡ y.0 → v ≡ w → Same P a b → Both (SameState P) (SameLeft P) (placed s c t n x (v, a)) (placed s c t n y (w, b))
  placed_same n x y v w a b e f same = subst (λ (u : Verdict). Both (SameState P) (SameLeft P) (placed s c t n x (v, a)) (placed s c t n y (u, b))) f (by v)
    where
      by : (v : Verdict) → Both (SameState P) (SameLeft P) (placed s c t n x (v, a)) (placed s c t n y (v, b))
      by (Ok _) = ((λ i. (precinct_at s c (row_of s c t n) (column_in s c t n) (e i)).end), same)
      by (Err k) = (refl, (e, same))

  turn_same : (n : ℕ) (x y : State) → n < Np c.shape t → SameState P x y → Both (SameState P) (SameLeft P) (precinct_turn s c t n x) (precinct_turn s c t n y)
  unfolding precinct_turn
  turn_same n x y l z =
      let q = precinct_same P s c (row_of s c t n) (column_in s c t n) x.0 (is_top s c t n) (reaches n l x.0) x.2 y.2 z.1 in
      let u = left x.0 x.2 in
      let w = left x.0 y.2 in
      let e : w ≡ left y.0 y.2 = λ i. left (z.0 i) y.2 in
      subst (λ (v : Verdict × List ℤ). Both (SameState P) (SameLeft P) (placed s c t n x u) (placed s c t n y v)) e
      (placed_same n x y u.0 w.0 u.1 w.1 z.0 q.0 q.1)
    where
      left : ℕ → List ℤ → Verdict × List ℤ
      left at cells = precinct s c (row_of s c t n) (column_in s c t n) at (is_top s c t n) cells

  pub precincts_same : (x y : State) → SameState P x y → SameLeft P (precincts s c t x) (precincts s c t y)
  unfolding precincts
  precincts_same x y z =
      run_both (SameState P) (SameLeft P) (precinct_turn s c t) (precinct_turn s c t) (λ y. (Fine, y)) (λ y. (Fine, y)) (Np c.shape t) (λ a b q. (refl, q)) turn_same
      (Np c.shape t) 0 x y (omega arith) z

  -- a slice, for any kind of cells that is closed
  pub slice_same : (x y : State) → SameState P x y → SameLeft P (slice s c t x) (slice s c t y)
  unfolding slice
  slice_same x y z =
      subst (λ (w : Verdict). SameLeft P (precincts_by s c t (first (slice_checks s t x.0)) x) (precincts_by s c t w y)) (λ i. first (slice_checks s t (z.0 i)))
      (by (first (slice_checks s t x.0)))
    where
      by : (v : Verdict) → SameLeft P (precincts_by s c t v x) (precincts_by s c t v y)
      by (Ok _) = precincts_same (x.0 + slice_header_bytes, x.1, x.2) (y.0 + slice_header_bytes, y.1, y.2) ((λ i. z.0 i + slice_header_bytes), z.1)
      by (Err k) = (refl, z)
