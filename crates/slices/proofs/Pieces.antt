-- The pieces of what is read tile it: a precinct from its header to its end, a slice from its header to the next. Assumes nothing.
use Rattle.std.specs.Prelude.{Ok, Err}
use Prim.Native.Nat.{ℕ, ◌+◌, ◌-◌, ◌^◌, ◌≤◌, ◌<◌}
use mathlib.Core.Bool.{Bool, true, false, cond}
use mathlib.Core.List.{List, [], ◌∷◌}
use mathlib.Core.Path.{◌≡◌, refl, sym, ap, ◌∙◌}
use native.Mathlib.Omega.{arith}
use lib.IntN.{ℤ}
use lib.ListN.{length}
use Rattle.loops.specs.Run.{go}
use Rattle.loops.proofs.Along.{each_along}
use Rattle.loops.proofs.Follows.{go_same, go_stop}
use Rattle.rows.specs.Rows.{first, Fine, Verdict}
use Rattle.rows.proofs.Tables.{held}
use Rattle.pieces.specs.declared.Bytes.{Bytes}
use Rattle.pieces.specs.Pieces.{Piece, Markers, Precincts, Spoilt, alike, total, size, bytes_of, nothing, bytes_by, plus, all}
use Rattle.pieces.proofs.Laws.{NoneOf, total_none, bytes_none, bytes_first, read_few, Adding, adds_begin, tiles_along}
use Rattle.layout.specs.Headers.{header_bytes_of}
use Rattle.layout.specs.Precincts.{Np, slices}
use Rattle.layout.specs.Slots.{slots, candidates}
use Rattle.packets.specs.declared.Setting.{Setting}
use Rattle.packets.specs.declared.Precinct.{Precinct}
use Rattle.packets.specs.Packets.{any_line, packet}
use Rattle.packets.specs.Pieces.{packet_pieces}
use Rattle.packets.proofs.Laws.{packet_inside}
use Rattle.packets.proofs.Pieces.{packet_tiles}
use Rattle.slices.specs.Precinct.{precinct_at, body, no_flags, Packing, packed, packet_turn, rest_checks, packets, packets_by, header_checks, precinct}
use Rattle.slices.specs.Slice.{State, Left, slice_header_bytes, slice_checks, row_of, column_in, is_top, placed, precinct_turn, precincts, precincts_by, slice}
use Rattle.slices.specs.Stream.{sliced, slice_turn}
use Rattle.slices.specs.declared.Reading.{Reading}
use Rattle.slices.specs.Steps.{IsPrecinct, Headed, Read}
use Rattle.slices.specs.Pieces.{slot_pieces, precinct_pieces, placed_pieces, precincts_pieces, slice_pieces, end_pieces, stream_pieces}
use Rattle.slices.proofs.PrecinctLaws.{clash}
use Rattle.slices.proofs.Reaching.{packet_stops, precinct_stops}

-- ---- a precinct

module _ (s : List ℕ) (c : Setting) (row column at : ℕ) where
  abbrev own : Precinct
  own = precinct_at s c row column at

  abbrev Before : Packing s c row column at → Type 0
  Before x = x.0 ≤ own.end

  packed_tiles : (slot : ℕ) (x y : Packing s c row column at) → Before x → (r : Verdict × List ℤ) → packet s c own slot x.0 x.1 x.2 ≡ r
      → packed s c row column at slot x.0 x.1 r ≡ go y → Before y × (x.0 + size (packet_pieces s c own slot x.0 x.2) ≡ y.0)
  packed_tiles slot x y h (Ok _, cells) e f =
      let fine = ap (λ (r : Verdict × List ℤ). r.0) e in
      let there = ap (λ (z : Packing s c row column at). z.0) (go_same f) in (
        omega (arith, there, packet_inside s c own slot x.0 x.1 x.2 h fine),
        packet_tiles s c own slot x.0 x.2 x.1 fine ∙ there,
      )
  packed_tiles slot x y h (Err k, cells) e f = go_stop (sym f)

  pub slot_tiles : (slot : ℕ) (x y : Packing s c row column at) → Before x → packet_turn s c row column at slot x ≡ go y
      → Before y × (x.0 + size (slot_pieces s c row column at slot x) ≡ y.0)
  unfolding packet_turn size
  slot_tiles slot x y h e = by (any_line c own slot (candidates c.shape slot)) e
    where
      by : (b : Bool) → cond b (packed s c row column at slot x.0 x.1 (packet s c own slot x.0 x.1 x.2)) (go x) ≡ go y
          → Before y × (x.0 + size (cond b (packet_pieces s c own slot x.0 x.2) []) ≡ y.0)
      by true f = packed_tiles slot x y h (packet s c own slot x.0 x.1 x.2) refl f
      by false f = let there = ap (λ (z : Packing s c row column at). z.0) (go_same f) in (omega (arith, there), omega (arith, there))

  packets_tile : (cells : List ℤ) → (packets s c row column at cells).0 ≡ Fine → at + size (precinct_pieces s c row column at cells) ≡ own.end
  unfolding packets precinct_pieces size
  packets_tile cells e =
      let q = tiles_along Before (λ x. x.0) (λ (r : Verdict × List ℤ). r.0 ≡ Fine) (packet_turn s c row column at) (λ x. (first (rest_checks s c row column at x.0), x.2))
      (slot_pieces s c row column at) (λ x. []) slot_tiles (packet_stops s c row column at) (slots c.shape) 0 (body s c row column at, no_flags s c row column at, cells) (omega arith) e in
      let rest = held (rest_checks s c row column at q.to.0) (ap (λ (r : Verdict × List ℤ). r.0) (sym q.ends) ∙ e) in
      omega (arith, q.tiles, q.holds, rest.0.most)

  -- its header and its packets reach to its end
  pub precinct_tiles : (top : Bool) (cells : List ℤ) → (precinct s c row column at top cells).0 ≡ Fine → at + size (precinct_pieces s c row column at cells) ≡ own.end
  unfolding precinct
  precinct_tiles top cells e = by (first (header_checks s c row column at top)) e
    where
      by : (v : Verdict) → (packets_by s c row column at v cells).0 ≡ Fine → at + size (precinct_pieces s c row column at cells) ≡ own.end
      by (Ok _) f = packets_tile cells f
      by (Err k) f = clash f

-- the pieces of a slot with a packet, as its reader has the precinct; and of a slot without
module _ (s : List ℕ) (c : Setting) (row column place slot at : ℕ) (raws : List ℕ) (cells : List ℤ) {p : Precinct} (e : IsPrecinct s c row column place p) where
  pub pieces_there : any_line c p slot (candidates c.shape slot) ≡ true → packet_pieces s c p slot at cells ≡ slot_pieces s c row column place slot (at, raws, cells)
  pieces_there any =
      rw ((λ i. any_line c (sym e.is i) slot (candidates c.shape slot)) ∙ any) (λ i. packet_pieces s c (e.is i) slot at cells)

  pub pieces_absent : any_line c p slot (candidates c.shape slot) ≡ false → nothing ≡ bytes_of (slot_pieces s c row column place slot (at, raws, cells))
  pieces_absent none = rw ((λ i. any_line c (sym e.is i) slot (candidates c.shape slot)) ∙ none) bytes_none

-- what the slots of a precinct have counted, from its place on
abbrev pub SlotsAdding : (s : List ℕ) (c : Setting) (row column at : ℕ) → List ℤ → ℕ → Packing s c row column at → Bytes → Type 0
SlotsAdding s c row column at cells =
    Adding (packet_turn s c row column at) (slot_pieces s c row column at) (λ x. []) (λ x. x.0) (slots c.shape) at (bytes_of (precinct_pieces s c row column at cells))

pub slots_begin : (s : List ℕ) (c : Setting) (row column at : ℕ) (cells : List ℤ) {place : ℕ} {b : Bytes} → place ≡ body s c row column at
    → b ≡ bytes_of ((Precincts, place - at) ∷ []) → SlotsAdding s c row column at cells 0 (place, no_flags s c row column at, cells) b
unfolding precinct_pieces size
slots_begin s c row column at cells e h =
    let long : body s c row column at - at ≡ header_bytes_of c.shape = omega arith in
    rw e (adds_begin ((Precincts, header_bytes_of c.shape) ∷ []) (h ∙ (λ i. bytes_of ((Precincts, e i - at) ∷ [])) ∙ (λ i. bytes_of ((Precincts, long i) ∷ []))) (omega arith))

-- ---- a slice

module _ (s : List ℕ) (c : Setting) (t : ℕ) where
  pub precinct_turn_tiles : (n : ℕ) (x y : State) → precinct_turn s c t n x ≡ go y → x.0 + size (placed_pieces s c t n x) ≡ y.0
  unfolding precinct_turn
  precinct_turn_tiles n x y e = by (precinct s c (row_of s c t n) (column_in s c t n) x.0 (is_top s c t n) x.2) refl e
    where
      by : (r : Verdict × List ℤ) → precinct s c (row_of s c t n) (column_in s c t n) x.0 (is_top s c t n) x.2 ≡ r → placed s c t n x r ≡ go y
          → x.0 + size (placed_pieces s c t n x) ≡ y.0
      by (Ok _, cells) r f =
          precinct_tiles s c (row_of s c t n) (column_in s c t n) x.0 (is_top s c t n) x.2 (ap (λ (z : Verdict × List ℤ). z.0) r)
          ∙ ap (λ (z : State). z.0) (go_same f)
      by (Err k, cells) r f = go_stop (sym f)

  -- the precincts, from the first one's place on
  pub precincts_tile : (x y : State) → precincts s c t x ≡ (Fine, y) → x.0 + size (precincts_pieces s c t x) ≡ y.0
  unfolding precincts precincts_pieces size
  precincts_tile x y e =
      let q = tiles_along (λ (x : State). Unit {0}) (λ (x : State). x.0) (λ (r : Left). r.0 ≡ Fine) (precinct_turn s c t) (λ y. (Fine, y)) (placed_pieces s c t) (λ y. [])
      (λ n x y h f. (tt, precinct_turn_tiles n x y f)) (precinct_stops s c t) (Np c.shape t) 0 x tt (ap (λ (r : Left). r.0) e) in
      let last = ap (λ (r : Left). r.1.0) (sym q.ends ∙ e) in
      omega (arith, q.tiles, last)

  slice_tiles : (x y : State) → slice s c t x ≡ (Fine, y) → x.0 + size (slice_pieces s c t x) ≡ y.0
  unfolding slice slice_pieces size
  slice_tiles x y e = by (first (slice_checks s t x.0)) e
    where
      by : (v : Verdict) → precincts_by s c t v x ≡ (Fine, y) → x.0 + (slice_header_bytes + size (precincts_pieces s c t (x.0 + slice_header_bytes, x.1, x.2))) ≡ y.0
      by (Ok _) f = omega (arith, precincts_tile (x.0 + slice_header_bytes, x.1, x.2) y f)
      by (Err k) f = clash (ap (λ (r : Left). r.0) f)

  pub slice_turn_tiles : (x y : State) → slice_turn s c t x ≡ go y → x.0 + size (slice_pieces s c t x) ≡ y.0
  unfolding slice_turn
  slice_turn_tiles x y e = by (slice s c t x) refl e
    where
      by : (r : Left) → slice s c t x ≡ r → sliced r ≡ go y → x.0 + size (slice_pieces s c t x) ≡ y.0
      by (Ok _, z) r f = slice_tiles x y (r ∙ (λ i. (Fine, go_same f i)))
      by (Err k, z) r f = go_stop (sym f)

  -- what the precincts of a slice have counted, from the first one's place on
  abbrev pub PrecinctsAdding : State → ℕ → State → Bytes → Type 0
  PrecinctsAdding x = Adding (precinct_turn s c t) (placed_pieces s c t) (λ y. []) (λ y. y.0) (Np c.shape t) x.0 (bytes_of (precincts_pieces s c t x))

  pub precincts_begin : (x : State) → PrecinctsAdding x 0 x nothing
  unfolding precincts_pieces size
  precincts_begin x = adds_begin [] bytes_none (omega arith)

  -- the precincts with the slice's header before them
  header_and : (x : State) (v : Verdict) {b : Bytes} → b ≡ bytes_by v (bytes_of (precincts_pieces s c t (x.0 + slice_header_bytes, x.1, x.2)))
      → bytes_by v (plus (bytes_of ((Markers, slice_header_bytes) ∷ [])) b) ≡ bytes_by v (bytes_of (slice_pieces s c t x))
  unfolding slice_pieces
  header_and x v {b} h = by v h
    where
      ps : List Piece
      ps = precincts_pieces s c t (x.0 + slice_header_bytes, x.1, x.2)

      by : (v : Verdict) → b ≡ bytes_by v (bytes_of ps) → bytes_by v (plus (bytes_of ((Markers, slice_header_bytes) ∷ [])) b) ≡ bytes_by v (bytes_of ((Markers, slice_header_bytes) ∷ ps))
      by (Ok _) e = ap (plus (bytes_of ((Markers, slice_header_bytes) ∷ []))) e ∙ sym (bytes_first (Markers, slice_header_bytes) ps)
      by (Err k) e = refl

  -- and are few where they end in the stream
  pub precincts_few : (x : State) {r : Reading} {cells' : List ℤ} → Read s (precincts s c t x) (precincts_pieces s c t x) r cells' → length s < 2 ^ 32 → all r.bytes < 2 ^ 32
  precincts_few x {r} {cells'} h short =
      read_few (precincts_pieces s c t x) (2 ^ 32) (omega arith) h.bytes
      (λ e. omega (arith, short, h.inside e, precincts_tile x (r.at, r.tops, cells') (h.is ∙ (λ i. (e i, (r.at, r.tops, cells'))))))

  -- a slice whose header is accepted: its precincts, and its header before them
  pub headed : (x : State) {v : Verdict} {r q : Reading} {cells' : List ℤ} → v ≡ Fine
      → Read s (precincts s c t (x.0 + slice_header_bytes, x.1, x.2)) (precincts_pieces s c t (x.0 + slice_header_bytes, x.1, x.2)) r cells' → Headed r q
      → Read s (precincts_by s c t v x) (slice_pieces s c t x) q cells'
  headed x {r = r} {q = q} {cells' = cells'} e h k =
      record {
        is = (λ i. precincts_by s c t (e i) x) ∙ h.is ∙ (λ i. (sym k.verdict i, (sym k.at i, sym k.tops i, cells')));
        inside = λ f. omega (arith, k.at, h.inside (sym k.verdict ∙ f));
        bytes = k.bytes ∙ header_and x r.verdict h.bytes ∙ (λ i. bytes_by (sym k.verdict i) (bytes_of (slice_pieces s c t x)));
      }

-- ---- no piece of what a plain reading takes is of a spoilt slice

abbrev Sound : List Piece → Type 0
Sound = NoneOf Spoilt

module _ (s : List ℕ) (c : Setting) where
  module _ (row column at : ℕ) where
    slot_sound : (slot : ℕ) (x : Packing s c row column at) → Sound (slot_pieces s c row column at slot x)
    unfolding packet_pieces
    slot_sound slot x = by (any_line c (precinct_at s c row column at) slot (candidates c.shape slot))
      where
        by : (b : Bool) → Sound (cond b (packet_pieces s c (precinct_at s c row column at) slot x.0 x.2) [])
        by true = (refl, (refl, (refl, (refl, (refl, (refl, (refl, (refl, tt))))))))
        by false = tt

    precinct_sound : (cells : List ℤ) → Sound (precinct_pieces s c row column at cells)
    unfolding precinct_pieces
    precinct_sound cells = (
      refl,
      each_along (λ (p : Piece). alike Spoilt p.0 ≡ false) (packet_turn s c row column at) (slot_pieces s c row column at) (λ x. []) slot_sound (λ x. tt)
          (slots c.shape) 0 (body s c row column at, no_flags s c row column at, cells),
    )

  slice_sound : (t : ℕ) (x : State) → Sound (slice_pieces s c t x)
  unfolding slice_pieces precincts_pieces
  slice_sound t x = (
    refl,
    each_along (λ (p : Piece). alike Spoilt p.0 ≡ false) (precinct_turn s c t) (placed_pieces s c t) (λ y. [])
        (λ n y. precinct_sound (row_of s c t n) (column_in s c t n) y.0 y.2) (λ y. tt) (Np c.shape t) 0 (x.0 + slice_header_bytes, x.1, x.2),
  )

  pub stream_unspoilt : (x : State) → total Spoilt (stream_pieces s c x) ≡ 0
  unfolding stream_pieces
  stream_unspoilt x =
      total_none Spoilt (stream_pieces s c x)
      (each_along (λ (p : Piece). alike Spoilt p.0 ≡ false) (slice_turn s c) (slice_pieces s c) (λ y. end_pieces) slice_sound (λ y. (refl, tt)) (slices c.shape) 0 x)
