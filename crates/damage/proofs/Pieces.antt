-- The pieces of a spoilt slice; in either mode the pieces tile the stream, and an accepted page has the same in both. Assumes nothing.
use Rattle.std.specs.Prelude.{Ok, Err}
use Prim.Native.Nat.{ℕ, ◌+◌, ◌-◌, ◌^◌, ◌<◌}
use mathlib.Core.Bool.{Bool, true, false, cond}
use mathlib.Core.List.{List, [], ◌∷◌}
use mathlib.Core.Path.{◌≡◌, refl, sym, ap, ◌∙◌}
use native.Mathlib.Omega.{arith}
use lib.IntN.{ℤ}
use lib.ListN.{length}
use Rattle.loops.specs.Run.{go, stop}
use Rattle.loops.proofs.Along.{each_along, along_follows}
use Rattle.loops.proofs.Follows.{go_same, go_stop}
use Rattle.rows.specs.Rows.{first, Fine, Verdict}
use Rattle.pieces.specs.declared.Bytes.{Bytes}
use Rattle.pieces.specs.Pieces.{Markers, Spoilt, Piece, size, bytes_of, nothing, plus, all}
use Rattle.pieces.proofs.Laws.{bytes_none, bytes_first, bytes_one, read_few, Adding, adds_begin, tiles_along}
use Rattle.layout.specs.Precincts.{Np, slices}
use Rattle.packets.specs.declared.Setting.{Setting}
use Rattle.slices.specs.declared.Reading.{Reading}
use Rattle.slices.specs.Slice.{State, Left, slice_header_bytes, slice_checks, slice}
use Rattle.slices.specs.Stream.{sliced, slice_turn, ended, stream}
use Rattle.slices.specs.Walk.{stepped, end_of, walk_checks, walk_turn, walk_precincts, walk_by, walk_slice}
use Rattle.slices.specs.Pieces.{slice_pieces, end_pieces, stream_pieces}
use Rattle.slices.proofs.PrecinctLaws.{clash}
use Rattle.slices.proofs.Reaching.{stop_refuses, slice_stops}
use Rattle.slices.proofs.Laws.{ended_ends}
use Rattle.slices.proofs.Pieces.{precincts_tile, slice_turn_tiles}
use Rattle.damage.specs.Stream.{refuses, behind_slice, precincts_of, stepped_over, damaged_turn, turn_by, stream_by}
use Rattle.damage.specs.Pieces.{stepped_pieces, walked_pieces, spoilt_pieces, damaged_pieces, pieces_by, stream_pieces_by}
use Rattle.damage.specs.Steps.{Streamed}
use Rattle.damage.proofs.Reaching.{over_stops}
use Rattle.damage.proofs.Walked.{sound}

-- ---- a slice that is stepped over

module _ (s : List ℕ) (c : Setting) where
  step_tiles : (n at to : ℕ) → walk_turn s c n at ≡ go to → at + size (stepped_pieces s c n at) ≡ to
  unfolding walk_turn size
  step_tiles n at to = by (first (walk_checks s c at))
    where
      by : (v : Verdict) → stepped v at (end_of s c at) ≡ go to → at + size (stepped_pieces s c n at) ≡ to
      by (Ok _) e = omega (arith, go_same e)
      by (Err k) e = go_stop (sym e)

  step_stops : (n at : ℕ) (r : Verdict × ℕ) → walk_turn s c n at ≡ stop r → r.0 ≡ Fine → ⊥
  unfolding walk_turn
  step_stops n at r = by (first (walk_checks s c at))
    where
      by : (v : Verdict) → stepped v at (end_of s c at) ≡ stop r → r.0 ≡ Fine → ⊥
      by (Ok _) e f = go_stop e
      by (Err k) e f = stop_refuses e f

  -- the pieces of its precincts lead to where the walk ends
  pub walked_tiles : (t at to : ℕ) → walk_precincts s c t at ≡ (Fine, to) → at + size (walked_pieces s c t at) ≡ to
  unfolding walk_precincts walked_pieces size
  walked_tiles t at to e =
      let z =
      tiles_along (λ (y : ℕ). Unit {0}) (λ y. y) (λ (r : Verdict × ℕ). r.0 ≡ Fine) (walk_turn s c) (λ y. (Fine, y)) (stepped_pieces s c) (λ y. [])
      (λ n x y p f. (tt, step_tiles n x y f)) step_stops (Np c.shape t) 0 at tt (λ i. (e i).0) in
      let there : z.to ≡ to = λ i. ((sym z.ends ∙ e) i).1 in
      omega (arith, z.tiles, there)

  -- behind the header of a slice
  slice_walked : (t at to : ℕ) → walk_slice s c t at ≡ (Fine, to) → walk_precincts s c t (at + slice_header_bytes) ≡ (Fine, to)
  unfolding walk_slice
  slice_walked t at to = by (first (slice_checks s t at))
    where
      by : (v : Verdict) → walk_by s c v t at ≡ (Fine, to) → walk_precincts s c t (at + slice_header_bytes) ≡ (Fine, to)
      by (Ok _) e = e
      by (Err k) e = clash (λ i. (e i).0)

  pub spoilt_tiles : (t at to : ℕ) → walk_slice s c t at ≡ (Fine, to) → at + size (spoilt_pieces s c t at) ≡ to
  unfolding spoilt_pieces size
  spoilt_tiles t at to e = omega (arith, walked_tiles t (at + slice_header_bytes) to (slice_walked t at to e))

  -- its totals are those of two pieces: its header, and from there to where the walk ends
  pub spoilt_bytes : (t at to : ℕ) → walk_slice s c t at ≡ (Fine, to)
      → bytes_of (spoilt_pieces s c t at) ≡ bytes_of ((Markers, slice_header_bytes) ∷ (Spoilt, to - (at + slice_header_bytes)) ∷ [])
  unfolding spoilt_pieces walked_pieces
  spoilt_bytes t at to e =
      let ps = walked_pieces s c t (at + slice_header_bytes) in
      let spoilt = each_along (λ (p : Piece). p.0 ≡ Spoilt) (walk_turn s c) (stepped_pieces s c) (λ y. []) (λ n y. (refl, tt)) (λ y. tt) (Np c.shape t) 0 (at + slice_header_bytes) in
      let long : size ps ≡ to - (at + slice_header_bytes) = omega (arith, walked_tiles t (at + slice_header_bytes) to (slice_walked t at to e)) in
      bytes_first (Markers, slice_header_bytes) ps
      ∙ (λ i. plus (bytes_of ((Markers, slice_header_bytes) ∷ [])) (bytes_one Spoilt ps spoilt i))
      ∙ sym (bytes_first (Markers, slice_header_bytes) ((Spoilt, size ps) ∷ []))
      ∙ (λ i. bytes_of ((Markers, slice_header_bytes) ∷ (Spoilt, long i) ∷ []))

-- ---- the pieces of a stream tile it, in either mode

-- a turn that stops refuses
module _ (s : List ℕ) (c : Setting) where
  turn_stops : (damaged : Bool) (t : ℕ) (x : State) (r : Left) → turn_by s c damaged t x ≡ stop r → r.0 ≡ Fine → ⊥
  unfolding slice_turn damaged_turn
  turn_stops false t x r = slice_stops (slice s c t x) r
  turn_stops true t x r = over_stops s c t x (walk_slice s c t x.0) r

  pub damaged_tiles : (t : ℕ) (x y : State) → damaged_turn s c t x ≡ go y → x.0 + size (damaged_pieces s c t x) ≡ y.0
  unfolding damaged_turn slice_pieces size
  damaged_tiles t x y = by (walk_slice s c t x.0) refl
    where
      behind : (to : ℕ) → walk_slice s c t x.0 ≡ (Fine, to) → (r : Left) → precincts_of s c t x ≡ r
          → x.0 + size (cond (refuses r.0) (spoilt_pieces s c t x.0) (slice_pieces s c t x)) ≡ (behind_slice c t to x.1 r).0
      behind to w (Ok _, z) e = omega (arith, precincts_tile s c t (x.0 + slice_header_bytes, x.1, x.2) z e)
      behind to w (Err k, z) e = spoilt_tiles s c t x.0 to w

      by : (w : Verdict × ℕ) → walk_slice s c t x.0 ≡ w → stepped_over s c t x w ≡ go y → x.0 + size (damaged_pieces s c t x) ≡ y.0
      by (Ok _, to) w e = behind to w (precincts_of s c t x) refl ∙ ap (λ (z : State). z.0) (go_same e)
      by (Err k, at) w e = go_stop (sym e)

  pub turn_tiles : (damaged : Bool) (t : ℕ) (x y : State) → turn_by s c damaged t x ≡ go y → x.0 + size (pieces_by s c damaged t x) ≡ y.0
  turn_tiles false = slice_turn_tiles s c
  turn_tiles true = damaged_tiles

  -- what the slices have counted, from the first one's place on
  abbrev pub SlicesAdding : Bool → State → ℕ → State → Bytes → Type 0
  SlicesAdding damaged x =
      Adding (turn_by s c damaged) (pieces_by s c damaged) (λ y. end_pieces) (λ y. y.0) (slices c.shape) x.0 (bytes_of (stream_pieces_by s c damaged x))

  pub slices_begin : (damaged : Bool) (x : State) → SlicesAdding damaged x 0 x nothing
  unfolding stream_pieces_by size
  slices_begin damaged x = adds_begin [] bytes_none (omega arith)

  -- they lead to the stream's end: nothing stands behind the end marker
  pub stream_tiles : (damaged : Bool) (x : State) → (stream_by s c damaged x).0 ≡ Fine → x.0 + size (stream_pieces_by s c damaged x) ≡ length s
  unfolding stream_by stream_pieces_by size
  stream_tiles damaged x fine =
      let z =
      tiles_along (λ (y : State). Unit {0}) (λ (y : State). y.0) (λ (r : Left). r.0 ≡ Fine) (turn_by s c damaged) (ended s) (pieces_by s c damaged)
      (λ y. end_pieces) (λ t x y p e. (tt, turn_tiles damaged t x y e)) (turn_stops damaged) (slices c.shape) 0 x tt fine in
      omega (arith, z.tiles, ended_ends s z.to (ap (λ (r : Left). r.0) (sym z.ends) ∙ fine))

  -- and are few
  pub stream_few : (damaged : Bool) (x : State) {r : Reading} {cells : List ℤ} → Streamed (stream_by s c damaged x) (stream_pieces_by s c damaged x) r cells → length s < 2 ^ 32 → all r.bytes < 2 ^ 32
  stream_few damaged x st short =
      read_few (stream_pieces_by s c damaged x) (2 ^ 32) (omega arith) st.bytes (λ e. omega (arith, short, stream_tiles damaged x ((λ i. (st.is i).0) ∙ e)))

-- ---- a page that a plain reading accepts has the same pieces in the mode for damaged pages

module _ (s : List ℕ) (c : Setting) where
  pub pieces_plain : (x : State) → stream_pieces_by s c false x ≡ stream_pieces s c x
  unfolding stream_pieces_by stream_pieces
  pieces_plain x = refl

  -- where the plain turn goes on, the slice is not spoilt
  turn_same : (t : ℕ) (x y : State) → slice_turn s c t x ≡ go y → (damaged_turn s c t x ≡ go y) × (damaged_pieces s c t x ≡ slice_pieces s c t x)
  unfolding slice_turn
  turn_same t x y = by (slice s c t x) refl
    where
      by : (r : Left) → slice s c t x ≡ r → sliced r ≡ go y → (damaged_turn s c t x ≡ go y) × (damaged_pieces s c t x ≡ slice_pieces s c t x)
      by (Ok _, z) e f =
          let own = sound s c t x z e in
          (own.turn ∙ f, λ i. cond (refuses (own.reads i).0) (spoilt_pieces s c t x.0) (slice_pieces s c t x))
      by (Err k, z) e f = go_stop (sym f)

  pub pieces_whole : (x y : State) → stream s c x ≡ (Fine, y) → stream_pieces_by s c true x ≡ stream_pieces s c x
  unfolding stream stream_pieces_by stream_pieces
  pieces_whole x y e =
      along_follows (λ (r : Left). r.0 ≡ Fine) (slice_turn s c) (damaged_turn s c) (ended s) (slice_pieces s c) (damaged_pieces s c) (λ y. end_pieces) turn_same
      (turn_stops s c false) (slices c.shape) 0 x (λ i. (e i).0)
