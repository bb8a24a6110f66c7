-- Where a stream is refused: nowhere past its end. Assumes nothing.
use Rattle.std.specs.Prelude.{Ok, Err}
use Prim.Native.Nat.{ℕ, zero, suc, ◌+◌, ◌≤◌, ◌<◌}
use mathlib.Core.Path.{◌≡◌, refl}
use mathlib.Core.Bool.{Bool, true, false, cond}
use mathlib.Core.List.{List, [], ◌∷◌}
use native.Mathlib.Decide.{dec_lt}
use native.Mathlib.Omega.{arith}
use lib.IntN.{ℤ}
use lib.ListN.{length}
use Rattle.loops.specs.Run.{go}
use Rattle.loops.proofs.Laws.{Kept, run_keeps}
use Rattle.rows.specs.Rows.{first, each, place_of, Fine, Verdict}
use Rattle.rows.specs.declared.Check.{Check}
use Rattle.rows.proofs.Tables.{held}
use Rattle.rows.proofs.Sites.{Inside, Sited, sited, sited_append, sited_each}
use Rattle.layout.specs.declared.Shape.{Shape}
use Rattle.layout.specs.Bands.{NL, band_exists}
use Rattle.layout.specs.Headers.{modes}
use Rattle.layout.specs.Precincts.{Np, slices}
use Rattle.layout.specs.Slots.{slots, candidates}
use Rattle.packets.specs.declared.Setting.{Setting}
use Rattle.packets.specs.declared.Precinct.{Precinct}
use Rattle.packets.specs.Packets.{any_line, past, packet}
use Rattle.packets.proofs.Laws.{packet_inside}
use Rattle.packets.proofs.Sites.{packet_sited}
use Rattle.slices.specs.Precinct.{precinct_at, field_checks, mode_checks, header_checks, body, no_flags, Packing, packed, packet_turn, rest_checks, packets, packets_by, precinct}
use Rattle.slices.specs.Slice.{State, Left, slice_header_bytes, slice_checks, row_of, column_in, is_top, placed, precinct_turn, precincts, precincts_by, slice}
use Rattle.slices.specs.Stream.{end_checks, sliced, slice_turn, ended, stream}
use Rattle.slices.proofs.PrecinctLaws.{header_inside, precinct_inside}
use Rattle.slices.proofs.SliceLaws.{header_ends}

-- ---- a precinct

-- the fields D of the bands below b are among those of the bands below n
modes_up : (s : Shape) (b n : ℕ) → b ≤ n → modes s b ≤ modes s n
unfolding modes
modes_up s b zero h =
    let e : b ≡ 0 = omega arith in
    rw e (omega arith)
modes_up s b (suc n) h = pick (dec_lt n b) (modes_up s b n)
  where
    pick : Dec (n < b) → (b ≤ n → modes s b ≤ modes s n) → modes s b ≤ modes s (suc n)
    pick (yes l) before =
        let e : b ≡ suc n = omega arith in
        rw e (omega arith)
    pick (no l) before = omega (arith, before (omega arith))

-- a check that is there or not
one_sited : (n : ℕ) (k : Check) → k.1 ≤ n → (there : Bool) → Sited n (cond there (k ∷ []) [])
one_sited n k h true = (h, λ holds. tt)
one_sited n k h false = tt

-- one that begins in the stream
module _ (s : List ℕ) (c : Setting) (row column at : ℕ) (h : at ≤ length s) where
  abbrev here : Precinct
  here = precinct_at s c row column at

  fields_sited : Sited (length s) (field_checks s c row column at)
  fields_sited = (h, λ cut. (h, λ value. (h, λ long. (omega arith, λ q. (omega arith, λ r. tt)))))

  -- the byte of D's first bit is one of the header's, which ends in the stream
  mode_sited : first (field_checks s c row column at) ≡ Fine → (top : Bool) (b : ℕ) → b < NL c.shape
      → Sited (length s) (mode_checks s c row column at top b)
  mode_sited e top b l =
      let long = (held (field_checks s c row column at) e).1.1.0 in
      one_sited (length s) _ (omega (arith, modes_up c.shape b (NL c.shape) (omega arith))) (band_exists c.shape b)

  header_sited : (top : Bool) → Sited (length s) (header_checks s c row column at top)
  header_sited top =
      let modes = mode_checks s c row column at top in
      sited_append (length s) (field_checks s c row column at) (each (NL c.shape) modes) fields_sited
      (λ e. sited_each (length s) (NL c.shape) modes (mode_sited e top))

  -- the packets of a precinct that ends in the stream too
  module _ (to : here.end ≤ length s) where
    abbrev In : Packing s c row column at → Type 0
    In x = x.0 ≤ here.end

    abbrev Answers : Verdict × List ℤ → Type 0
    Answers r = Inside (length s) r.0

    packed_sited : (slot place : ℕ) (raws : List ℕ) (y : Verdict × List ℤ) → Answers y → (y.0 ≡ Fine → past s c here slot place ≤ here.end)
        → Kept In Answers (packed s c row column at slot place raws y)
    packed_sited slot place raws (Ok _, cells) i k = k refl
    packed_sited slot place raws (Err r, cells) i k = i

    packet_turn_sited : (slot : ℕ) (x : Packing s c row column at) → In x → Kept In Answers (packet_turn s c row column at slot x)
    unfolding packet_turn
    packet_turn_sited slot x k = by (any_line c here slot (candidates c.shape slot))
      where
        by : (any : Bool) → Kept In Answers (cond any (packed s c row column at slot x.0 x.1 (packet s c here slot x.0 x.1 x.2)) (go x))
        by true =
            packed_sited slot x.0 x.1 (packet s c here slot x.0 x.1 x.2)
            (packet_sited s c here slot x.0 (length s) h to x.1 x.2 k) (packet_inside s c here slot x.0 x.1 x.2 k)
        by false = k

    packets_sited : (cells : List ℤ) → Inside (length s) (packets s c row column at cells).0
    unfolding packets
    packets_sited cells =
        run_keeps In Answers (packet_turn s c row column at) (λ x. (first (rest_checks s c row column at x.0), x.2)) (slots c.shape)
        (λ x k. sited (length s) (rest_checks s c row column at x.0) (h, λ full. tt)) (λ slot x l k. packet_turn_sited slot x k)
        (slots c.shape) 0 (body s c row column at, no_flags s c row column at, cells) (omega arith) (omega arith)

  pub precinct_sited : (top : Bool) (cells : List ℤ) → Inside (length s) (precinct s c row column at top cells).0
  unfolding precinct
  precinct_sited top cells =
      let t = header_checks s c row column at top in
      by (first t) (sited (length s) t (header_sited top)) (header_inside s c row column at top)
    where
      by : (v : Verdict) → Inside (length s) v → (v ≡ Fine → here.end ≤ length s) → Inside (length s) (packets_by s c row column at v cells).0
      by (Ok _) i k = packets_sited (k refl) cells
      by (Err r) i k = i

-- ---- a slice

-- its header: the marker is followed by a length, and that by the slice index
pub slice_header_sited : (s : List ℕ) (t at : ℕ) → at ≤ length s → Sited (length s) (slice_checks s t at)
slice_header_sited s t at h =
    (h, λ cut. (h, λ marker. (h, λ built. (omega arith, λ short. (omega arith, λ long. (omega arith, λ size. (omega arith, λ index. tt)))))))

module _ (s : List ℕ) (c : Setting) where
  abbrev InStream : State → Type 0
  InStream x = x.0 ≤ length s

  -- what is accepted ends in the stream, and what is refused is refused there
  abbrev LeftInStream : Left → Type 0
  LeftInStream r = place_of r.0 r.1.0 ≤ length s

  module _ (t : ℕ) where
    placed_sited : (n : ℕ) (x : State) (y : Verdict × List ℤ) → Inside (length s) y.0
        → (y.0 ≡ Fine → (precinct_at s c (row_of s c t n) (column_in s c t n) x.0).end ≤ length s) → Kept InStream LeftInStream (placed s c t n x y)
    placed_sited n x (Ok _, cells) i k = k refl
    placed_sited n x (Err r, cells) i k = i

    precinct_turn_sited : (n : ℕ) (x : State) → InStream x → Kept InStream LeftInStream (precinct_turn s c t n x)
    unfolding precinct_turn
    precinct_turn_sited n x h =
        placed_sited n x (precinct s c (row_of s c t n) (column_in s c t n) x.0 (is_top s c t n) x.2)
        (precinct_sited s c (row_of s c t n) (column_in s c t n) x.0 h (is_top s c t n) x.2)
        (precinct_inside s c (row_of s c t n) (column_in s c t n) x.0 (is_top s c t n) x.2)

    slice_left_sited : (x : State) → InStream x → LeftInStream (slice s c t x)
    unfolding slice precincts
    slice_left_sited x h =
        let k = slice_checks s t x.0 in
        by (first k) (sited (length s) k (slice_header_sited s t x.0 h)) (header_ends s t x.0)
      where
        by : (v : Verdict) → Inside (length s) v → (v ≡ Fine → x.0 + slice_header_bytes ≤ length s) → LeftInStream (precincts_by s c t v x)
        by (Ok _) i k =
            run_keeps InStream LeftInStream (precinct_turn s c t) (λ y. (Fine, y)) (Np c.shape t) (λ y l. l) (λ n y l. precinct_turn_sited n y)
            (Np c.shape t) 0 (x.0 + slice_header_bytes, x.1, x.2) (omega arith) (k refl)
        by (Err r) i k = i

  -- ---- the stream

  sliced_sited : (y : Left) → LeftInStream y → Kept InStream (λ (r : Left). Inside (length s) r.0) (sliced y)
  sliced_sited (Ok _, x) h = h
  sliced_sited (Err k, x) h = h

  -- the place behind the end marker may be the stream's end
  pub end_sited : (at : ℕ) → at ≤ length s → Sited (length s) (end_checks s at)
  end_sited at h = (h, λ cut. (h, λ marker. (omega arith, λ tail. tt)))

  -- a stream whose first slice header begins in it
  pub stream_inside : (x : State) → x.0 ≤ length s → Inside (length s) (stream s c x).0
  unfolding stream slice_turn
  stream_inside x h =
      run_keeps InStream (λ (r : Left). Inside (length s) r.0) (slice_turn s c) (ended s) (slices c.shape)
      (λ y k. sited (length s) (end_checks s y.0) (end_sited y.0 k)) (λ t y l k. sliced_sited (slice s c t y) (slice_left_sited t y k))
      (slices c.shape) 0 x (omega arith) h
