-- The states that an accepted reading comes to, slice by slice and precinct by precinct. Assumes nothing.
use Rattle.std.specs.Prelude.{Ok, Err}
use Prim.Native.Nat.{ℕ, ◌+◌, ◌<◌}
use mathlib.Core.Path.{◌≡◌, refl, sym, ap, ◌∙◌}
use mathlib.Core.Bool.{Bool, true, false, cond}
use mathlib.Core.List.{List}
use lib.IntN.{ℤ}
use lib.ListN.{set}
use Rattle.loops.specs.Run.{Turn, go, stop}
use Rattle.loops.proofs.Before.{Turns, run_turns}
use Rattle.loops.proofs.Follows.{go_stop}
use Rattle.rows.specs.Rows.{first, Fine, Refused, Verdict}
use Rattle.rows.specs.declared.Check.{Check}
use Rattle.layout.specs.Bands.{NL}
use Rattle.layout.specs.Precincts.{Np, slices}
use Rattle.layout.specs.Slots.{slots, candidates}
use Rattle.packets.specs.declared.Setting.{Setting}
use Rattle.packets.specs.Packets.{any_line, packet, past}
use Rattle.slices.specs.Precinct.{precinct_at, header_checks, body, no_flags, Packing, packed, packet_turn, rest_checks, packets, packets_by, precinct, raised}
use Rattle.slices.specs.Slice.{State, Left, slice_header_bytes, row_of, column_in, is_top, slice_checks, placed, precinct_turn, precincts, precincts_by, slice}
use Rattle.slices.specs.Stream.{sliced, slice_turn, ended, stream}
use Rattle.slices.specs.Reached.{before_packet, packet_reads, raw_flag, before_precinct, slice_has, slice_reads, before_slice}
use Rattle.slices.proofs.PrecinctLaws.{clash}

-- ---- what stops is refused

pub stop_refuses : {S X : Type 0} {k : Check} {z : X} {r : Verdict × X} → ◌≡◌ {A = Turn S (Verdict × X)} (stop (Refused k, z)) (stop r) → r.0 ≡ Fine → ⊥
stop_refuses {X = X} {k} {z} {r} e f =
    let q : ◌≡◌ {A = Verdict × X} (Refused k, z) r = cc in
    clash (ap (λ (y : Verdict × X). y.0) q ∙ f)

-- ---- the packets of an accepted precinct

-- the packet of slot k is accepted, and what it leaves is the state before the next
pub record PacketFollows (s : List ℕ) (c : Setting) (row column at : ℕ) (cells : List ℤ) (k : ℕ) : Type 0 where
  pub accepted : (packet_reads s c row column at cells k).0 ≡ Fine
  pub next : before_packet s c row column at cells (k + 1)
      ≡ (
        past s c (precinct_at s c row column at) k (before_packet s c row column at cells k).0,
        set (before_packet s c row column at cells k).1 k (raw_flag s c row column at cells k),
        (packet_reads s c row column at cells k).1,
      )

module _ (s : List ℕ) (c : Setting) (row column at : ℕ) where
  packed_stops : (k place : ℕ) (raws : List ℕ) (y r : Verdict × List ℤ) → packed s c row column at k place raws y ≡ stop r → r.0 ≡ Fine → ⊥
  packed_stops k place raws (Ok _, l) r e f = go_stop e
  packed_stops k place raws (Err q, l) r e f = stop_refuses e f

  -- a slot that stops refuses
  pub packet_stops : (k : ℕ) (x : Packing s c row column at) (r : Verdict × List ℤ) → packet_turn s c row column at k x ≡ stop r → r.0 ≡ Fine → ⊥
  unfolding packet_turn
  packet_stops k x r = by (any_line c (precinct_at s c row column at) k (candidates c.shape k))
    where
      by : (b : Bool) → cond b (packed s c row column at k x.0 x.1 (packet s c (precinct_at s c row column at) k x.0 x.1 x.2)) (go x) ≡ stop r → r.0 ≡ Fine → ⊥
      by true e f = packed_stops k x.0 x.1 (packet s c (precinct_at s c row column at) k x.0 x.1 x.2) r e f
      by false e f = go_stop e

module _ (s : List ℕ) (c : Setting) (row column at : ℕ) (top : Bool) (cells : List ℤ) (fine : (precinct s c row column at top cells).0 ≡ Fine) where
  abbrev EachPacket : Type 0
  EachPacket =
      Turns (packet_turn s c row column at) (body s c row column at, no_flags s c row column at, cells)
      (λ x. (first (rest_checks s c row column at x.0), x.2)) (slots c.shape)

  packet_turns : EachPacket × ((precinct s c row column at top cells).1 ≡ (before_packet s c row column at cells (slots c.shape)).2)
  unfolding precinct packets
  packet_turns = by (first (header_checks s c row column at top)) fine
    where
      by : (v : Verdict) → (packets_by s c row column at v cells).0 ≡ Fine
          → EachPacket × ((packets_by s c row column at v cells).1 ≡ (before_packet s c row column at cells (slots c.shape)).2)
      by (Ok _) e =
          let q =
          run_turns (packet_turn s c row column at) (body s c row column at, no_flags s c row column at, cells) (λ (r : Verdict × List ℤ). r.0 ≡ Fine)
          (λ x. (first (rest_checks s c row column at x.0), x.2)) (slots c.shape) (λ g r. packet_stops s c row column at g (before_packet s c row column at cells g) r) e in
          (q, ap (λ (r : Verdict × List ℤ). r.1) q.ends)
      by (Err k) e = clash e

  -- the precinct ends where they do
  pub precinct_left : (precinct s c row column at top cells).1 ≡ (before_packet s c row column at cells (slots c.shape)).2
  precinct_left = packet_turns.1

  -- a slot with lines
  pub precinct_packet : (k : ℕ) → k < slots c.shape → any_line c (precinct_at s c row column at) k (candidates c.shape k) ≡ true
      → PacketFollows s c row column at cells k
  unfolding packet_turn
  precinct_packet k l any =
      let e = packet_turns.0.goes k l in
      by (packet_reads s c row column at cells k) refl (rw any at e)
    where
      by : (z : Verdict × List ℤ) → packet_reads s c row column at cells k ≡ z
          → packed s c row column at k (before_packet s c row column at cells k).0 (before_packet s c row column at cells k).1 z ≡ go (before_packet s c row column at cells (k + 1))
          → PacketFollows s c row column at cells k
      by (Ok _, l') r e =
          let place = past s c (precinct_at s c row column at) k (before_packet s c row column at cells k).0 in
          let flags = set (before_packet s c row column at cells k).1 k (raw_flag s c row column at cells k) in
          let q : (place, flags, l') ≡ before_packet s c row column at cells (k + 1) = cc in
          record { accepted = ap (λ (z : Verdict × List ℤ). z.0) r; next = sym q ∙ (λ i. (place, flags, (sym r i).1)) }
      by (Err q, l') r e = go_stop (sym e)

  -- and one without
  pub precinct_empty : (k : ℕ) → k < slots c.shape → any_line c (precinct_at s c row column at) k (candidates c.shape k) ≡ false
      → before_packet s c row column at cells (k + 1) ≡ before_packet s c row column at cells k
  unfolding packet_turn
  precinct_empty k l none =
      let e = packet_turns.0.goes k l in
      by (rw none at e)
    where
      by : ◌≡◌ {A = Turn (Packing s c row column at) (Verdict × List ℤ)} (go (before_packet s c row column at cells k)) (go (before_packet s c row column at cells (k + 1)))
          → before_packet s c row column at cells (k + 1) ≡ before_packet s c row column at cells k
      by e = cc

-- ---- the precincts of an accepted slice, whose header stands at the state's place

-- precinct n is accepted, and what it leaves is the state before the next
pub record Follows (s : List ℕ) (c : Setting) (x : State) (t n : ℕ) : Type 0 where
  pub accepted : (slice_reads s c x t n).0 ≡ Fine
  pub next : before_precinct s c x t (n + 1)
      ≡ ((slice_has s c x t n).end, raised c (slice_has s c x t n) (NL c.shape) (before_precinct s c x t n).1, (slice_reads s c x t n).1)

-- one that stops refuses
pub precinct_stops : (s : List ℕ) (c : Setting) (t n : ℕ) (y : State) (r : Left) → precinct_turn s c t n y ≡ stop r → r.0 ≡ Fine → ⊥
unfolding precinct_turn
precinct_stops s c t n y r = by (precinct s c (row_of s c t n) (column_in s c t n) y.0 (is_top s c t n) y.2)
  where
    by : (z : Verdict × List ℤ) → placed s c t n y z ≡ stop r → r.0 ≡ Fine → ⊥
    by (Ok _, l) e f = go_stop e
    by (Err k, l) e f = stop_refuses e f

module _ (s : List ℕ) (c : Setting) (t : ℕ) (x : State) (fine : (slice s c t x).0 ≡ Fine) where
  abbrev EachPrecinct : Type 0
  EachPrecinct = Turns (precinct_turn s c t) (x.0 + slice_header_bytes, x.1, x.2) (λ y. (Fine, y)) (Np c.shape t)

  precinct_turns : EachPrecinct × ((slice s c t x).1 ≡ before_precinct s c x t (Np c.shape t))
  unfolding slice precincts
  precinct_turns = by (first (slice_checks s t x.0)) fine
    where
      by : (v : Verdict) → (precincts_by s c t v x).0 ≡ Fine → EachPrecinct × ((precincts_by s c t v x).1 ≡ before_precinct s c x t (Np c.shape t))
      by (Ok _) e =
          let q =
          run_turns (precinct_turn s c t) (x.0 + slice_header_bytes, x.1, x.2) (λ (r : Left). r.0 ≡ Fine) (λ y. (Fine, y)) (Np c.shape t)
          (λ g r. precinct_stops s c t g (before_precinct s c x t g) r) e in
          (q, ap (λ (r : Left). r.1) q.ends)
      by (Err k) e = clash e

  -- the slice ends where they do
  pub slice_left : (slice s c t x).1 ≡ before_precinct s c x t (Np c.shape t)
  slice_left = precinct_turns.1

  pub slice_precinct : (n : ℕ) → n < Np c.shape t → Follows s c x t n
  unfolding precinct_turn
  slice_precinct n l = by (slice_reads s c x t n) refl (precinct_turns.0.goes n l)
    where
      by : (z : Verdict × List ℤ) → slice_reads s c x t n ≡ z → placed s c t n (before_precinct s c x t n) z ≡ go (before_precinct s c x t (n + 1))
          → Follows s c x t n
      by (Ok _, l') r e =
          let p = slice_has s c x t n in
          let tops = raised c p (NL c.shape) (before_precinct s c x t n).1 in
          let q : (p.end, tops, l') ≡ before_precinct s c x t (n + 1) = cc in
          record { accepted = ap (λ (z : Verdict × List ℤ). z.0) r; next = sym q ∙ (λ i. (p.end, tops, (sym r i).1)) }
      by (Err k, l') r e = go_stop (sym e)

-- ---- the slices of an accepted stream

-- one that stops refuses
pub slice_stops : (y r : Left) → sliced y ≡ stop r → r.0 ≡ Fine → ⊥
slice_stops (Ok _, z) r e f = go_stop e
slice_stops (Err k, z) r e f = stop_refuses e f

module _ (s : List ℕ) (c : Setting) (x : State) (fine : (stream s c x).0 ≡ Fine) where
  slice_turns : Turns (slice_turn s c) x (ended s) (slices c.shape)
  unfolding stream slice_turn
  slice_turns =
      run_turns (slice_turn s c) x (λ (r : Left). r.0 ≡ Fine) (ended s) (slices c.shape)
      (λ g r. slice_stops (slice s c g (before_slice s c x g)) r) fine

  -- the stream ends behind them and the end marker
  pub stream_left : stream s c x ≡ ended s (before_slice s c x (slices c.shape))
  unfolding stream
  stream_left = slice_turns.ends

  -- each is accepted, and leaves the state before the next
  pub stream_slice : (t : ℕ) → t < slices c.shape → slice s c t (before_slice s c x t) ≡ (Fine, before_slice s c x (t + 1))
  unfolding slice_turn
  stream_slice t l = by (slice s c t (before_slice s c x t)) (slice_turns.goes t l)
    where
      by : (z : Left) → sliced z ≡ go (before_slice s c x (t + 1)) → z ≡ (Fine, before_slice s c x (t + 1))
      by (Ok _, y) e =
          let q : y ≡ before_slice s c x (t + 1) = cc in
          λ i. (Fine, q i)
      by (Err k, y) e = go_stop (sym e)
