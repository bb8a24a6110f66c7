-- The verdict of what stands behind the header is that of one table. Assumes nothing.
use Rattle.std.specs.Prelude.{Ok, Err}
use Prim.Native.Nat.{ℕ, ◌+◌}
use mathlib.Core.Bool.{Bool, true, false, cond}
use mathlib.Core.List.{List, []}
use mathlib.Core.Path.{◌≡◌, refl, ◌∙◌}
use lib.IntN.{ℤ}
use Rattle.loops.specs.Run.{Turn, go, then as next, run}
use Rattle.loops.specs.Along.{along}
use Rattle.loops.proofs.Along.{run_tells}
use Rattle.rows.specs.Rows.{first, then, Fine, Verdict}
use Rattle.rows.specs.declared.Check.{Check}
use Rattle.rows.proofs.Tables.{joined, fine_passes}
use Rattle.layout.specs.Precincts.{Np, slices}
use Rattle.layout.specs.Slots.{slots, candidates}
use Rattle.packets.specs.declared.Setting.{Setting}
use Rattle.packets.specs.Packets.{any_line, packet}
use Rattle.packets.specs.Table.{packet_checks}
use Rattle.packets.proofs.Table.{packet_table}
use Rattle.slices.specs.Precinct.{precinct_at, header_checks, Packing, packed, packet_turn, rest_checks, body, no_flags, packets, packets_by, precinct}
use Rattle.slices.specs.Slice.{State, Left, slice_header_bytes, slice_checks, row_of, column_in, is_top, placed, precinct_turn, precincts, precincts_by, slice}
use Rattle.slices.specs.Stream.{end_checks, sliced, slice_turn, ended, stream}
use Rattle.slices.specs.Table.{slot_checks, precinct_checks, precinct_table, slice_table, stream_checks}

-- the verdict of a turn: one that goes on refuses nothing
abbrev verdict : {S X : Type 0} → Turn S (Verdict × X) → Verdict
verdict u = next u (λ y. Fine) (λ r. r.0)

-- where the verdict of each turn, and of the end, is that of its table, so is that of the loop
turns_table : {S X : Type 0} (turn : ℕ → S → Turn S (Verdict × X)) (end : S → Verdict × X) (says : ℕ → S → List Check) (last : S → List Check)
    → ((x : S) → (end x).0 ≡ first (last x)) → ((g : ℕ) (x : S) → verdict (turn g x) ≡ first (says g x))
    → (left g : ℕ) (x : S) → (run turn end left g x).0 ≡ first (along turn says last left g x)
turns_table {X = X} = run_tells first Fine fine_passes (λ (r : Verdict × X). r.0)

-- ---- the precincts

module _ (s : List ℕ) (c : Setting) (row column at : ℕ) where
  packed_verdict : (slot place : ℕ) (raws : List ℕ) (r : Verdict × List ℤ) → verdict (packed s c row column at slot place raws r) ≡ r.0
  packed_verdict slot place raws (Ok _, cells) = refl
  packed_verdict slot place raws (Err k, cells) = refl

  slot_table : (slot : ℕ) (x : Packing s c row column at) → verdict (packet_turn s c row column at slot x) ≡ first (slot_checks s c row column at slot x)
  unfolding packet_turn
  slot_table slot x = by (any_line c (precinct_at s c row column at) slot (candidates c.shape slot))
    where
      by : (any : Bool)
          → verdict (cond any (packed s c row column at slot x.0 x.1 (packet s c (precinct_at s c row column at) slot x.0 x.1 x.2)) (go x))
          ≡ first (cond any (packet_checks s c (precinct_at s c row column at) slot x.0 x.1 x.2) [])
      by true =
          let p = precinct_at s c row column at in
          packed_verdict slot x.0 x.1 (packet s c p slot x.0 x.1 x.2) ∙ packet_table s c p slot x.0 x.1 x.2
      by false = refl

  precinct_table_lem : (top : Bool) (cells : List ℤ) → (precinct s c row column at top cells).0 ≡ first (precinct_checks s c row column at top cells)
  unfolding precinct packets precinct_checks
  precinct_table_lem top cells =
      joined (header_checks s c row column at top) _ (by (first (header_checks s c row column at top))) refl
      (turns_table (packet_turn s c row column at) (λ x. (first (rest_checks s c row column at x.0), x.2)) (slot_checks s c row column at)
      (λ x. rest_checks s c row column at x.0) (λ x. refl) slot_table (slots c.shape) 0 (body s c row column at, no_flags s c row column at, cells))
    where
      by : (v : Verdict) → (packets_by s c row column at v cells).0 ≡ then v (packets s c row column at cells).0
      by (Ok _) = refl
      by (Err k) = refl

-- ---- the slices

module _ (s : List ℕ) (c : Setting) (t : ℕ) where
  placed_verdict : (n : ℕ) (x : State) (r : Verdict × List ℤ) → verdict (placed s c t n x r) ≡ r.0
  placed_verdict n x (Ok _, cells) = refl
  placed_verdict n x (Err k, cells) = refl

  slice_table_lem : (x : State) → (slice s c t x).0 ≡ first (slice_table s c t x)
  unfolding slice precincts precinct_turn slice_table
  slice_table_lem x =
      let y : State = (x.0 + slice_header_bytes, x.1, x.2) in
      joined (slice_checks s t x.0) (along (precinct_turn s c t) (precinct_table s c t) (λ y. []) (Np c.shape t) 0 y)
      (by (first (slice_checks s t x.0))) refl
      (turns_table (precinct_turn s c t) (λ y. (Fine, y)) (precinct_table s c t) (λ y. []) (λ y. refl)
      (λ n y. placed_verdict n y (precinct s c (row_of s c t n) (column_in s c t n) y.0 (is_top s c t n) y.2)
      ∙ precinct_table_lem s c (row_of s c t n) (column_in s c t n) y.0 (is_top s c t n) y.2) (Np c.shape t) 0 y)
    where
      by : (v : Verdict) → (precincts_by s c t v x).0 ≡ then v (precincts s c t (x.0 + slice_header_bytes, x.1, x.2)).0
      by (Ok _) = refl
      by (Err k) = refl

-- ---- the stream

sliced_verdict : (r : Left) → verdict (sliced r) ≡ r.0
sliced_verdict (Ok _, x) = refl
sliced_verdict (Err k, x) = refl

pub stream_table : (s : List ℕ) (c : Setting) (x : State) → (stream s c x).0 ≡ first (stream_checks s c x)
unfolding stream slice_turn stream_checks
stream_table s c x =
    turns_table (slice_turn s c) (ended s) (slice_table s c) (λ y. end_checks s y.0) (λ y. refl)
    (λ t y. sliced_verdict (slice s c t y) ∙ slice_table_lem s c t y) (slices c.shape) 0 x
