-- Where the bytes went: each total is that of the pieces of its kind, they add up to the stream's length, and a refusal tells none. Assumes nothing.
use Rattle.std.specs.Prelude.{Ok, Err}
use mathlib.Core.Bool.{Bool, true, false}
use mathlib.Core.List.{List}
use mathlib.Core.Path.{◌≡◌, refl, sym, ap, ◌∙◌}
use Prim.Native.Nat.{ℕ, ◌≤◌}
use native.Mathlib.Decide.{ℕ_discrete}
use native.Mathlib.Omega.{arith}
use lib.IntN.{ℤ}
use lib.ListN.{length}
use Rattle.rows.specs.Rows.{answer, first, then, Fine, Verdict}
use Rattle.rows.specs.declared.Check.{Check}
use Rattle.rows.proofs.Tables.{then_fine}
use Rattle.pieces.specs.declared.Bytes.{Bytes}
use Rattle.pieces.specs.Pieces.{Kind, Markers, Precincts, Packets, Significance, Counts, Data, Signs, Filler, Spoilt, Piece, total, size, bytes_of, nothing, all}
use Rattle.pieces.proofs.Laws.{bytes_append, size_append, all_size}
use Rattle.header.specs.Header.{reading_of}
use Rattle.header.specs.Pieces.{header_pieces}
use Rattle.header.specs.declared.header.Header.{Header}
use Rattle.header.proofs.Pieces.{header_tiles, header_bytes_are}
use Rattle.slices.specs.Pieces.{stream_pieces}
use Rattle.slices.proofs.Pieces.{stream_unspoilt}
use Rattle.damage.specs.Pieces.{stream_pieces_by}
use Rattle.damage.proofs.Pieces.{stream_tiles}
use Rattle.reader.specs.declared.page.Page.{Page}
use Rattle.reader.specs.Decoding.{distances_from, pieces}
use Rattle.reader.specs.Page.{header_of, page_by, Reads}
use Rattle.reader.specs.Modes.{decoded_by, verdict_in, tops_in, pieces_in, room_checks_in, lent_verdict_in, verdict_of, LeavesIn, ReadsIn, ReadsDamaged}
use Rattle.reader.specs.Places.{room_checks_by, lent_verdict_by, verdict_by, ReadsBy, ReadsPlaces, ReadsDamagedPlaces}
use Rattle.reader.proofs.Openings.{opened}
use Rattle.demands.specs.Stored.{setting, beginning}
use Rattle.demands.specs.Bytes.{total_in, BytesTold}
use Rattle.demands.proofs.Accepted.{answer_in, fine_in, judged, judged_header, plain_in}

-- ---- the nine totals of a record

told_own : (k : Kind) (ps : List Piece) → total_in k (bytes_of ps) ≡ total k ps
told_own Markers ps = refl
told_own Precincts ps = refl
told_own Packets ps = refl
told_own Significance ps = refl
told_own Counts ps = refl
told_own Data ps = refl
told_own Signs ps = refl
told_own Filler ps = refl
told_own Spoilt ps = refl

-- none is more than all of them
told_most : (k : Kind) (b : Bytes) → total_in k b ≤ all b
told_most Markers b = omega arith
told_most Precincts b = omega arith
told_most Packets b = omega arith
told_most Significance b = omega arith
told_most Counts b = omega arith
told_most Data b = omega arith
told_most Signs b = omega arith
told_most Filler b = omega arith
told_most Spoilt b = omega arith

-- a refused page tells nothing
told_none : (v : Verdict) (h : Header) (d : List ℕ) (b : Bytes) → (answer v ≡ 0 → ⊥) → (page_by v h d b).bytes ≡ nothing
told_none (Ok _) h d b some = absurd (some refl)
told_none (Err c) h d b some = refl

-- ---- the pieces of a stream that is read

-- as a plain reading's contract names them
pub plain_pieces : (s : List ℕ) (h : Header) → pieces_in s h false ≡ pieces s h
unfolding pieces_in pieces stream_pieces_by stream_pieces
plain_pieces s h = refl

module _ (s : List ℕ) (header : (reading_of s).verdict ≡ Fine) where
  -- they tile it: nothing stands before, between or behind them
  pub pieces_tile : (damaged : Bool) → verdict_in s (header_of s) damaged ≡ Fine → size (pieces_in s (header_of s) damaged) ≡ length s
  unfolding pieces_in decoded_by
  pieces_tile damaged fine =
      let behind = stream_pieces_by s (setting s) damaged (beginning s) in
      omega (arith, size_append (header_pieces s) behind, header_tiles s header, stream_tiles s (setting s) damaged (beginning s) fine)

  pieces_unspoilt : total Spoilt (pieces s (header_of s)) ≡ 0
  unfolding pieces total
  pieces_unspoilt =
      let behind = stream_pieces s (setting s) (beginning s) in
      let split = ap (λ (b : Bytes). b.spoilt) (bytes_append (header_pieces s) behind) in
      let front = ap (λ (b : Bytes). b.spoilt) (header_bytes_are s header) in
      omega (arith, split, front, stream_unspoilt s (setting s) (beginning s))

-- ---- a reading in either mode, by any verdicts

module _ {damaged : Bool} {s : List ℕ} {lent v : Verdict} {a : List ℕ} {w : List ℤ} {m : List ℕ} {r : Page} {a' : List ℕ} {w' : List ℤ} {m' : List ℕ}
    (leaves : LeavesIn damaged s (header_of s) lent v a w m r a' w' m') (room : List Check) (by_room : v ≡ judged damaged s room) where
  header_read : r.answer ≡ 0 → (reading_of s).verdict ≡ Fine
  header_read e = judged_header damaged s room (sym by_room ∙ fine_in leaves e)

  abbrev page : Verdict → Page
  page u = page_by u (header_of s) (distances_from (header_of s) (tops_in s (header_of s) damaged)) (bytes_of (pieces_in s (header_of s) damaged))

  read_is : r.answer ≡ 0 → r ≡ page Fine
  read_is e = leaves.page ∙ ap page (fine_in leaves e)

  slices_read : r.answer ≡ 0 → verdict_in s (header_of s) damaged ≡ Fine
  slices_read e = (then_fine (then (reading_of s).verdict (first room)) (verdict_in s (header_of s) damaged) (sym by_room ∙ fine_in leaves e)).1

  sum_by : r.answer ≡ 0 → all r.bytes ≡ length s
  sum_by e = ap (λ (p : Page). all p.bytes) (read_is e) ∙ all_size (pieces_in s (header_of s) damaged) ∙ pieces_tile s (header_read e) damaged (slices_read e)

  none_by : (r.answer ≡ 0 → ⊥) → r.bytes ≡ nothing
  none_by some = ap (λ (p : Page). p.bytes) leaves.page ∙ told_none v (header_of s) _ _ (λ e. some (answer_in leaves ∙ e))

  most_by : (k : Kind) → Dec (r.answer ≡ 0) → total_in k r.bytes ≤ length s
  most_by k (yes e) = omega (arith, told_most k r.bytes, sum_by e)
  most_by k (no some) = let none : all r.bytes ≡ 0 = ap all (none_by some) in omega (arith, told_most k r.bytes, none)

  unspoilt_by : damaged ≡ false → Dec (r.answer ≡ 0) → r.bytes.spoilt ≡ 0
  unspoilt_by plain (yes e) =
      ap (λ (p : Page). p.bytes.spoilt) (read_is e)
      ∙ (λ i. total Spoilt (pieces_in s (header_of s) (plain i)))
      ∙ ap (total Spoilt) (plain_pieces s (header_of s))
      ∙ pieces_unspoilt s (header_read e)
  unspoilt_by plain (no some) = ap (λ (b : Bytes). b.spoilt) (none_by some)

  bytes_by : BytesTold damaged s r
  bytes_by =
      record {
        own = λ e k. ap (λ (p : Page). total_in k p.bytes) (read_is e) ∙ told_own k (pieces_in s (header_of s) damaged);
        sum = sum_by;
        place = λ e. sum_by e ∙ sym (ap (λ (p : Page). p.place) (read_is e) ∙ (opened s (header_read e)).accepted.whole);
        none = none_by;
        most = λ k. most_by k (ℕ_discrete r.answer 0);
        unspoilt = λ plain. unspoilt_by plain (ℕ_discrete r.answer 0);
      }

-- ---- by those of the mode, without a plane and with one

bytes_in : {damaged : Bool} {s a m a' m' : List ℕ} {w w' : List ℤ} {r : Page} → ReadsIn damaged s a w m r a' w' m' → BytesTold damaged s r
unfolding verdict_of lent_verdict_in
bytes_in {damaged} {s} {a} {m} {w = w} reads = bytes_by reads (room_checks_in damaged (header_of s) (length a) (length w) (length m)) refl

bytes_beside : {damaged placed : Bool} {s a m d a' m' d' : List ℕ} {w w' : List ℤ} {r : Page}
    → ReadsBy damaged placed s a w m d r a' w' m' d' → BytesTold damaged s r
unfolding verdict_by lent_verdict_by
bytes_beside {damaged} {placed} {s} {a} {m} {d} {w = w} reads =
    bytes_by reads.beside (room_checks_by damaged placed (header_of s) (length a) (length w) (length m) (length d)) refl

-- ---- the four entry points

pub bytes_read : {s a a' : List ℕ} {w w' : List ℤ} {r : Page} → Reads s a w r a' w' → BytesTold false s r
bytes_read reads = bytes_in (plain_in reads)

pub bytes_damaged : {s a m a' m' : List ℕ} {w w' : List ℤ} {r : Page} → ReadsDamaged s a w m r a' w' m' → BytesTold true s r
bytes_damaged reads = bytes_in reads

pub bytes_places : {s a d a' d' : List ℕ} {w w' : List ℤ} {r : Page} → ReadsPlaces s a w d r a' w' d' → BytesTold false s r
bytes_places reads = bytes_beside reads

pub bytes_damaged_places : {s a m d a' m' d' : List ℕ} {w w' : List ℤ} {r : Page} → ReadsDamagedPlaces s a w m d r a' w' m' d' → BytesTold true s r
bytes_damaged_places reads = bytes_beside reads
