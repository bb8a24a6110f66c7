-- A page that is read: what the answer 0 says of the stream, of the record and of the samples. Assumes nothing.
use Rattle.std.specs.Prelude.{Ok, Err}
use mathlib.Core.Path.{◌≡◌, refl, sym, ap, ◌∙◌}
use mathlib.Core.Bool.{Bool, true, false, cond}
use mathlib.Core.List.{List, [], ◌++◌}
use Prim.Native.Nat.{ℕ, ◌+◌, ◌*◌, ◌-◌, ◌≤◌, ◌<◌}
use native.Mathlib.Omega.{arith}
use lib.IntN.{ℤ}
use lib.ListN.{length, get_or, drop, get_or-append}
use lib.Seq.{get_or-append-add, get_or-drop}
use Rattle.rows.specs.Rows.{first, then, answer, Fine, Verdict}
use Rattle.rows.specs.declared.Check.{Check}
use Rattle.rows.proofs.Tables.{then_fine, answer_fine}
use Rattle.pieces.specs.Pieces.{bytes_of}
use Rattle.layout.specs.Bands.{Wc}
use Rattle.layout.specs.Cells.{samples}
use Rattle.layout.proofs.Cells.{starts_up}
use Rattle.header.specs.Header.{reading_of}
use Rattle.header.specs.declared.header.Header.{Header}
use Rattle.slices.specs.Stream.{stream}
use Rattle.slices.specs.Pieces.{stream_pieces}
use Rattle.damage.specs.Stream.{stream_by}
use Rattle.damage.specs.Pieces.{stream_pieces_by}
use Rattle.planes.specs.Values.{Values, planes}
use Rattle.planes.specs.Marks.{bit}
use Rattle.planes.specs.Places.{Inside}
use Rattle.planes.proofs.Stretches.{offset_below}
use Rattle.planes.proofs.Planes.{planes_length, planes_at}
use Rattle.reader.specs.declared.page.Page.{Page}
use Rattle.reader.specs.Settings.{N}
use Rattle.reader.specs.Decoding.{samples_from, handed, distances_from, decoded, decoded_verdict, tops, coefficients, pieces}
use Rattle.reader.specs.Page.{header_of, lent_verdict, verdict, page_by, samples_by, Reads}
use Rattle.reader.specs.Modes.{decoded_by, verdict_in, tops_in, pieces_in, coefficients_of, lost_sample, lost_marks, room_checks_in, lent_verdict_in, verdict_of, LeavesIn, ReadsIn}
use Rattle.reader.specs.Steps.{Opened}
use Rattle.reader.proofs.Openings.{opened}
use Rattle.reader.proofs.Judgement.{answered}
use Rattle.demands.specs.Stored.{shape}
use Rattle.demands.specs.Demands.{sample_at}
use Rattle.demands.specs.Damaged.{mark_at}

-- ---- a reading in either mode, by any verdicts

module _ {damaged : Bool} {s : List ℕ} {lent all : Verdict} {a : List ℕ} {w : List ℤ} {m : List ℕ} {r : Page} {a' : List ℕ} {w' : List ℤ} {m' : List ℕ}
    (leaves : LeavesIn damaged s (header_of s) lent all a w m r a' w' m') where
  pub answer_in : r.answer ≡ answer all
  answer_in = ap (λ (p : Page). p.answer) leaves.page ∙ (answered all (header_of s) _ _).0

  pub fine_in : r.answer ≡ 0 → all ≡ Fine
  fine_in e = answer_fine all (sym answer_in ∙ e)

-- ---- by those of the mode

-- the header, row 5's checks, and what stands behind them
abbrev pub judged : Bool → List ℕ → List Check → Verdict
judged damaged s room = then (then (reading_of s).verdict (first room)) (verdict_in s (header_of s) damaged)

-- an accepted page has an accepted header
pub judged_header : (damaged : Bool) (s : List ℕ) (room : List Check) → judged damaged s room ≡ Fine → (reading_of s).verdict ≡ Fine
judged_header damaged s room e =
    (then_fine (reading_of s).verdict (first room) (then_fine (then (reading_of s).verdict (first room)) (verdict_in s (header_of s) damaged) e).0).0

header_in_lem : (damaged : Bool) (s : List ℕ) (a w m : ℕ) → verdict_of damaged s a w m ≡ Fine → (reading_of s).verdict ≡ Fine
unfolding verdict_of lent_verdict_in
header_in_lem damaged s a w m = judged_header damaged s (room_checks_in damaged (header_of s) a w m)

-- what stands in the record, in the samples and in the marks of a page that is read
pub record PageIn (damaged : Bool) (s a' m' : List ℕ) (r : Page) : Type 0 where
  -- its header is accepted, and all that stands behind it
  pub opened : Opened s (header_of s)
  pub fine : verdict_in s (header_of s) damaged ≡ Fine
  pub distances : r.distance ≡ distances_from (header_of s) (tops_in s (header_of s) damaged)
  -- each sample is that of the decoded coefficients
  pub sample : (i x y : ℕ) → Inside (shape s) i x y → sample_at s a' i x y ≡ samples_from (header_of s) (coefficients_of s (header_of s) damaged) i x y
  -- and of a damaged page each mark that of the lost ones
  pub mark : damaged ≡ true → (i x y : ℕ) → Inside (shape s) i x y → mark_at s m' i x y ≡ bit (lost_sample s (header_of s) i x y)

-- planes that are written over the beginning of a buffer: a value of a component's plane, and a cell behind them
module _ (s a : List ℕ) (f : Values ℕ) where
  abbrev new : List ℕ
  new = planes (shape s) f (shape s).nc

  pub plane_at : (i x y : ℕ) → Inside (shape s) i x y → get_or (new ++ drop (length new) a) (samples (shape s) i + (y * Wc (shape s) i + x)) 0 ≡ f i x y
  plane_at i x y p =
      let j = samples (shape s) i + (y * Wc (shape s) i + x) in
      let inside : j < length new =
      omega (arith, planes_length (shape s) f (shape s).nc, offset_below (shape s) i x y p.column p.row, starts_up (shape s) i (shape s).nc p.component) in
      get_or-append new (drop (length new) a) 0 j inside ∙ planes_at (shape s) f i x y p

  pub plane_behind : (n : ℕ) → N (header_of s) ≤ n → get_or (new ++ drop (length new) a) n 0 ≡ get_or a n 0
  plane_behind n l =
      let k = length new in
      let e : k + (n - k) ≡ n = omega (arith, planes_length (shape s) f (shape s).nc) in
      (λ i. get_or (new ++ drop k a) (sym e i) 0) ∙ get_or-append-add new (drop k a) (n - k) 0 ∙ get_or-drop k a (n - k) 0 ∙ (λ i. get_or a (e i) 0)

pub page_in : {damaged : Bool} {s a a' m m' : List ℕ} {w w' : List ℤ} {r : Page} → ReadsIn damaged s a w m r a' w' m' → r.answer ≡ 0 → PageIn damaged s a' m' r
unfolding verdict_of handed lost_marks
page_in {damaged} {s} {a} {a'} {m} {m'} {w} {w'} {r} q zero =
    record {
      opened = opened s (header_in_lem damaged s (length a) (length w) (length m) all);
      fine = (then_fine (lent_verdict_in damaged s (length a) (length w) (length m)) (verdict_in s h damaged) all).1;
      distances = ap (λ (p : Page). p.distance) (q.page ∙ (λ i. page_by (all i) h (distances_from h (tops_in s h damaged)) (bytes_of (pieces_in s h damaged))));
      sample = λ i x y p. ap (λ (l : List ℕ). get_or l (samples (shape s) i + (y * Wc (shape s) i + x)) 0) (q.samples ∙ (λ i. samples_by (all i) (handed h (coefficients_of s h damaged)) a))
          ∙ plane_at s a (samples_from h (coefficients_of s h damaged)) i x y p;
      mark = λ e i x y p. ap (λ (l : List ℕ). get_or l (samples (shape s) i + (y * Wc (shape s) i + x)) 0) (q.marks ∙ (λ i. samples_by (all i) (cond (e i) (lost_marks s h) []) m))
          ∙ plane_at s m (λ i x y. bit (lost_sample s h i x y)) i x y p;
    }
  where
    h : Header
    h = header_of s

    all : verdict_of damaged s (length a) (length w) (length m) ≡ Fine
    all = fine_in q zero

-- ---- a plain reading is one that is lent no marks

unmarked : (v : Verdict) → ◌≡◌ {A = List ℕ} [] (samples_by v [] [])
unmarked (Ok _) = refl
unmarked (Err c) = refl

pub plain_in : {s a a' : List ℕ} {w w' : List ℤ} {r : Page} → Reads s a w r a' w' → ReadsIn false s a w [] r a' w' []
unfolding lent_verdict_in verdict_of decoded_by stream_by lent_verdict verdict decoded stream pieces_in stream_pieces_by pieces stream_pieces
plain_in {s} {a} {w = w} x = record { page = x.page; samples = x.samples; work = x.work; marks = unmarked (verdict s (length a) (length w)) }

pub in_plain : {s a a' m' : List ℕ} {w w' : List ℤ} {r : Page} → ReadsIn false s a w [] r a' w' m' → Reads s a w r a' w'
unfolding lent_verdict_in verdict_of decoded_by stream_by lent_verdict verdict decoded stream pieces_in stream_pieces_by pieces stream_pieces
in_plain x = record { page = x.page; samples = x.samples; work = x.work }

module _ {s a a' : List ℕ} {w w' : List ℤ} {r : Page} (reads : Reads s a w r a' w') where
  pub answer_of : r.answer ≡ answer (verdict s (length a) (length w))
  unfolding lent_verdict_in verdict_of decoded_by stream_by lent_verdict verdict decoded stream
  answer_of = answer_in (plain_in reads)

  pub verdict_fine : r.answer ≡ 0 → verdict s (length a) (length w) ≡ Fine
  verdict_fine e = answer_fine (verdict s (length a) (length w)) (sym answer_of ∙ e)

  pub header_fine : r.answer ≡ 0 → (reading_of s).verdict ≡ Fine
  header_fine e = header_in_lem false s (length a) (length w) 0 (fine_in (plain_in reads) e)

pub record PageRead (s a' : List ℕ) (r : Page) : Type 0 where
  pub opened : Opened s (header_of s)
  pub fine : decoded_verdict s (header_of s) ≡ Fine
  pub distances : r.distance ≡ distances_from (header_of s) (tops s (header_of s))
  pub sample : (i x y : ℕ) → Inside (shape s) i x y → sample_at s a' i x y ≡ samples_from (header_of s) (coefficients s (header_of s)) i x y

pub page_read : {s a a' : List ℕ} {w w' : List ℤ} {r : Page} → Reads s a w r a' w' → r.answer ≡ 0 → PageRead s a' r
unfolding decoded_by stream_by decoded stream
page_read q zero =
    let p = page_in (plain_in q) zero in
    record { opened = p.opened; fine = p.fine; distances = p.distances; sample = p.sample }
