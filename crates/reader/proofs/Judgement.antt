-- A page that is judged: what each way through leaves, and how its verdict is that of the readings. Assumes nothing.
use Rattle.std.specs.Prelude.{Ok, Err}
use mathlib.Core.Path.{◌≡◌, refl, ◌∙◌}
use mathlib.Core.Bool.{Bool, false}
use mathlib.Core.List.{List}
use Prim.Native.Nat.{ℕ, ◌*◌}
use lib.IntN.{ℤ}
use lib.ListN.{length, replicate}
use Rattle.rows.specs.Rows.{first, answer, place_of, Fine, Refused, Verdict}
use Rattle.rows.specs.declared.Check.{Check}
use Rattle.pieces.specs.declared.Bytes.{Bytes}
use Rattle.header.specs.Header.{reading_of}
use Rattle.header.specs.declared.header.Header.{Header}
use Rattle.slices.specs.Stream.{stream}
use Rattle.damage.specs.Stream.{stream_by}
use Rattle.reader.specs.declared.judging.Judged.{Judged}
use Rattle.reader.specs.Settings.{N}
use Rattle.reader.specs.Decoding.{decoded, tops}
use Rattle.reader.specs.Page.{header_of, lent_verdict, verdict, page_by, work_by}
use Rattle.reader.specs.Modes.{decoded_by, tops_in}
use Rattle.reader.specs.Places.{room_checks_by, lent_verdict_by, verdict_by, page_with}
use Rattle.reader.specs.Judging.{Judges, JudgedBehind}

-- ---- where row 5 has not passed

pub behind_none : (n : ℕ) (w : List ℤ) {damaged : Bool} {s : List ℕ} {h : Header} {v : Verdict} {r : Judged} {k : Check} → v ≡ Refused k → r.verdict ≡ v → r.header ≡ h → r.tops ≡ replicate 40 0
    → JudgedBehind damaged s h v r × (w ≡ work_by v n w)
behind_none n w e v h t = (record { verdict = rw e (v ∙ e); header = h; tops = rw e t }, rw e refl)

-- ---- behind the header

module _ {damaged placed : Bool} {s : List ℕ} {a : ℕ} {w : List ℤ} {m d : ℕ} {r : Judged} where
  pub judges : {h : Header} {u : Verdict} {w' : List ℤ} → (reading_of s).verdict ≡ Fine → h ≡ header_of s → u ≡ first (room_checks_by damaged placed h a (length w) m d)
      → JudgedBehind damaged s h u r × (w' ≡ work_by u (2 * N h) w) → Judges damaged placed s a w m d r w'
  unfolding lent_verdict_by verdict_by
  judges e f g l =
      record {
        verdict = rw (e, ← f, ← g) l.0.verdict;
        header = l.0.header ∙ f;
        tops = rw (e, ← f, ← g) l.0.tops;
        work = rw (e, ← f, ← g) l.1;
      }

  pub judges_none : {k : Check} → (reading_of s).verdict ≡ Refused k → r.verdict ≡ (reading_of s).verdict → r.header ≡ header_of s → r.tops ≡ replicate 40 0
      → Judges damaged placed s a w m d r w
  unfolding lent_verdict_by verdict_by
  judges_none e v h t = record { verdict = rw e (v ∙ e); header = h; tops = rw e t; work = rw e refl }

-- ---- the verdicts of a plain reading, which has no planes: their cells do not count

pub judged_plain : (s : List ℕ) (a w m d : ℕ) → (verdict_by false false s a w m d ≡ verdict s a w) × (lent_verdict_by false false s a w m d ≡ lent_verdict s a w)
unfolding lent_verdict_by verdict_by decoded_by stream_by lent_verdict verdict decoded stream
judged_plain s a w m d = (refl, refl)

-- and its largest T
pub judged_tops : (s : List ℕ) (h : Header) → tops_in s h false ≡ tops s h
unfolding decoded_by stream_by decoded stream
judged_tops s h = refl

-- ---- number and place of the record are those of the verdict, whichever it is

pub answered : (v : Verdict) (h : Header) (d : List ℕ) (b : Bytes) → ((page_by v h d b).answer ≡ answer v) × ((page_by v h d b).place ≡ place_of v h.picture.lcod)
answered (Ok _) h d b = (refl, refl)
answered (Err c) h d b = (refl, refl)

pub judged_answer : (damaged placed : Bool) (s : List ℕ) (a w m d : ℕ)
    → ((page_with damaged placed s a w m d).answer ≡ answer (verdict_by damaged placed s a w m d))
    × ((page_with damaged placed s a w m d).place ≡ place_of (verdict_by damaged placed s a w m d) (header_of s).picture.lcod)
judged_answer damaged placed s a w m d = answered (verdict_by damaged placed s a w m d) (header_of s) _ _
