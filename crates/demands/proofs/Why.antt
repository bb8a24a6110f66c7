-- The reason that `judge` and `why` give is the first broken check of document 01's table, and there is no other. Assumes nothing.
use Rattle.std.specs.Prelude.{Ok, Err}
use mathlib.Core.Path.{◌≡◌, refl, sym, ◌∙◌}
use mathlib.Core.Bool.{Bool, true, false}
use mathlib.Core.List.{List}
use Prim.Native.Nat.{ℕ}
use lib.IntN.{ℤ}
use lib.ListN.{length}
use Rattle.rows.specs.Rows.{first, Verdict}
use Rattle.rows.specs.declared.Check.{Check}
use Rattle.rows.proofs.Tables.{fine_iff, first_breaks}
use Rattle.pieces.specs.declared.Bytes.{Bytes}
use Rattle.header.specs.declared.header.Header.{Header}
use Rattle.slices.specs.Stream.{stream}
use Rattle.slices.specs.Table.{stream_checks}
use Rattle.slices.specs.Walk.{walk_table}
use Rattle.slices.proofs.Table.{stream_table}
use Rattle.damage.specs.Stream.{stream_by}
use Rattle.damage.proofs.Walked.{damaged_table}
use Rattle.reader.specs.Page.{header_of, verdict, page_by, page_of}
use Rattle.reader.specs.Modes.{decoded_by}
use Rattle.reader.specs.Places.{room_checks_by, lent_verdict_by, verdict_by, page_with}
use Rattle.reader.specs.Judging.{Judges}
use Rattle.reader.specs.declared.judging.Judged.{Judged}
use Rattle.reasons.specs.Why.{Explains}
use Rattle.reasons.specs.declared.Why.{Why}
use Rattle.reasons.proofs.Named.{verdict_named}
use Rattle.demands.specs.Stored.{setting, beginning}
use Rattle.demands.specs.Table.{table_of}
use Rattle.demands.specs.Why.{table_by, Reason}
use Rattle.demands.proofs.Two.{joined_tables, table_verdict}

-- the verdict is that of the table, in each way of reading
pub verdict_table : (damaged placed : Bool) (s : List ℕ) (a w m d : ℕ) → verdict_by damaged placed s a w m d ≡ first (table_by damaged placed s a w m d)
unfolding verdict_by lent_verdict_by decoded_by stream_by stream table_by
verdict_table false placed s a w m d =
    joined_tables s (room_checks_by false placed (header_of s) a w m d) (stream_checks s (setting s) (beginning s)) (stream_table s (setting s) (beginning s))
verdict_table true placed s a w m d =
    joined_tables s (room_checks_by true placed (header_of s) a w m d) (walk_table s (setting s) (header_of s).slice) (damaged_table s (setting s) (beginning s))

reason_by : (t : List Check) (v : Verdict) (h : Header) (d : List ℕ) (b : Bytes) → v ≡ first t → Reason t v h.picture.lcod (page_by v h d b)
reason_by t (Ok _) h d b e =
    record { accepted = (λ f. (fine_iff t).0 (sym e), λ u. refl); refused = λ c f. (first_breaks t c).0 (sym e ∙ f); answer_is = refl; place_is = refl }
reason_by t (Err k) h d b e =
    record {
      accepted = (λ f. (fine_iff t).0 (sym e ∙ f), λ u. e ∙ (fine_iff t).1 u);
      refused = λ c f. (first_breaks t c).0 (sym e ∙ f);
      answer_is = refl;
      place_is = refl;
    }

-- W1: of every judging
pub judged_reason : {damaged placed : Bool} {s : List ℕ} {a m d : ℕ} {w w' : List ℤ} {r : Judged} → Judges damaged placed s a w m d r w'
    → Reason (table_by damaged placed s a (length w) m d) r.verdict (header_of s).picture.lcod (page_with damaged placed s a (length w) m d)
judged_reason {damaged} {placed} {s} {a} {m} {d} {w} judges =
    rw judges.verdict
    (reason_by (table_by damaged placed s a (length w) m d) (verdict_by damaged placed s a (length w) m d) (header_of s) _ _
    (verdict_table damaged placed s a (length w) m d))

-- and of every page that `why` explains, by document 01's table for `read`
pub why_reason : {s : List ℕ} {a : ℕ} {w w' : List ℤ} {r : Why} → Explains s a w r w'
    → Reason (table_of s a (length w)) r.verdict (header_of s).picture.lcod (page_of s a (length w))
why_reason {s} {a} {w} explains =
    rw (verdict_named explains)
    (reason_by (table_of s a (length w)) (verdict s a (length w)) (header_of s) _ _ (table_verdict s a (length w)))

-- W3: two outcomes of one call are equal
pub unique_judged : {damaged placed : Bool} {s : List ℕ} {a m d : ℕ} {w w' v' : List ℤ} {r q : Judged} → Judges damaged placed s a w m d r w'
    → Judges damaged placed s a w m d q v' → (r.verdict ≡ q.verdict) × (r.header ≡ q.header) × (r.tops ≡ q.tops) × (w' ≡ v')
unique_judged x y = (x.verdict ∙ sym y.verdict, x.header ∙ sym y.header, x.tops ∙ sym y.tops, x.work ∙ sym y.work)

pub unique_why : {s : List ℕ} {a : ℕ} {w w' v' : List ℤ} {r q : Why} → Explains s a w r w' → Explains s a w q v' → (r ≡ q) × (w' ≡ v')
unique_why x y = (x.why ∙ sym y.why, x.work ∙ sym y.work)
