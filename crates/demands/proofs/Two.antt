-- Demand 2 holds of every reading: the table decides between read and refused, and each sample is the standard's. Assumes nothing.
use Rattle.std.specs.Prelude.{Ok, Err}
use mathlib.Core.Path.{◌≡◌, refl, sym, ap, ◌∙◌, subst}
use mathlib.Core.Bool.{Bool}
use mathlib.Core.List.{List, ◌++◌}
use mathlib.Core.Logic.{◌↔◌}
use Prim.Native.Nat.{ℕ}
use lib.IntN.{ℤ}
use lib.ListN.{length}
use Rattle.rows.specs.Rows.{answer, first, then, Fine, Verdict}
use Rattle.rows.specs.declared.Check.{Check}
use Rattle.rows.specs.Tables.{Unbroken}
use Rattle.rows.proofs.Tables.{first_append, fine_iff, first_breaks}
use Rattle.pieces.specs.declared.Bytes.{Bytes}
use Rattle.header.specs.Header.{reading_of}
use Rattle.header.specs.Table.{header_checks}
use Rattle.header.proofs.Table.{one_table}
use Rattle.header.specs.declared.header.Header.{Header}
use Rattle.slices.specs.Stream.{stream}
use Rattle.slices.specs.Table.{stream_checks}
use Rattle.slices.proofs.Table.{stream_table}
use Rattle.damage.specs.Stream.{stream_by}
use Rattle.planes.specs.Places.{Inside}
use Rattle.planes.proofs.Laws.{samples_of_same}
use Rattle.reader.specs.Settings.{depth_of, room_checks}
use Rattle.reader.specs.Decoding.{samples_from, decoded, decoded_verdict, coefficients}
use Rattle.reader.specs.Page.{header_of, lent_verdict, verdict, page_by, Reads}
use Rattle.reader.specs.Modes.{decoded_by, lent_verdict_in, verdict_of, LeavesIn}
use Rattle.reader.specs.declared.page.Page.{Page}
use Rattle.reader.specs.Steps.{Opened}
use Rattle.reader.proofs.Openings.{colours}
use Rattle.demands.specs.Stored.{shape, setting, beginning, dequantised, scaled_up}
use Rattle.demands.specs.Table.{table_of}
use Rattle.demands.specs.Demands.{Decided, Two}
use Rattle.demands.proofs.Accepted.{answer_in, fine_in, plain_in, page_read}
use Rattle.demands.proofs.Stored.{coefficient_is, plain_leads, plain_reads}

-- ---- the verdict is that of the table

pub then_again : (u v w : Verdict) → then (then u v) w ≡ then u (then v w)
then_again (Ok _) v w = refl
then_again (Err c) v w = refl

-- of the header, of row 5 and of what stands behind it
pub joined_tables : (s : List ℕ) (room behind : List Check) {v : Verdict} → v ≡ first behind → then (then (reading_of s).verdict (first room)) v ≡ first (header_checks s ++ (room ++ behind))
joined_tables s room behind {v} e =
    then_again (reading_of s).verdict (first room) v
    ∙ (λ i. then (one_table s i) (then (first room) (e i)))
    ∙ (λ i. then (first (header_checks s)) (sym (first_append room behind) i))
    ∙ sym (first_append (header_checks s) (room ++ behind))

pub table_verdict : (s : List ℕ) (a w : ℕ) → verdict s a w ≡ first (table_of s a w)
unfolding verdict lent_verdict decoded table_of
table_verdict s a w = joined_tables s (room_checks (header_of s) a w) (stream_checks s (setting s) (beginning s)) (stream_table s (setting s) (beginning s))

-- ---- and so is the answer

decided : (t : List Check) (v : Verdict) (h : Header) (d : List ℕ) (b : Bytes) → v ≡ first t → (answer v ≡ 0 → ⊥) → Decided t (page_by v h d b)
decided t (Ok _) h d b e no0 = absurd (no0 refl)
decided t (Err c) h d b e no0 = record { check = c; first_broken = (first_breaks t c).0 (sym e); answer = refl; place = refl }

module _ {damaged : Bool} {s : List ℕ} {lent all : Verdict} {a : List ℕ} {w : List ℤ} {m : List ℕ} {r : Page} {a' : List ℕ} {w' : List ℤ} {m' : List ℕ}
    (leaves : LeavesIn damaged s (header_of s) lent all a w m r a' w' m') (t : List Check) (by_table : all ≡ first t) where
  pub accepted_by : (r.answer ≡ 0) ↔ Unbroken t
  accepted_by = (λ e. (fine_iff t).0 (sym by_table ∙ fine_in leaves e), λ u. answer_in leaves ∙ ap answer (by_table ∙ (fine_iff t).1 u))

  pub refused_by : (r.answer ≡ 0 → ⊥) → Decided t r
  refused_by some = subst (Decided t) (sym leaves.page) (decided t all (header_of s) _ _ by_table (λ e. some (answer_in leaves ∙ e)))

-- ---- demand 2

-- the samples of the coefficients that are decoded are those of the coefficients by name
samples_by_name : {s : List ℕ} → Opened s (header_of s) → decoded_verdict s (header_of s) ≡ Fine → (i x y : ℕ) → Inside (shape s) i x y
    → samples_from (header_of s) (coefficients s (header_of s)) i x y ≡ samples_from (header_of s) (scaled_up s (dequantised s)) i x y
unfolding samples_from
samples_by_name {s} o fine =
    let h = header_of s in
    samples_of_same o.shape (colours o.accepted.ranges) h.picture.bw (depth_of h) (coefficients s h) (scaled_up s (dequantised s))
    (λ i l k dx dy x y d. coefficient_is o (plain_leads o fine) l d (plain_reads o fine l d))

-- so document 01's table alone decides whether a page is read, and the stream alone what its samples are
pub demand_two : {s a a' : List ℕ} {w w' : List ℤ} {r : Page} → Reads s a w r a' w' → Two s a w r a'
unfolding lent_verdict_in verdict_of decoded_by stream_by lent_verdict verdict decoded stream
demand_two {s} {a} {w = w} reads =
    let t = table_of s (length a) (length w) in
    let tv = table_verdict s (length a) (length w) in
    record {
      accepted = accepted_by (plain_in reads) t tv;
      refused = refused_by (plain_in reads) t tv;
      sample = λ e i x y p. let page = page_read reads e in page.sample i x y p ∙ samples_by_name page.opened page.fine i x y p;
    }
