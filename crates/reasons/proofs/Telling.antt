-- What a page that is read gives the search, and what is told of one that is refused. Assumes nothing.
use Prim.Native.Nat.{ℕ, ◌*◌, ◌<◌}
use mathlib.Core.Path.{◌≡◌, sym, ap, ◌∙◌}
use mathlib.Core.Bool.{false}
use mathlib.Core.List.{List}
use native.Mathlib.Omega.{arith}
use lib.IntN.{ℤ}
use lib.ListN.{length, get_or, length-replicate}
use Rattle.rows.specs.Rows.{first, then, Fine, Refused, Verdict}
use Rattle.rows.specs.declared.Check.{Check}
use Rattle.rows.proofs.Tables.{then_fine}
use Rattle.layout.specs.Bands.{NL}
use Rattle.layout.proofs.Sums.{bands_most}
use Rattle.header.specs.Header.{reading_of}
use Rattle.header.specs.declared.header.Header.{Header}
use Rattle.shapes.specs.Shapes.{shape_of}
use Rattle.packets.specs.declared.Setting.{Setting}
use Rattle.slices.specs.Stream.{stream}
use Rattle.slices.specs.Walk.{walk_stream}
use Rattle.damage.specs.Stream.{stream_by}
use Rattle.reader.specs.declared.judging.Judged.{Judged}
use Rattle.reader.specs.Settings.{setting_of, N, room_checks}
use Rattle.reader.specs.Decoding.{begun, decoded, decoded_verdict}
use Rattle.reader.specs.Page.{header_of, lent_verdict, verdict, work_by}
use Rattle.reader.specs.Modes.{decoded_by, tops_in}
use Rattle.reader.specs.Steps.{Opened, IsSetting}
use Rattle.reader.specs.Judging.{tops_by, Judges}
use Rattle.reader.proofs.Openings.{opened}
use Rattle.reader.proofs.Placing.{page_walks}
use Rattle.reader.proofs.Judgement.{judged_plain, judged_tops}
use Rattle.reader.proofs.Decoded.{none_yet}
use Rattle.reasons.specs.declared.Why.{Why}
use Rattle.reasons.specs.Coarsest.{largest_in}
use Rattle.reasons.specs.Why.{why_refused, why_by, Explains}
use Rattle.reasons.specs.Steps.{Told, Searched}
use Rattle.reasons.proofs.Tops.{tops_are}

module _ {s : List ℕ} {h : Header} {left : List ℕ} (t : Told s h left) where
  -- declared lengths lead through its slices
  slices_walk : (walk_stream s (setting_of h) h.slice).0 ≡ Fine
  unfolding decoded_by stream_by decoded stream
  slices_walk = page_walks s h false t.fine

  -- what is left for each band is the largest T of the precincts that hold it
  pub largest_left : (b : ℕ) → b < NL (shape_of h) → get_or left b 0 ≡ largest_in s (setting_of h) h.slice b
  unfolding decoded
  largest_left b l =
      ap (λ (z : List ℕ). get_or z b 0) t.largest
      ∙ tops_are s (setting_of h) t.opened.shape (begun h) t.fine b l (omega (arith, length-replicate {A = ℕ} 40 0, bands_most (shape_of h) t.opened.shape)) (none_yet b)

  pub searched : {c : Setting} → IsSetting h c → Searched s c h.slice left
  searched e =
      record {
        walks = record { settled = e.settled; short = t.opened.accepted.short; walked = rw e.is slices_walk };
        largest = rw e.is largest_left;
      }

pub refused_is : {v : Verdict} {k : Check} (s : List ℕ) (h : Header) → v ≡ Refused k → why_refused v ≡ why_by v s h
refused_is s h e = (λ i. why_refused (e i)) ∙ (λ i. why_by (sym e i) s h)

-- ---- a page that is accepted: so are its header, row 5 and its slices
pub record AllFine (s : List ℕ) (a w : ℕ) : Type 0 where
  pub opened : Opened s (header_of s)
  pub lent : lent_verdict s a w ≡ Fine
  pub slices : decoded_verdict s (header_of s) ≡ Fine

pub all_fine : (s : List ℕ) (a w : ℕ) → verdict s a w ≡ Fine → AllFine s a w
unfolding verdict lent_verdict
all_fine s a w e =
    let all = then_fine (then (reading_of s).verdict (first (room_checks (header_of s) a w))) (decoded_verdict s (header_of s)) e in
    record { opened = opened s (then_fine (reading_of s).verdict (first (room_checks (header_of s) a w)) all.0).0; lent = all.0; slices = all.1 }

-- ---- a page that is judged as `read` judges it

module _ {s : List ℕ} {a : ℕ} {w : List ℤ} {r : Judged} {w' : List ℤ} (j : Judges false false s a w 0 0 r w') where
  verdict_is : r.verdict ≡ verdict s a (length w)
  verdict_is = j.verdict ∙ (judged_plain s a (length w) 0 0).0

  pub judged_told : r.verdict ≡ Fine → Told s r.header r.tops
  judged_told e =
      let q = all_fine s a (length w) (sym verdict_is ∙ e) in
      rw j.header
      (record {
        opened = q.opened;
        fine = q.slices;
        largest = j.tops ∙ (λ i. tops_by (((judged_plain s a (length w) 0 0).1 ∙ q.lent) i) (tops_in s (header_of s) false)) ∙ judged_tops s (header_of s);
      })

  pub explains : {y : Why} → y ≡ why_by r.verdict s r.header → Explains s a w y w'
  explains e =
      record {
        why = e ∙ (λ i. why_by (verdict_is i) s (j.header i));
        work = j.work ∙ (λ i. work_by ((judged_plain s a (length w) 0 0).1 i) (2 * N (header_of s)) w);
      }
