-- The record's yes holds exactly on a page that is read and has a bench caption. Assumes nothing.
use Rattle.std.specs.Prelude.{Ok, Err}
use mathlib.Core.Bool.{true}
use mathlib.Core.List.{List}
use mathlib.Core.Logic.{◌↔◌}
use mathlib.Core.Path.{◌≡◌, refl, sym, ap, ◌∙◌}
use Prim.Native.Nat.{ℕ}
use lib.IntN.{ℤ}
use lib.ListN.{length}
use Rattle.rows.specs.Rows.{answer, Refused, Verdict}
use Rattle.rows.proofs.Tables.{answer_fine, refused_fine}
use Rattle.pieces.specs.declared.Bytes.{Bytes}
use Rattle.pieces.specs.Pieces.{bytes_of}
use Rattle.header.specs.Occurrence.{IsCaption, StandsBefore}
use Rattle.header.specs.declared.header.Header.{Header}
use Rattle.header.proofs.Accepted.{accepted_header}
use Rattle.header.proofs.Steps.{clash}
use Rattle.reader.specs.Decoding.{distances_from, tops, pieces}
use Rattle.reader.specs.Page.{header_of, verdict, page_by, Reads}
use Rattle.reader.specs.declared.page.Page.{Page}
use Rattle.demands.specs.Caption.{CaptionTold}
use Rattle.demands.proofs.Accepted.{answer_of, header_fine}

-- the header's yes, where nothing is refused
told_by : (v : Verdict) (h : Header) (d : List ℕ) (b : Bytes) → ((page_by v h d b).caption ≡ true) ↔ ((answer v ≡ 0) × (h.caption ≡ true))
told_by (Ok _) h d b = (λ e. (refl, e), λ p. p.1)
told_by (Err c) h d b = (λ e. clash (sym e), λ p. refused_fine (answer_fine (Refused c) p.0))

pub caption_told : {s a a' : List ℕ} {w w' : List ℤ} {r : Page} → Reads s a w r a' w' → CaptionTold s r
caption_told {s} {a} {w = w} {r = r} reads = (
  λ e.
      let p = by.0 (sym page ∙ e) in
      let zero = answer_of reads ∙ p.0 in
      (zero, (header zero).0 p.1),
  λ p. page ∙ by.1 (sym (answer_of reads) ∙ p.0, (header p.0).1 p.1),
)
  where
    v : Verdict
    v = verdict s (length a) (length w)

    distances : List ℕ
    distances = distances_from (header_of s) (tops s (header_of s))

    bytes : Bytes
    bytes = bytes_of (pieces s (header_of s))

    by : ((page_by v (header_of s) distances bytes).caption ≡ true) ↔ ((answer v ≡ 0) × ((header_of s).caption ≡ true))
    by = told_by v (header_of s) distances bytes

    page : r.caption ≡ (page_by v (header_of s) distances bytes).caption
    page = ap (λ (p : Page). p.caption) reads.page

    header : r.answer ≡ 0 → ((header_of s).caption ≡ true) ↔ StandsBefore s (IsCaption s) (header_of s).slice
    header zero = (accepted_header s (header_fine reads zero)).occurs.caption
