-- Where the refusals of segments and of the picture header stand: no place is past the stream. Assumes nothing.
use Prim.Native.Nat.{ℕ, ◌+◌, ◌≤◌}
use mathlib.Core.List.{List, ◌++◌}
use mathlib.Core.Path.{◌≡◌}
use native.Mathlib.Omega.{arith}
use lib.Dec.{lit≤}
use lib.ListN.{length}
use Rattle.rows.specs.Rows.{first, Fine}
use Rattle.rows.specs.declared.Check.{Check}
use Rattle.rows.specs.declared.Field.{Field}
use Rattle.rows.specs.declared.Field.TheVariants.{Soc, Cap, Lcap, Pih, Lpih}
use Rattle.rows.proofs.Sites.{Sited, standing, standing_then, sited_append}
use Rattle.rows.proofs.Tables.{append_fine, held}
use Rattle.picture.specs.Markers.{SOC, CAP, PIH}
use Rattle.picture.specs.Opening.{start_checks, picture_place, picture_checks, opening_checks}
use Rattle.picture.specs.Picture.{picture_at, size_checks, precision_checks, mode_checks, level_checks, field_checks}
use Rattle.picture.specs.Segment.{segment_at, marker_checks, length_checks}
use Rattle.picture.specs.declared.picture.Picture.{Picture}
use Rattle.picture.proofs.Laws.{ends}

-- ---- a segment, where the stream comes to its marker

module _ (s : List ℕ) (p : ℕ) where
  -- a marker, and behind it what is in the stream once the marker is
  pub marker_sited : (f : Field) (code : ℕ) (t : List Check) → p ≤ length s → (p + 2 ≤ length s → Sited (length s) t)
      → Sited (length s) (marker_checks (segment_at s p) f code ++ t)
  marker_sited f code t l later =
      let marker = marker_checks (segment_at s p) f code in
      sited_append (length s) marker t (standing (length s) marker (omega arith)) (λ e. later (omega (arith, (held marker e).0.least)))

  pub length_sited : (f : Field) (least most : ℕ) → p + 2 ≤ length s → Sited (length s) (length_checks (segment_at s p) f least most)
  length_sited f least most l = standing (length s) (length_checks (segment_at s p) f least most) (omega arith)

  -- and behind an accepted length the least that the segment may hold
  pub sized_sited : (f : Field) (least most : ℕ) (t : List Check) → p + 2 ≤ length s → (p + 2 + least ≤ length s → Sited (length s) t)
      → Sited (length s) (length_checks (segment_at s p) f least most ++ t)
  sized_sited f least most t l later =
      let size = length_checks (segment_at s p) f least most in
      sited_append (length s) size t (length_sited f least most l)
      (λ e.
      let h = held size e in
      later (omega (arith, h.0.least, h.1.0.least, h.1.1.0.least)))

-- ---- the picture header

field_sited : (n m p : ℕ) (h : Picture) → p + 28 ≤ n → Sited n (field_checks m p h)
field_sited n m p h l =
    let precision = precision_checks p h in
    let mode = mode_checks p h in
    let level = level_checks p h in
    standing_then n (size_checks m p h) (precision ++ (mode ++ level)) (omega arith)
    (standing_then n precision (mode ++ level) (omega arith)
    (standing_then n mode level (omega arith) (standing n level (omega arith))))

start_sited : (s : List ℕ) → Sited (length s) (start_checks s)
start_sited s =
    let size = length_checks (segment_at s 2) Lcap 2 0xffff in
    marker_sited s 0 Soc SOC (marker_checks (segment_at s 2) Cap CAP ++ size) (omega arith) (λ soc.
    marker_sited s 2 Cap CAP size soc (λ cap. length_sited s 2 Lcap 2 0xffff cap))

picture_sited : (s : List ℕ) (p : ℕ) → p ≤ length s → Sited (length s) (picture_checks s p)
picture_sited s p l =
    let fields = field_checks (length s) p (picture_at s p) in
    marker_sited s p Pih PIH (length_checks (segment_at s p) Lpih 26 26 ++ fields) l (λ pih.
    sized_sited s p Lpih 26 26 fields pih (λ size. field_sited (length s) (length s) p (picture_at s p) (omega arith)))

-- the capabilities end in the stream, so the picture header begins there
start_inside : (s : List ℕ) → first (start_checks s) ≡ Fine → picture_place s ≤ length s
start_inside s e =
    let cap = marker_checks (segment_at s 2) Cap CAP in
    let size = length_checks (segment_at s 2) Lcap 2 0xffff in
    let e1 = (append_fine (marker_checks (segment_at s 0) Soc SOC) (cap ++ size) e).1 in
    (ends s 2 Lcap 2 0xffff (lit≤ tt) (append_fine cap size e1).1).1

pub opening_sited : (s : List ℕ) → Sited (length s) (opening_checks s)
opening_sited s =
    sited_append (length s) (start_checks s) (picture_checks s (picture_place s)) (start_sited s) (λ e. picture_sited s (picture_place s) (start_inside s e))
