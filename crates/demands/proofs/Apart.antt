-- A sound stream and a damaged one that differ only in one slice, which is refused: every sample marked 0 is the same in both. Assumes nothing.
use mathlib.Core.Path.{◌≡◌, refl, sym, ap, subst, ◌∙◌}
use mathlib.Core.Bool.{true, false}
use mathlib.Core.List.{List}
use Prim.Native.Nat.{ℕ, ◌+◌, ◌*◌, ◌<◌}
use native.Mathlib.Omega.{arith}
use lib.IntN.{ℤ}
use lib.ListN.{length, get_or}
use mathlib.Core.Logic.{inl}
use Rattle.whole.proofs.Linear.{flags_differ}
use Rattle.bits.proofs.Alike.{alike_part}
use Rattle.bits.proofs.Headers.{whole_bytes}
use Rattle.rows.specs.Rows.{answer, first, then, Fine}
use Rattle.layout.specs.Bands.{Wc}
use Rattle.layout.specs.Cells.{samples}
use Rattle.layout.specs.Precincts.{slices}
use Rattle.layout.proofs.Cells.{inside}
use Rattle.header.specs.Header.{reading_of}
use Rattle.header.specs.declared.header.Header.{Header}
use Rattle.header.proofs.Alike.{reading_alike}
use Rattle.shapes.specs.Shapes.{shape_of}
use Rattle.packets.proofs.Alike.{WholeHeader}
use Rattle.slices.specs.Stream.{stream}
use Rattle.damage.specs.Apart.{Differing}
use Rattle.damage.proofs.Apart.{apart_begins, apart_fine, apart_cells}
use Rattle.planes.specs.Values.{Coefficients, Every}
use Rattle.planes.specs.Places.{Inside, coefficients_in}
use Rattle.planes.proofs.Marking.{shield}
use Rattle.reader.specs.declared.page.Page.{Page}
use Rattle.reader.specs.Settings.{setting_of, depth_of}
use Rattle.reader.specs.Decoding.{samples_from, decoded, begun}
use Rattle.reader.specs.Page.{header_of, Reads}
use Rattle.reader.specs.Modes.{decoded_by, verdict_in, coefficients_of, spoilt_slice, lost_at, lost_sample, room_checks_in, lent_verdict_in, verdict_of, ReadsDamaged}
use Rattle.reader.specs.Steps.{Opened}
use Rattle.reader.proofs.Openings.{settled, colours}
use Rattle.reader.proofs.Lost.{row_slice}
use Rattle.demands.specs.Stored.{shape}
use Rattle.demands.specs.Damaged.{mark_at, DamagedIn, ApartFrom}
use Rattle.demands.specs.Demands.{sample_at}
use Rattle.demands.proofs.Accepted.{answer_in, PageIn, page_in, header_fine, page_read}
use Rattle.demands.proofs.Damaged.{mark_none}

-- ---- of one header

whole : (h : Header) → WholeHeader (setting_of h)
whole h = whole_bytes h.picture.wf h.picture.nc h.picture.lh

module _ {s s' : List ℕ} {h : Header} (o : Opened s h) (fine : (stream s (setting_of h) (begun h)).0 ≡ Fine) {t : ℕ} (l : t < slices (shape_of h))
    (differ : Differing s s' (setting_of h) h.slice t) where
  slices_fine : verdict_in s' h true ≡ Fine
  unfolding decoded_by
  slices_fine = apart_fine (setting_of h) (settled o) (whole h) (begun h) fine l differ

  module _ (refused : spoilt_slice s' h t ≡ true) where
    abbrev sound : Coefficients
    sound = coefficients_in (shape_of h) (stream s (setting_of h) (begun h)).1.2

    -- a coefficient that is not lost is that of the sound stream
    same_coefficients : Every (shape_of h) (λ i k dx dy x y. lost_at s' h i k dx dy x y ≡ false → coefficients_of s' h true i k dx dy x y ≡ sound i k dx dy x y)
    unfolding decoded_by
    same_coefficients i c k dx dy x y d kept =
        let p = inside d in
        apart_cells (setting_of h) (settled o) (whole h) (begun h) fine l differ refused _ _
        (λ e. flags_differ (sym refused ∙ sym (ap (spoilt_slice s' h) e) ∙ kept))
        (record { i = i; X = _; Y = _; component = c; column = p.0; row = p.1; slice = row_slice (shape_of h) o.shape i c d; stands = inl refl })

    same_samples : (i x y : ℕ) → Inside (shape_of h) i x y → lost_sample s' h i x y ≡ false → samples_from h (coefficients_of s' h true) i x y ≡ samples_from h sound i x y
    unfolding samples_from lost_sample
    same_samples i x y p e =
        shield o.shape (colours o.accepted.ranges) (lost_at s' h) (coefficients_of s' h true) sound same_coefficients h.picture.bw (depth_of h) i x y p e

-- ---- of two streams

-- s is sound, and the buffers that are lent for s' are enough
pub damaged_apart : {s a a' s' b b' m m' : List ℕ} {w w' v v' : List ℤ} {r q : Page} {t : ℕ} → Reads s a w r a' w' → r.answer ≡ 0 → ReadsDamaged s' b v m q b' v' m'
    → first (room_checks_in true (header_of s) (length b) (length v) (length m)) ≡ Fine → DamagedIn s s' t → ApartFrom s a' s' b' m' q
unfolding decoded verdict_of lent_verdict_in
damaged_apart {s} {a} {a'} {s'} {b} {b'} {m} {m'} {w} {w'} {v} {v'} {r} {q} {t} reads e mends room damage =
    record { answer = zero; sample = sample }
  where
    h : Header
    h = header_of s

    fine : (stream s (setting_of h) (begun h)).0 ≡ Fine
    fine = (page_read reads e).fine

    o : Opened s h
    o = (page_read reads e).opened

    -- the two have one header
    same_reading : reading_of s' ≡ reading_of s
    same_reading =
        reading_alike s s' (header_fine reads e)
        (alike_part 0 (h.slice + 2) (apart_begins (setting_of h) (settled o) (whole h) (begun h) fine damage.slice damage.differ) (omega arith) (omega arith))

    same : header_of s' ≡ h
    same = λ i. (same_reading i).header

    all : verdict_of true s' (length b) (length v) (length m) ≡ Fine
    all =
        let lent : then (reading_of s').verdict (first (room_checks_in true (header_of s') (length b) (length v) (length m))) ≡ Fine =
        (λ i. then (same_reading i).verdict (first (room_checks_in true (same i) (length b) (length v) (length m))))
        ∙ (λ i. then (header_fine reads e i) (room i)) in
        (λ i. then (lent i) (verdict_in s' (same i) true)) ∙ slices_fine o fine damage.slice damage.differ

    zero : q.answer ≡ 0
    zero = answer_in mends ∙ ap answer all

    page : PageIn true s' b' m' q
    page = page_in mends zero

    refused : spoilt_slice s' h t ≡ true
    refused = subst (λ (g : Header). spoilt_slice s' g t ≡ true) same damage.refused

    sample : (i x y : ℕ) → Inside (shape s) i x y → mark_at s' m' i x y ≡ 0 → sample_at s' b' i x y ≡ sample_at s a' i x y
    sample i x y p none =
        let at : Header → ℕ = λ g. samples (shape_of g) i + (y * Wc (shape_of g) i + x) in
        let own : get_or b' (at h) 0 ≡ samples_from h (coefficients_of s' h true) i x y =
        subst (λ (g : Header). Inside (shape_of g) i x y → get_or b' (at g) 0 ≡ samples_from g (coefficients_of s' g true) i x y) same (page.sample i x y) p in
        let clear : lost_sample s' h i x y ≡ false =
        subst (λ (g : Header). Inside (shape_of g) i x y → get_or m' (at g) 0 ≡ 0 → lost_sample s' g i x y ≡ false) same (mark_none page i x y) p (ap (λ (g : Header). get_or m' (at g) 0) (sym same) ∙ none) in
        ap (λ (g : Header). get_or b' (at g) 0) same
        ∙ own
        ∙ same_samples o fine damage.slice damage.differ refused i x y p clear
        ∙ sym ((page_read reads e).sample i x y p)
