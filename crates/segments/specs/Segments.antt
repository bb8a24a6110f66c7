-- A.4.5 to A.4.15: the segments between the picture header and the first slice header, in any order, and that header's marker.
use Rattle.std.specs.Prelude.{ℕ, zero, suc, ◌+◌, ◌*◌, ◌-◌, ◌^◌, ◌<◌, false, ◌&&◌, cond, List, [], ◌∷◌, ◌++◌, eqb, ltb}
use Rattle.bits.specs.Fields.{field_at}
use Rattle.rows.specs.Rows.{check, ample}
use Rattle.rows.specs.declared.Check.{Check}
use Rattle.rows.specs.declared.Field.{Field}
use Rattle.rows.specs.declared.Field.TheVariants.{Next, Cdt, Wgt, Nlt, Cwd, Cts, Crg, Tpc, Wgr, Sli, Lcdt, Lwgt, Lcom, Tcom, Lcrg, Lcwd, Sd}
use Rattle.rows.specs.declared.Row.{Row}
use Rattle.rows.specs.declared.Row.TheVariants.{Cut, Marker, Value, Lacking}
use Rattle.picture.specs.Markers.{CDT, WGT, COM, NLT, CWD, CTS, CRG, TPC, WGR, SLH, SLI}
use Rattle.picture.specs.Segment.{length_checks}
use Rattle.picture.specs.declared.picture.Picture.{Picture}
use Rattle.picture.specs.declared.segment.Segment.{Segment}
use Rattle.segments.specs.Components.{sx_at, sy_at, components_checks}
use Rattle.segments.specs.Weights.{bands_in, gain_checks}
use Rattle.segments.specs.declared.kinds.Kind.{Kind}
use Rattle.segments.specs.declared.kinds.Kind.TheVariants.{Components, Weights, Extension, Undecomposed, Registration, Unbuilt, Slice, Predicted, Unknown}
use Rattle.segments.specs.declared.seen.Seen.{Seen}

-- Table A.2, as far as it goes here. SOC, CAP and PIH are repeated here, EOC is misplaced, and any other code is unknown
unfoldable pub kind_of : ℕ → Kind
kind_of m =
    cond (eqb m CDT) Components
    (cond (eqb m WGT) Weights
    (cond (eqb m COM) Extension
    (cond (eqb m NLT) (Unbuilt Nlt)
    (cond (eqb m CWD) Undecomposed
    (cond (eqb m CTS) (Unbuilt Cts)
    (cond (eqb m CRG) Registration
    (cond (eqb m TPC) (Unbuilt Tpc)
    (cond (eqb m WGR) (Unbuilt Wgr)
    (cond (eqb m SLH) Slice
    (cond (eqb m SLI) Predicted
    Unknown))))))))))

-- every segment has a marker
abbrev pub head_checks : Segment → List Check
head_checks g = check Cut g.at Next g.left 2 ample ∷ []

-- one that is `Unknown` is refused by 2. The range beside it has the codes of Table A.2 on that side of WGR, SLH and SLI or CDT to WGR; `unknown_refused`
-- shows that no unknown code is among them
abbrev pub unknown_checks : Segment → List Check
unknown_checks g =
    check Marker g.at Next g.marker (cond (ltb WGR g.marker) SLH CDT) (cond (ltb WGR g.marker) SLI WGR) ∷ []

-- the places of the segments seen so far: 0 for none; and whether an extension is a bench caption
abbrev pub none_seen : Seen
none_seen = record { cdt = 0; wgt = 0; caption = false; crg = 0; cwd = 0 }

-- how many segments of a kind were seen
abbrev pub counted : ℕ → ℕ
counted place = cond (eqb place 0) 0 1

-- A.4.5 and A.4.12: 'exactly one', A.4.9: 'Zero or one': not twice
abbrev pub once_checks : Field → ℕ → ℕ → List Check
once_checks f p seen = check Marker p f (1 + counted seen) 1 1 ∷ []

-- and not missing
abbrev pub seen_checks : Row → Field → ℕ → ℕ → List Check
seen_checks row f p seen = check row p f (counted seen) 1 1 ∷ []

-- document 01: 'Segments 0xff1b and 0xff21, and those of temporal control, non-linear output and Star-Tetrix parameters, are answered 4 at their markers'
abbrev pub unbuilt_checks : Field → ℕ → List Check
unbuilt_checks f p = check Lacking p f 1 0 0 ∷ []

-- Table A.15: Lcdt is 2 × Nc + 2
abbrev pub table_checks : List ℕ → Picture → Seen → Segment → List Check
table_checks s h x g =
    once_checks Cdt g.at x.cdt
    ++ (length_checks g Lcdt (2 * h.nc + 2) (2 * h.nc + 2) ++ components_checks s h g.at)

-- A.4.12. Document 01: 'The weights table (0xff14) has 2 + 2n bytes for n existing bands', and 'before the component table it is answered 4 at its marker,
-- unless Annex A makes that 2'
abbrev pub weight_checks : List ℕ → Picture → Seen → Segment → List Check
weight_checks s h x g =
    once_checks Wgt g.at x.wgt
    ++ (seen_checks Lacking Cdt g.at x.cdt
    ++ (length_checks g Lwgt (2 + 2 * bands_in s h x.cdt) (2 + 2 * bands_in s h x.cdt) ++ gain_checks s g.at (bands_in s h x.cdt)))

-- Table A.23: Tcom
abbrev pub type_at : List ℕ → ℕ → ℕ
type_at s p = field_at s (p + 4) 16

-- Table A.24. Document 01: 'Types 0x0000, 0x0001 and 0x8000 to 0xffff are accepted, their data not judged; others are answered 3.' Below 0x8000 the most
-- is 0x0001, from there on 0xffff
abbrev pub type_checks : List ℕ → ℕ → List Check
type_checks s p = check Value (p + 4) Tcom (type_at s p) 0 (cond (ltb (type_at s p) 0x8000) 1 0xffff) ∷ []

-- Table A.23: Lcom is 'Variable, at least 4'. A.4.11: 'Zero or more extension marker segments may be present'
abbrev pub extension_checks : List ℕ → Segment → List Check
extension_checks s g = length_checks g Lcom 4 0xffff ++ type_checks s g.at

-- Table A.21: Lcrg is 2 + 4 × Nc. Document 01: registration 'is checked by Annex A and changes no sample'; any value of its fields is allowed
abbrev pub registration_checks : Picture → Seen → Segment → List Check
registration_checks h x g = once_checks Crg g.at x.crg ++ length_checks g Lcrg (2 + 4 * h.nc) (2 + 4 * h.nc)

-- Table A.18: 'all components that are excluded from the wavelet transformation have sx[c]=1 and sy[c]=1'. Those are the last Sd. This is how many of the
-- first n components, counted from the end, have that; `full_tail_lem` shows that Sd is at most this exactly where the last Sd of them have it
unfoldable pub full_tail : List ℕ → ℕ → ℕ → ℕ
full_tail s cdt zero = 0
full_tail s cdt (suc n) = cond (eqb (sx_at s cdt n) 1 && eqb (sy_at s cdt n) 1) (full_tail s cdt n + 1) 0

-- before the component table nothing is known of them
abbrev pub most_sd : List ℕ → Picture → Seen → ℕ
most_sd s h x = cond (eqb x.cdt 0) h.nc (full_tail s x.cdt h.nc)

-- Table A.18: Sd is 1 to Nc − 1, and its components are sampled at every grid point. Document 01: the segment is answered 4 'at its count, when above 0'
abbrev pub sd_checks : List ℕ → Picture → Seen → Segment → List Check
sd_checks s h x g =
    check Value (g.at + 4) Sd (field_at s (g.at + 4) 8) 1 (h.nc - 1)
    ∷ check Value (g.at + 4) Sd (field_at s (g.at + 4) 8) 1 (most_sd s h x)
    ∷ check Lacking (g.at + 4) Sd (field_at s (g.at + 4) 8) 0 0
    ∷ []

-- A.4.7: 'Zero or one component-dependent wavelet decomposition marker segments', and 'Shall only be present if Nc > 3'. This is the one segment, or none
abbrev pub most_cwd : Picture → ℕ
most_cwd h = cond (ltb 3 h.nc) 1 0

abbrev pub only_checks : Picture → Seen → ℕ → List Check
only_checks h x p = check Marker p Cwd (1 + counted x.cwd) (most_cwd h) (most_cwd h) ∷ []

-- Table A.18: Lcwd is 3
abbrev pub undecomposed_checks : List ℕ → Picture → Seen → Segment → List Check
undecomposed_checks s h x g = only_checks h x g.at ++ (length_checks g Lcwd 3 3 ++ sd_checks s h x g)

-- A.4.5, A.4.12: both tables stand before the first slice header, of either kind
abbrev pub slice_checks : Seen → Segment → List Check
slice_checks x g = seen_checks Marker Cdt g.at x.cdt ++ seen_checks Marker Wgt g.at x.wgt

abbrev pub predicted_checks : Seen → Segment → List Check
predicted_checks x g = slice_checks x g ++ unbuilt_checks Sli g.at

-- by kind
abbrev pub checks_of : Kind → List ℕ → Picture → Seen → Segment → List Check
checks_of Components s h x g = table_checks s h x g
checks_of Weights s h x g = weight_checks s h x g
checks_of Extension s h x g = extension_checks s g
checks_of Undecomposed s h x g = undecomposed_checks s h x g
checks_of Registration s h x g = registration_checks h x g
checks_of (Unbuilt f) s h x g = unbuilt_checks f g.at
checks_of Slice s h x g = slice_checks x g
checks_of Predicted s h x g = predicted_checks x g
checks_of Unknown s h x g = unknown_checks g

abbrev pub segment_checks : List ℕ → Picture → Seen → Segment → List Check
segment_checks s h x g = head_checks g ++ checks_of (kind_of g.marker) s h x g

-- the ranges of places in a stream whose length Lcod declares
pub record Placed (x : Seen) (g : Segment) : Type 0 where
  pub at : g.at < 2 ^ 32
  pub cdt : x.cdt < 2 ^ 32
