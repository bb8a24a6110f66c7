-- What a header is refused by: a row that is neither Count nor Mode. Assumes nothing.
use Prim.Native.Nat.{ℕ, zero, suc, ◌+◌, ◌*◌, ◌≤◌}
use mathlib.Core.Bool.{Bool, true, false, cond}
use mathlib.Core.List.{List, [], ◌++◌}
use native.Mathlib.Omega.{arith}
use lib.ListN.{length}
use Rattle.rows.specs.Rows.{answer}
use Rattle.rows.specs.declared.Check.{Check}
use Rattle.rows.specs.declared.Field.{Field}
use Rattle.rows.specs.declared.Field.TheVariants.{Cdt, Wgt, Across, Down, Pih, Lcdt, Lwgt, Lpih}
use Rattle.rows.specs.declared.Row.TheVariants.{Lacking}
use Rattle.rows.proofs.Low.{Low, low, low_append, low_each}
use Rattle.picture.specs.Markers.{PIH}
use Rattle.picture.specs.Opening.{start_checks, picture_place, picture_bytes, picture_length, opening_checks}
use Rattle.picture.specs.Picture.{picture_at, field_checks}
use Rattle.picture.specs.Segment.{segment_at, marker_checks, length_checks}
use Rattle.picture.specs.declared.picture.Picture.{Picture}
use Rattle.picture.specs.declared.segment.Segment.{Segment}
use Rattle.layout.specs.Bands.{samples_of, levels_of}
use Rattle.segments.specs.Components.{sampling_place, sx_at, sy_at, depth_checks, level_checks, filter_checks, sx_checks, sy_checks, component_checks, components_checks}
use Rattle.segments.specs.Segments.{kind_of, once_checks, seen_checks, checks_of, segment_checks}
use Rattle.segments.specs.Weights.{bands_in, gain_row, gain_checks}
use Rattle.segments.specs.declared.kinds.Kind.{Kind}
use Rattle.segments.specs.declared.kinds.Kind.TheVariants.{Components, Weights, Extension, Undecomposed, Registration, Unbuilt, Slice, Predicted, Unknown}
use Rattle.segments.specs.declared.seen.Seen.{Seen}
use Rattle.header.specs.Header.{reading_of}
use Rattle.header.specs.Walk.{step}
use Rattle.header.specs.Turns.{begun}
use Rattle.header.specs.Table.{segments_from, header_checks}
use Rattle.header.specs.declared.walk.Walk.{Walk}
use Rattle.header.proofs.Table.{one_table}

-- ---- start of codestream, capabilities and picture header

opening_low : (s : List ℕ) → Low (opening_checks s)
opening_low s =
    let p = picture_place s in
    let g = segment_at s p in
    low_append (start_checks s ++ (marker_checks g Pih PIH ++ length_checks g Lpih picture_length picture_length)) (field_checks (length s) p (picture_at s p)) (omega arith) (omega arith)

-- ---- the component table

filter_low : (f : Field) (place points levels : ℕ) → Low (filter_checks f place points levels)
filter_low f place points levels = low_each levels (level_checks f place points) (λ d. omega arith)

component_low : (s : List ℕ) (h : Picture) (p c : ℕ) → Low (component_checks s h p c)
component_low s h p c =
    let place = sampling_place p c in
    let wide = samples_of h.wf (sx_at s p c) in
    let high = samples_of h.hf (sy_at s p c) in
    let levels = levels_of h.nly (sy_at s p c) in
    let across = filter_checks Across place wide h.nlx in
    let down = filter_checks Down place high levels in
    low_append (depth_checks s h p c ++ sx_checks s h p c) (across ++ (sy_checks s h p c ++ down)) (omega arith)
    (low_append across (sy_checks s h p c ++ down) (filter_low Across place wide h.nlx)
    (low_append (sy_checks s h p c) down (omega arith) (filter_low Down place high levels)))

-- ---- a segment

module _ (s : List ℕ) (h : Picture) (x : Seen) (g : Segment) where
  checks_low : (k : Kind) → Low (checks_of k s h x g)
  checks_low Components =
      let n = 2 * h.nc + 2 in
      low_append (once_checks Cdt g.at x.cdt ++ length_checks g Lcdt n n) (components_checks s h g.at) (omega arith)
      (low_each h.nc (component_checks s h g.at) (component_low s h g.at))
  checks_low Weights =
      let n = bands_in s h x.cdt in
      let sized = seen_checks Lacking Cdt g.at x.cdt ++ length_checks g Lwgt (2 + 2 * n) (2 + 2 * n) in
      low_append (once_checks Wgt g.at x.wgt ++ sized) (gain_checks s g.at n) (omega arith)
      (low_each n (gain_row s g.at) (λ k. omega arith))
  checks_low Extension = omega arith
  checks_low Undecomposed = omega arith
  checks_low Registration = omega arith
  checks_low (Unbuilt f) = omega arith
  checks_low Slice = omega arith
  checks_low Predicted = omega arith
  checks_low Unknown = omega arith

-- ---- the header

segments_low : (s : List ℕ) (h : Picture) (fuel : ℕ) (w : Walk) → Low (segments_from s h fuel w)
unfolding segments_from
segments_low s h zero w = tt
segments_low s h (suc fuel) w = pick w.done (segments_low s h fuel (step s h w))
  where
    g : Segment
    g = segment_at s w.at

    here : List Check
    here = segment_checks s h w.seen g

    later : List Check
    later = segments_from s h fuel (step s h w)

    pick : (b : Bool) → Low later → Low (cond b [] (here ++ later))
    pick true l = tt
    pick false l = low_append here later (omega arith, checks_low s h w.seen g (kind_of g.marker)) l

-- 7 and 8 are answered inside precincts alone
pub header_few : (s : List ℕ) → answer (reading_of s).verdict ≤ 6
unfolding header_checks
header_few s =
    let h = picture_at s (picture_place s) in
    let w = begun (picture_place s + picture_bytes) in
    let table = low_append (opening_checks s) (segments_from s h (length s + 2) w) (opening_low s) (segments_low s h (length s + 2) w) in
    rw (one_table s) (low (header_checks s) table)
