-- Where the refusals of the segments behind the picture header stand: no place is past the stream. Assumes nothing.
use Prim.Native.Nat.{ℕ, ◌+◌, ◌*◌, ◌≤◌}
use mathlib.Core.List.{List, ◌++◌}
use native.Mathlib.Omega.{arith}
use lib.ListN.{length}
use Rattle.rows.specs.declared.Field.{Field}
use Rattle.rows.specs.declared.Field.TheVariants.{Cdt, Wgt, Crg, Sli, Across, Down, Lcdt, Lwgt, Lcom, Lcrg, Lcwd}
use Rattle.rows.specs.declared.Row.TheVariants.{Lacking}
use Rattle.rows.proofs.Sites.{Sited, standing, standing_then, sited_append, sited_each}
use Rattle.rows.proofs.Tables.{held}
use Rattle.picture.specs.Segment.{segment_at, length_checks}
use Rattle.picture.specs.declared.picture.Picture.{Picture}
use Rattle.picture.specs.declared.segment.Segment.{Segment}
use Rattle.picture.proofs.Sites.{length_sited, sized_sited}
use Rattle.layout.specs.Bands.{samples_of, levels_of}
use Rattle.segments.specs.Components.{sampling_place, sx_at, sy_at, depth_checks, level_checks, filter_checks, sx_checks, across_checks, sy_checks, down_checks, component_checks, components_checks}
use Rattle.segments.specs.Segments.{kind_of, head_checks, unknown_checks, once_checks, seen_checks, unbuilt_checks, type_checks, sd_checks, only_checks, slice_checks, checks_of, segment_checks}
use Rattle.segments.specs.Weights.{bands_in, gain_row, gain_checks}
use Rattle.segments.specs.declared.kinds.Kind.{Kind}
use Rattle.segments.specs.declared.kinds.Kind.TheVariants.{Components, Weights, Extension, Undecomposed, Registration, Unbuilt, Slice, Predicted, Unknown}
use Rattle.segments.specs.declared.seen.Seen.{Seen}

-- ---- the component table

filter_sited : (n : ℕ) (f : Field) (place points levels : ℕ) → place ≤ n → Sited n (filter_checks f place points levels)
filter_sited n f place points levels l =
    sited_each n levels (level_checks f place points) (λ d _. standing n (level_checks f place points d) (omega arith))

component_sited : (n : ℕ) (s : List ℕ) (h : Picture) (p c : ℕ) → p + 5 + 2 * c ≤ n → Sited n (component_checks s h p c)
component_sited n s h p c l =
    let place = sampling_place p c in
    let wide = samples_of h.wf (sx_at s p c) in
    let high = samples_of h.hf (sy_at s p c) in
    let levels = levels_of h.nly (sy_at s p c) in
    let down = standing_then n (sy_checks s h p c) (filter_checks Down place high levels) (omega arith) (filter_sited n Down place high levels l) in
    standing_then n (depth_checks s h p c) (across_checks s h p c ++ down_checks s h p c) (omega arith)
    (sited_append n (across_checks s h p c) (down_checks s h p c)
    (standing_then n (sx_checks s h p c) (filter_checks Across place wide h.nlx) (omega arith) (filter_sited n Across place wide h.nlx l))
    (λ _. down))

-- ---- a segment, where its marker is in the stream

module _ (s : List ℕ) (h : Picture) (x : Seen) (p : ℕ) (l : p + 2 ≤ length s) where
  abbrev g : Segment
  g = segment_at s p

  checks_sited : (k : Kind) → Sited (length s) (checks_of k s h x g)
  checks_sited Components =
      let n = 2 * h.nc + 2 in
      let table = components_checks s h p in
      standing_then (length s) (once_checks Cdt p x.cdt) (length_checks g Lcdt n n ++ table) (omega arith)
      (sized_sited s p Lcdt n n table l (λ size.
      sited_each (length s) h.nc (component_checks s h p) (λ c b. component_sited (length s) s h p c (omega arith))))
  checks_sited Weights =
      let n = bands_in s h x.cdt in
      let gains = gain_checks s p n in
      let sized = length_checks g Lwgt (2 + 2 * n) (2 + 2 * n) ++ gains in
      let seen = seen_checks Lacking Cdt p x.cdt in
      standing_then (length s) (once_checks Wgt p x.wgt) (seen ++ sized) (omega arith)
      (standing_then (length s) seen sized (omega arith)
      (sized_sited s p Lwgt (2 + 2 * n) (2 + 2 * n) gains l (λ size.
      sited_each (length s) n (gain_row s p) (λ k b. standing (length s) (gain_row s p k) (omega arith)))))
  checks_sited Extension = sized_sited s p Lcom 4 0xffff (type_checks s p) l (λ size. standing (length s) (type_checks s p) (omega arith))
  checks_sited Undecomposed =
      let sd = sd_checks s h x g in
      standing_then (length s) (only_checks h x p) (length_checks g Lcwd 3 3 ++ sd) (omega arith)
      (sized_sited s p Lcwd 3 3 sd l (λ size. standing (length s) sd (omega arith)))
  checks_sited Registration =
      let n = 2 + 4 * h.nc in
      standing_then (length s) (once_checks Crg p x.crg) (length_checks g Lcrg n n) (omega arith) (length_sited s p Lcrg n n l)
  checks_sited (Unbuilt f) = standing (length s) (unbuilt_checks f p) (omega arith)
  checks_sited Slice = standing (length s) (slice_checks x g) (omega arith)
  checks_sited Predicted = standing (length s) (slice_checks x g ++ unbuilt_checks Sli p) (omega arith)
  checks_sited Unknown = standing (length s) (unknown_checks g) (omega arith)

-- any segment, where the stream comes to its marker
pub segment_sited : (s : List ℕ) (h : Picture) (x : Seen) (p : ℕ) → p ≤ length s → Sited (length s) (segment_checks s h x (segment_at s p))
segment_sited s h x p l =
    let g = segment_at s p in
    let head = head_checks g in
    let k = kind_of g.marker in
    sited_append (length s) head (checks_of k s h x g) (standing (length s) head (omega arith)) (λ e.
    checks_sited s h x p (omega (arith, (held head e).0.least)) k)
