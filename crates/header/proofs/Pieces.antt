-- The pieces of an accepted header tile it, up to the first slice header, and all of them are markers. Assumes nothing.
use Rattle.std.specs.Prelude.{Ok, Err}
use Prim.Native.Nat.{ℕ, zero, suc, ◌+◌, ◌<◌}
use mathlib.Core.Bool.{Bool, true, false, cond}
use mathlib.Core.List.{List, [], ◌∷◌}
use mathlib.Core.Path.{◌≡◌, refl, sym, ◌∙◌}
use native.Mathlib.Omega.{arith}
use lib.ListN.{length}
use Rattle.loops.specs.Run.{go, stop, until, then}
use Rattle.rows.specs.Rows.{first, Fine, Verdict}
use Rattle.pieces.specs.Pieces.{Markers, Piece, size, bytes_of}
use Rattle.pieces.proofs.Laws.{AllOf, bytes_one}
use Rattle.picture.specs.Opening.{picture_place, picture_bytes, opening_checks}
use Rattle.picture.specs.Picture.{picture_at}
use Rattle.picture.specs.Segment.{segment_at}
use Rattle.picture.specs.declared.picture.Picture.{Picture}
use Rattle.picture.specs.declared.segment.Segment.{Segment}
use Rattle.segments.specs.Segments.{kind_of, segment_checks}
use Rattle.segments.specs.declared.kinds.Kind.{Kind}
use Rattle.segments.specs.declared.kinds.Kind.TheVariants.{Components, Weights, Extension, Undecomposed, Registration, Unbuilt, Slice, Predicted, Unknown}
use Rattle.segments.specs.declared.seen.Seen.{Seen}
use Rattle.header.specs.Walk.{accepted, judged, step}
use Rattle.header.specs.Turns.{turn, begun, walk}
use Rattle.header.specs.Header.{walk_by, header_by, walk_of, reading_of}
use Rattle.header.specs.Pieces.{segment_pieces, header_pieces}
use Rattle.header.specs.declared.walk.Walk.{Walk}
use Rattle.header.proofs.Steps.{left, step_falls}
use Rattle.header.proofs.Whole.{opening_fine}

-- ---- the walk

-- what is left of some pieces behind a walk: none where it has ended
abbrev unended : Walk → List Piece → List Piece
unended w ps = cond w.done [] ps

module _ (s : List ℕ) (g : Segment) (x : Seen) (ps : List Piece) where
  -- a walk that goes on has passed its segment; one that ends stays before it
  abbrev Passes : Walk → Type 0
  Passes w = g.at + size (unended w ((Markers, 2 + g.size) ∷ ps)) ≡ w.at + size (unended w ps)

  accepted_passes : (k : Kind) → Passes (accepted k s g x)
  unfolding size
  accepted_passes Components = omega arith
  accepted_passes Weights = omega arith
  accepted_passes Extension = omega arith
  accepted_passes Undecomposed = omega arith
  accepted_passes Registration = omega arith
  accepted_passes (Unbuilt f) = refl
  accepted_passes Slice = refl
  accepted_passes Predicted = refl
  accepted_passes Unknown = refl

  judged_passes : (v : Verdict) (k : Kind) → Passes (judged v k s g x)
  judged_passes (Ok _) k = accepted_passes k
  judged_passes (Err c) k = refl

module _ (s : List ℕ) (h : Picture) where
  step_passes : (w : Walk) (ps : List Piece) → Passes s (segment_at s w.at) w.seen ps (step s h w)
  unfolding step
  step_passes w ps =
      let g = segment_at s w.at in
      judged_passes s g w.seen ps (first (segment_checks s h w.seen g)) (kind_of g.marker)

  -- the pieces from a walk's place on lead to the place where it ends
  walk_tiles : (dead : Walk) (fuel : ℕ) (w : Walk) → left s w < fuel → w.at + size (unended w (segment_pieces s h fuel w)) ≡ (until (turn s h) dead fuel w).at
  unfolding until turn segment_pieces size
  walk_tiles dead zero w l = absurd (omega arith)
  walk_tiles dead (suc fuel) w l = pick w.done refl (walk_tiles dead fuel (step s h w))
    where
      y : Walk
      y = step s h w

      rest : List Piece
      rest = segment_pieces s h fuel y

      pick : (b : Bool) → b ≡ w.done → (left s y < fuel → y.at + size (unended y rest) ≡ (until (turn s h) dead fuel y).at)
          → w.at + size (cond b [] (unended y ((Markers, 2 + (segment_at s w.at).size) ∷ rest)))
          ≡ (then (cond b (stop w) (go y)) (λ z. until (turn s h) dead fuel z) (λ r. r)).at
      pick true d later = omega arith
      pick false d later = step_passes w rest ∙ later (omega (arith, step_falls s h w (sym d)))

  -- and are markers
  walk_markers : (fuel : ℕ) (w : Walk) → AllOf Markers (segment_pieces s h fuel w)
  unfolding segment_pieces
  walk_markers zero w = tt
  walk_markers (suc fuel) w = pick (step s h w).done (walk_markers fuel (step s h w))
    where
      pick : (b : Bool) → AllOf Markers (segment_pieces s h fuel (step s h w))
          → AllOf Markers (cond b [] ((Markers, 2 + (segment_at s w.at).size) ∷ segment_pieces s h fuel (step s h w)))
      pick true later = tt
      pick false later = (refl, later)

-- ---- the whole

-- the first slice header of an accepted stream stands where its walk ends
slice_place : (s : List ℕ) → (reading_of s).verdict ≡ Fine
    → (reading_of s).header.slice ≡ (walk s (picture_at s (picture_place s)) (picture_place s + picture_bytes)).at
unfolding reading_of
slice_place s e =
    let p = picture_place s in
    let h = picture_at s p in
    let v = opening_fine (first (opening_checks s)) s h p e in
    (λ i. (header_by (e i) s h (walk_of s)).slice) ∙ (λ i. (walk_by (v i) s h p).at)

pub header_tiles : (s : List ℕ) → (reading_of s).verdict ≡ Fine → size (header_pieces s) ≡ (reading_of s).header.slice
unfolding header_pieces size walk
header_tiles s e =
    let start = begun (picture_place s + picture_bytes) in
    omega (arith, slice_place s e, walk_tiles s (picture_at s (picture_place s)) start (length s + 2) start (omega arith))

pub header_bytes_are : (s : List ℕ) → (reading_of s).verdict ≡ Fine → bytes_of (header_pieces s) ≡ bytes_of ((Markers, (reading_of s).header.slice) ∷ [])
unfolding header_pieces
header_bytes_are s e =
    let p = picture_place s in
    bytes_one Markers (header_pieces s) (refl, (refl, (refl, walk_markers s (picture_at s p) (length s + 2) (begun (p + picture_bytes)))))
    ∙ (λ i. bytes_of ((Markers, header_tiles s e i) ∷ []))
