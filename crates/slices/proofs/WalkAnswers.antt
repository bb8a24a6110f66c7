-- What the walk by declared lengths answers: a place that is not past the stream, and a row that is neither Count nor Mode. Assumes nothing.
use Rattle.std.specs.Prelude.{Ok, Err}
use Prim.Native.Nat.{ℕ, ◌+◌, ◌≤◌}
use mathlib.Core.Path.{◌≡◌, refl}
use mathlib.Core.List.{List}
use native.Mathlib.Omega.{arith}
use lib.ListN.{length}
use Rattle.loops.proofs.Laws.{Kept, run_keeps}
use Rattle.rows.specs.Rows.{first, answer, Fine, Refused, Verdict}
use Rattle.rows.proofs.Low.{low}
use Rattle.rows.proofs.Sites.{Inside, sited}
use Rattle.layout.specs.Precincts.{Np, slices}
use Rattle.packets.specs.declared.Setting.{Setting}
use Rattle.slices.specs.Slice.{slice_header_bytes, slice_checks}
use Rattle.slices.specs.Stream.{end_checks}
use Rattle.slices.specs.Walk.{stepped, walked_on, end_of, walk_checks, walk_turn, walk_precincts, walk_by, walk_slice, walk_slice_turn, walk_stream}
use Rattle.slices.proofs.SliceLaws.{header_ends}
use Rattle.slices.proofs.Sites.{slice_header_sited, end_sited}
use Rattle.slices.proofs.WalkLaws.{walk_inside}

-- ---- what the verdict of each of its tables has, the walk's has

-- a verdict of the kind Q, and the place behind what is accepted is of the kind P
abbrev Judged : (ℕ → Type 0) → (Verdict → Type 0) → Verdict → ℕ → Type 0
Judged P Q v to = Q v × (v ≡ Fine → P to)

module _ (s : List ℕ) (c : Setting) (P : ℕ → Type 0) (Q : Verdict → Type 0)
    (header : (t at : ℕ) → P at → Judged P Q (first (slice_checks s t at)) (at + slice_header_bytes))
    (step : (at : ℕ) → P at → Judged P Q (first (walk_checks s c at)) (end_of s c at)) where
  abbrev Answers : Verdict × ℕ → Type 0
  Answers (Ok _, to) = P to
  Answers (Err k, at) = Q (Refused k)

  precincts_judged : (t at : ℕ) → P at → Answers (walk_precincts s c t at)
  unfolding walk_precincts walk_turn
  precincts_judged t at p =
      run_keeps P Answers (walk_turn s c) (λ y. (Fine, y)) (Np c.shape t) (λ y q. q) (λ n y l q. by y (first (walk_checks s c y)) (step y q))
      (Np c.shape t) 0 at (omega arith) p
    where
      by : (y : ℕ) (v : Verdict) → Judged P Q v (end_of s c y) → Kept P Answers (stepped v y (end_of s c y))
      by y (Ok _) q = q.1 refl
      by y (Err k) q = q.0

  slice_judged : (t at : ℕ) → P at → Answers (walk_slice s c t at)
  unfolding walk_slice
  slice_judged t at p = by (first (slice_checks s t at)) (header t at p)
    where
      by : (v : Verdict) → Judged P Q v (at + slice_header_bytes) → Answers (walk_by s c v t at)
      by (Ok _) q = precincts_judged t (at + slice_header_bytes) (q.1 refl)
      by (Err k) q = q.0

  walk_judged : ((at : ℕ) → P at → Q (first (end_checks s at))) → (at : ℕ) → P at → Q (walk_stream s c at).0
  unfolding walk_stream walk_slice_turn
  walk_judged end at p =
      run_keeps P (λ (r : Verdict × ℕ). Q r.0) (walk_slice_turn s c) (λ y. (first (end_checks s y), y + 2)) (slices c.shape) end
      (λ t y l q. by (walk_slice s c t y) (slice_judged t y q)) (slices c.shape) 0 at (omega arith) p
    where
      by : (r : Verdict × ℕ) → Answers r → Kept P (λ (r : Verdict × ℕ). Q r.0) (walked_on r)
      by (Ok _, to) q = q
      by (Err k, to) q = q

-- ---- the place

module _ (s : List ℕ) (c : Setting) where
  pub walk_stream_inside : (at : ℕ) → at ≤ length s → Inside (length s) (walk_stream s c at).0
  walk_stream_inside =
      walk_judged s c (λ at. at ≤ length s) (Inside (length s)) (λ t at h. (sited (length s) (slice_checks s t at) (slice_header_sited s t at h), header_ends s t at))
      (λ at h. (sited (length s) (walk_checks s c at) (h, λ cut. (h, λ long. tt)), walk_inside s c at))
      (λ at h. sited (length s) (end_checks s at) (end_sited s c at h))

-- ---- the row

-- 7 and 8 are answered inside precincts alone
pub walk_answer : (s : List ℕ) (c : Setting) (at : ℕ) → answer (walk_stream s c at).0 ≤ 6
walk_answer s c at =
    walk_judged s c (λ at. Unit {0}) (λ v. answer v ≤ 6) (λ t at p. (low (slice_checks s t at) (omega arith), λ e. tt)) (λ at p. (low (walk_checks s c at) (omega arith), λ e. tt))
    (λ at p. low (end_checks s at) (omega arith)) at tt
