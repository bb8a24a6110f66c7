-- Laws of the walk: a step that goes on gets at least four bytes further and stays in the stream, so the walk ends by itself. Assumes nothing.
use Rattle.std.specs.Prelude.{Ok, Err}
use Prim.Native.Nat.{ℕ, ◌+◌, ◌*◌, ◌-◌, ◌≤◌, ◌<◌}
use mathlib.Core.Bool.{Bool, true, false, cond}
use mathlib.Core.List.{List, ◌++◌}
use mathlib.Core.Path.{◌≡◌, refl, sym}
use native.Mathlib.Omega.{arith}
use lib.Dec.{lit≤}
use lib.ListN.{length}
use Rattle.loops.specs.Run.{go, stop}
use Rattle.rows.specs.Rows.{first, Fine, Verdict}
use Rattle.rows.specs.declared.Field.TheVariants.{Cdt, Wgt, Crg, Lcdt, Lwgt, Lcom, Lcrg, Lcwd}
use Rattle.rows.specs.declared.Row.TheVariants.{Lacking}
use Rattle.rows.proofs.Tables.{append_fine}
use Rattle.picture.specs.Segment.{segment_at, length_checks}
use Rattle.picture.specs.declared.picture.Picture.{Picture}
use Rattle.picture.specs.declared.segment.Segment.{Segment}
use Rattle.picture.proofs.Laws.{ends}
use Rattle.segments.specs.Components.{components_checks}
use Rattle.segments.specs.Segments.{kind_of, once_checks, seen_checks, type_checks, only_checks, sd_checks, head_checks, checks_of, segment_checks}
use Rattle.segments.specs.Weights.{bands_in, gain_checks}
use Rattle.segments.specs.declared.kinds.Kind.{Kind}
use Rattle.segments.specs.declared.kinds.Kind.TheVariants.{Components, Weights, Extension, Undecomposed, Registration, Unbuilt, Slice, Predicted, Unknown}
use Rattle.segments.specs.declared.seen.Seen.{Seen}
use Rattle.header.specs.Walk.{ended, accepted, judged, step}
use Rattle.header.specs.Turns.{turn, begun, walk_or, walk, Inside}
use Rattle.header.specs.declared.walk.Walk.{Walk}
use Rattle.loops.proofs.Laws.{Falls, until_free}

-- a test has one result
pub clash : {A : Type 0} → true ≡ false → A
clash e = let z : ◌≡◌ {A = ℕ} 0 1 = cc in absurd (omega arith)

module _ (s : List ℕ) (g : Segment) (x : Seen) where
  accepted_fine : (k : Kind) → (accepted k s g x).verdict ≡ Fine
  accepted_fine Components = refl
  accepted_fine Weights = refl
  accepted_fine Extension = refl
  accepted_fine Undecomposed = refl
  accepted_fine Registration = refl
  accepted_fine (Unbuilt f) = refl
  accepted_fine Slice = refl
  accepted_fine Predicted = refl
  accepted_fine Unknown = refl

  -- a step's verdict is its segment's
  pub judged_verdict : (v : Verdict) (k : Kind) → (judged v k s g x).verdict ≡ v
  judged_verdict (Ok _) k = accepted_fine k
  judged_verdict (Err c) k = refl

  -- no step goes back
  accepted_up : (k : Kind) → g.at ≤ (accepted k s g x).at
  accepted_up Components = omega arith
  accepted_up Weights = omega arith
  accepted_up Extension = omega arith
  accepted_up Undecomposed = omega arith
  accepted_up Registration = omega arith
  accepted_up (Unbuilt f) = omega arith
  accepted_up Slice = omega arith
  accepted_up Predicted = omega arith
  accepted_up Unknown = omega arith

  judged_up : (v : Verdict) (k : Kind) → g.at ≤ (judged v k s g x).at
  judged_up (Ok _) k = accepted_up k
  judged_up (Err c) k = omega arith

-- the walk goes on inside the stream
abbrev Further : List ℕ → ℕ → Walk → Type 0
Further s p w = (p + 4 ≤ w.at) × (w.at ≤ length s)

module _ (s : List ℕ) (h : Picture) (x : Seen) (p : ℕ) where
  accepted_on : (k : Kind) → first (checks_of k s h x (segment_at s p)) ≡ Fine → (accepted k s (segment_at s p) x).done ≡ false → Further s p (accepted k s (segment_at s p) x)
  accepted_on Components e d =
      let n = 2 * h.nc + 2 in
      let size = length_checks (segment_at s p) Lcdt n n in
      let e1 = (append_fine (once_checks Cdt p x.cdt) (size ++ components_checks s h p) e).1 in
      ends s p Lcdt n n (omega arith) (append_fine size (components_checks s h p) e1).0
  accepted_on Weights e d =
      let n = bands_in s h x.cdt in
      let size = length_checks (segment_at s p) Lwgt (2 + 2 * n) (2 + 2 * n) in
      let seen = seen_checks Lacking Cdt p x.cdt in
      let e1 = (append_fine (once_checks Wgt p x.wgt) (seen ++ (size ++ gain_checks s p n)) e).1 in
      let e2 = (append_fine seen (size ++ gain_checks s p n) e1).1 in
      ends s p Lwgt (2 + 2 * n) (2 + 2 * n) (omega arith) (append_fine size (gain_checks s p n) e2).0
  accepted_on Extension e d = ends s p Lcom 4 0xffff (lit≤ tt) (append_fine (length_checks (segment_at s p) Lcom 4 0xffff) (type_checks s p) e).0
  accepted_on Undecomposed e d =
      let size = length_checks (segment_at s p) Lcwd 3 3 in
      let e1 = (append_fine (only_checks h x p) (size ++ sd_checks s h x (segment_at s p)) e).1 in
      ends s p Lcwd 3 3 (lit≤ tt) (append_fine size (sd_checks s h x (segment_at s p)) e1).0
  accepted_on Registration e d =
      let n = 2 + 4 * h.nc in
      ends s p Lcrg n n (omega arith) (append_fine (once_checks Crg p x.crg) (length_checks (segment_at s p) Lcrg n n) e).1
  accepted_on (Unbuilt f) e d = clash d
  accepted_on Slice e d = clash d
  accepted_on Predicted e d = clash d
  accepted_on Unknown e d = clash d

  judged_on : (v : Verdict) (k : Kind) → (v ≡ Fine → first (checks_of k s h x (segment_at s p)) ≡ Fine) → (judged v k s (segment_at s p) x).done ≡ false
      → Further s p (judged v k s (segment_at s p) x)
  judged_on (Ok _) k f d = accepted_on k (f refl) d
  judged_on (Err c) k f d = clash d

pub step_on : (s : List ℕ) (h : Picture) (w : Walk) → (step s h w).done ≡ false → Further s w.at (step s h w)
unfolding step
step_on s h w d =
    let g = segment_at s w.at in
    let k = kind_of g.marker in
    judged_on s h w.seen w.at (first (segment_checks s h w.seen g)) k (λ e. (append_fine (head_checks g) (checks_of k s h w.seen g) e).1) d

pub step_up : (s : List ℕ) (h : Picture) (w : Walk) → w.at ≤ (step s h w).at
unfolding step
step_up s h w =
    let g = segment_at s w.at in
    judged_up s g w.seen (first (segment_checks s h w.seen g)) (kind_of g.marker)

-- ---- the walk ends by itself

-- what is left of the stream, for a walk that has not ended
abbrev pub left : List ℕ → Walk → ℕ
left s w = cond w.done 0 (length s - w.at + 1)

left_falls : (s : List ℕ) (p : ℕ) (y : Walk) → (y.done ≡ false → Further s p y) → left s y < length s - p + 1
left_falls s p y f = pick y.done refl
  where
    pick : (b : Bool) → b ≡ y.done → cond b 0 (length s - y.at + 1) < length s - p + 1
    pick true e = omega arith
    pick false e = omega (arith, f (sym e))

pub step_falls : (s : List ℕ) (h : Picture) (w : Walk) → w.done ≡ false → left s (step s h w) < left s w
step_falls s h w d =
    let e : left s w ≡ length s - w.at + 1 = rw d in
    omega (arith, e, left_falls s w.at (step s h w) (step_on s h w))

pub turn_on : (s : List ℕ) (h : Picture) (w : Walk) → w.done ≡ false → turn s h w ≡ go (step s h w)
unfolding turn
turn_on s h w d = rw d

pub turn_end : (s : List ℕ) (h : Picture) (w : Walk) → w.done ≡ true → turn s h w ≡ stop w
unfolding turn
turn_end s h w d = rw d

turn_falls : (s : List ℕ) (h : Picture) (w : Walk) → Falls (left s) (left s w) (turn s h w)
turn_falls s h w = pick w.done refl
  where
    pick : (b : Bool) → b ≡ w.done → Falls (left s) (left s w) (turn s h w)
    pick true e = rw (turn_end s h w (sym e)) tt
    pick false e = rw (turn_on s h w (sym e)) (step_falls s h w (sym e))

-- the bound on its turns is not what ends it: whatever stands there, the walk is the same
pub bound_unused : (never : Walk) (s : List ℕ) (h : Picture) (p : ℕ) → walk_or never s h p ≡ walk s h p
unfolding walk
bound_unused never s h p = until_free (left s) (turn s h) (turn_falls s h) never (begun p) (length s + 2) (begun p) (omega arith)

-- ---- its places are inside the stream

module _ (s : List ℕ) (h : Picture) (w : Walk) (i : Inside s w) where
  -- where the walk ends
  stays : Inside s (ended Fine w.at w.seen)
  stays = record { at = i.at; cdt = i.cdt; wgt = i.wgt }

  accepted_inside : (k : Kind) → first (checks_of k s h w.seen (segment_at s w.at)) ≡ Fine → Inside s (accepted k s (segment_at s w.at) w.seen)
  accepted_inside Components e =
      record { at = (accepted_on s h w.seen w.at Components e refl).1; cdt = i.at; wgt = i.wgt }
  accepted_inside Weights e =
      record { at = (accepted_on s h w.seen w.at Weights e refl).1; cdt = i.cdt; wgt = i.at }
  accepted_inside Extension e = record { at = (accepted_on s h w.seen w.at Extension e refl).1; cdt = i.cdt; wgt = i.wgt }
  accepted_inside Undecomposed e =
      record { at = (accepted_on s h w.seen w.at Undecomposed e refl).1; cdt = i.cdt; wgt = i.wgt }
  accepted_inside Registration e =
      record { at = (accepted_on s h w.seen w.at Registration e refl).1; cdt = i.cdt; wgt = i.wgt }
  accepted_inside (Unbuilt f) e = stays
  accepted_inside Slice e = stays
  accepted_inside Predicted e = stays
  accepted_inside Unknown e = stays

  judged_inside : (v : Verdict) (k : Kind) → (v ≡ Fine → first (checks_of k s h w.seen (segment_at s w.at)) ≡ Fine) → Inside s (judged v k s (segment_at s w.at) w.seen)
  judged_inside (Ok _) k f = accepted_inside k (f refl)
  judged_inside (Err c) k f = record { at = i.at; cdt = i.cdt; wgt = i.wgt }

  pub step_inside : Inside s (step s h w)
  unfolding step
  step_inside =
      let g = segment_at s w.at in
      let k = kind_of g.marker in
      judged_inside (first (segment_checks s h w.seen g)) k (λ e. (append_fine (head_checks g) (checks_of k s h w.seen g) e).1)
