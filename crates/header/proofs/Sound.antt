-- An accepted header: its tables were accepted, it ends at a slice marker, and its fields are in their ranges. Assumes nothing.
use Rattle.std.specs.Prelude.{Ok, Err}
use Prim.Native.Nat.{ℕ, ◌+◌, ◌*◌, ◌≤◌, zero-le}
use mathlib.Core.Bool.{Bool, true, false}
use mathlib.Core.List.{List, ◌++◌}
use mathlib.Core.Path.{◌≡◌, refl, sym, subst}
use native.Mathlib.Omega.{arith}
use borrow.Author.Tests.{eqb-true}
use lib.Dec.{eqb}
use lib.ListN.{length}
use Rattle.bits.specs.Fields.{field_at}
use Rattle.rows.specs.Rows.{check, first, Fine, Refused, Verdict}
use Rattle.rows.specs.declared.Field.{Field}
use Rattle.rows.specs.declared.Field.TheVariants.{Soc, Cdt, Wgt, Sli, Lcdt, Lwgt}
use Rattle.rows.specs.declared.Row.TheVariants.{Marker, Lacking}
use Rattle.rows.proofs.Tables.{append_fine, held, refused_fine}
use Rattle.picture.specs.Markers.{SLH}
use Rattle.picture.specs.Segment.{segment_at, length_checks}
use Rattle.picture.specs.declared.picture.Picture.{Picture}
use Rattle.segments.specs.Components.{components_checks}
use Rattle.segments.specs.Segments.{kind_of, none_seen, counted, once_checks, seen_checks, unbuilt_checks, slice_checks, head_checks, checks_of, segment_checks}
use Rattle.segments.specs.Weights.{bands_in, gain_checks}
use Rattle.segments.specs.declared.kinds.Kind.{Kind}
use Rattle.segments.specs.declared.kinds.Kind.TheVariants.{Components, Weights, Extension, Undecomposed, Registration, Unbuilt, Slice, Predicted, Unknown}
use Rattle.segments.specs.declared.seen.Seen.{Seen}
use Rattle.segments.proofs.Codes.{Coded, coded, code_refused}
use Rattle.header.specs.Walk.{ended, accepted, judged, step}
use Rattle.header.specs.Turns.{turn, begun, walk, Inside}
use Rattle.header.specs.declared.walk.Walk.{Walk}
use Rattle.header.proofs.Steps.{clash, turn_on, turn_end, bound_unused}
use Rattle.loops.proofs.Laws.{Kept, until_keeps}

-- ---- places of segments

pub not_counted : (p : ℕ) → 1 + counted p ≤ 1 → p ≡ 0
not_counted p h = pick (eqb p 0) refl
  where
    pick : (b : Bool) → b ≡ eqb p 0 → p ≡ 0
    pick true e = eqb-true p 0 (sym e)
    pick false e = absurd (more (rw (← e) at h))
      where
        more : 1 + 1 ≤ 1 → ⊥
        more l = omega arith

pub is_counted : (p : ℕ) → 1 ≤ counted p → p ≡ 0 → ⊥
is_counted p h z = less (rw z at h)
  where
    less : 1 ≤ 0 → ⊥
    less l = omega arith

-- ---- what a walk keeps

-- where the walk ends with nothing refused
pub record End (s : List ℕ) (w : Walk) : Type 0 where
  pub cdt : w.seen.cdt ≡ 0 → ⊥
  pub wgt : w.seen.wgt ≡ 0 → ⊥
  pub marker : field_at s w.at 16 ≡ SLH
  pub slice : w.at + 2 ≤ length s

pub record Sound (s : List ℕ) (h : Picture) (w : Walk) : Type 0 where
  pub table : (w.seen.cdt ≡ 0 → ⊥) → first (components_checks s h w.seen.cdt) ≡ Fine
  pub weights : (w.seen.wgt ≡ 0 → ⊥) → (w.seen.cdt ≡ 0 → ⊥) × (first (gain_checks s w.seen.wgt (bands_in s h w.seen.cdt)) ≡ Fine)
  -- both tables end before the walk's place
  pub table_ends : (w.seen.cdt ≡ 0 → ⊥) → w.seen.cdt + 4 + 2 * h.nc ≤ w.at
  pub weights_end : (w.seen.wgt ≡ 0 → ⊥) → w.seen.wgt + 4 + 2 * bands_in s h w.seen.cdt ≤ w.at
  pub end : w.done ≡ true → w.verdict ≡ Fine → End s w

module _ (s : List ℕ) (h : Picture) (w : Walk) (i : Sound s h w) where
  abbrev p : ℕ
  p = w.at

  abbrev x : Seen
  x = w.seen

  -- where no table is new
  sound_later : {at crg cwd : ℕ} {caption done : Bool} {v : Verdict} → p ≤ at
      → (done ≡ true → v ≡ Fine → End s (record { at = at; done = done; verdict = v; seen = record { cdt = x.cdt; wgt = x.wgt; caption = caption; crg = crg; cwd = cwd } }))
      → Sound s h (record { at = at; done = done; verdict = v; seen = record { cdt = x.cdt; wgt = x.wgt; caption = caption; crg = crg; cwd = cwd } })
  sound_later l end =
      record { table = i.table; weights = i.weights; table_ends = λ n. omega (arith, i.table_ends n); weights_end = λ n. omega (arith, i.weights_end n); end = end }

  accepted_sound : (k : Kind) → Coded (field_at s p 16) k → first (head_checks (segment_at s p)) ≡ Fine → first (checks_of k s h x (segment_at s p)) ≡ Fine
      → Sound s h (accepted k s (segment_at s p) x)
  accepted_sound Components m head e =
      let n = 2 * h.nc + 2 in
      let size = length_checks (segment_at s p) Lcdt n n in
      let parts = append_fine (once_checks Cdt p x.cdt) (size ++ components_checks s h p) e in
      let none = not_counted x.cdt (held (once_checks Cdt p x.cdt) parts.0).0.most in
      let own = append_fine size (components_checks s h p) parts.1 in
      record {
        table = λ _. own.1;
        weights = λ n. absurd ((i.weights n).0 none);
        table_ends = λ _. omega (arith, (held size own.0).1.1.0.least);
        weights_end = λ n. absurd ((i.weights n).0 none);
        end = λ d _. clash (sym d);
      }
  accepted_sound Weights m head e =
      let n = bands_in s h x.cdt in
      let size = length_checks (segment_at s p) Lwgt (2 + 2 * n) (2 + 2 * n) in
      let seen = seen_checks Lacking Cdt p x.cdt in
      let e1 = (append_fine (once_checks Wgt p x.wgt) (seen ++ (size ++ gain_checks s p n)) e).1 in
      let e2 = append_fine seen (size ++ gain_checks s p n) e1 in
      let own = append_fine size (gain_checks s p n) e2.1 in
      record {
        table = i.table;
        weights = λ _. (is_counted x.cdt (held seen e2.0).0.least, own.1);
        table_ends = λ n. omega (arith, i.table_ends n);
        weights_end = λ _. omega (arith, (held size own.0).1.1.0.least);
        end = λ d _. clash (sym d);
      }
  accepted_sound Extension m head e = sound_later (omega arith) (λ d _. clash (sym d))
  accepted_sound Undecomposed m head e = sound_later (omega arith) (λ d _. clash (sym d))
  accepted_sound Registration m head e = sound_later (omega arith) (λ d _. clash (sym d))
  accepted_sound (Unbuilt f) m head e = absurd (unbuilt f e)
    where
      unbuilt : (f : Field) → first (unbuilt_checks f p) ≡ Fine → ⊥
      unbuilt f e = let l = (held (unbuilt_checks f p) e).0.most in omega arith
  accepted_sound Slice m head e =
      let cdt = seen_checks Marker Cdt p x.cdt in
      let wgt = seen_checks Marker Wgt p x.wgt in
      let both = append_fine cdt wgt e in
      let l = (held (head_checks (segment_at s p)) head).0.least in
      sound_later (omega arith)
      (λ _ _.
      record {
        cdt = is_counted x.cdt (held cdt both.0).0.least;
        wgt = is_counted x.wgt (held wgt both.1).0.least;
        marker = m;
        slice = omega arith;
      })
  accepted_sound Predicted m head e = absurd (unbuilt (append_fine (slice_checks x (segment_at s p)) (unbuilt_checks Sli p) e).1)
    where
      unbuilt : first (unbuilt_checks Sli p) ≡ Fine → ⊥
      unbuilt e = let l = (held (unbuilt_checks Sli p) e).0.most in omega arith
  accepted_sound Unknown m head e = absurd (code_refused (segment_at s p) m e)

  judged_sound : (v : Verdict) (k : Kind) → Coded (field_at s p 16) k
      → (v ≡ Fine → (first (head_checks (segment_at s p)) ≡ Fine) × (first (checks_of k s h x (segment_at s p)) ≡ Fine)) → Sound s h (judged v k s (segment_at s p) x)
  judged_sound (Ok _) k m f = accepted_sound k m (f refl).0 (f refl).1
  judged_sound (Err c) k m f = sound_later (omega arith) (λ _ e. refused_fine e)

  pub step_sound : Sound s h (step s h w)
  unfolding step
  step_sound =
      let g = segment_at s p in
      let k = kind_of g.marker in
      judged_sound (first (segment_checks s h x g)) k (coded g.marker) (λ e. append_fine (head_checks g) (checks_of k s h x g) e)

-- ---- the whole walk

module _ (s : List ℕ) (h : Picture) where
  -- what each step keeps, the walk keeps
  turn_keeps : (P : Walk → Type 0) → ((w : Walk) → P w → P (step s h w)) → (w : Walk) → P w → Kept P (λ w. P w × (w.done ≡ true)) (turn s h w)
  turn_keeps P each w i = pick w.done refl
    where
      pick : (b : Bool) → b ≡ w.done → Kept P (λ w. P w × (w.done ≡ true)) (turn s h w)
      pick true d = rw (turn_end s h w (sym d)) (i, sym d)
      pick false d = rw (turn_on s h w (sym d)) (each w i)

  -- no walk comes so far that `never` is its end, so that may be any that has ended
  pub walk_keeps_or : (P : Walk → Type 0) → ((w : Walk) → P w → P (step s h w)) → (never : Walk) → never.done ≡ true → P never → (p : ℕ) → P (begun p) → P (walk s h p) × ((walk s h p).done ≡ true)
  walk_keeps_or P each never d n p i =
      subst (λ (w : Walk). P w × (w.done ≡ true)) (bound_unused never s h p)
      (until_keeps P (λ w. P w × (w.done ≡ true)) (turn s h) never (n, d) (turn_keeps P each) (length s + 2) (begun p) i)

  -- such as one that refuses at 0
  abbrev pub never : Walk
  never = ended (Refused (check Marker 0 Soc 0 0 0)) 0 none_seen

  pub walk_keeps : (P : Walk → Type 0) → ((w : Walk) → P w → P (step s h w)) → P never → (p : ℕ) → P (begun p) → P (walk s h p) × ((walk s h p).done ≡ true)
  walk_keeps P each n = walk_keeps_or P each never refl n

  pub walk_done : (p : ℕ) → (walk s h p).done ≡ true
  walk_done p = (walk_keeps (λ w. Unit {0}) (λ w i. tt) tt p tt).1

  -- before any segment, and not at the end of an accepted walk
  pub unseen_sound : {a : ℕ} {done : Bool} {v : Verdict} → (done ≡ true → v ≡ Fine → ⊥) → Sound s h (record { at = a; done = done; verdict = v; seen = none_seen })
  unseen_sound not_fine =
      record { table = λ n. absurd (n refl); weights = λ n. absurd (n refl); table_ends = λ n. absurd (n refl); weights_end = λ n. absurd (n refl); end = λ d e. absurd (not_fine d e) }

  pub walk_sound : (p : ℕ) → Sound s h (walk s h p)
  walk_sound p = (walk_keeps (Sound s h) (step_sound s h) (unseen_sound (λ _ e. refused_fine e)) p (unseen_sound (λ d _. clash (sym d)))).0

  -- before any segment
  pub unseen_inside : {a : ℕ} {done : Bool} {v : Verdict} → a ≤ length s → Inside s (record { at = a; done = done; verdict = v; seen = none_seen })
  unseen_inside l = record { at = l; cdt = zero-le; wgt = zero-le }
