-- Locality of the header: streams of one length that agree up to and with the first slice marker have one reading. Assumes nothing.
use Rattle.std.specs.Prelude.{Ok, Err}
use Prim.Native.Nat.{ℕ, zero, suc, ◌+◌, ◌*◌, ◌≤◌, ◌<◌}
use mathlib.Core.Bool.{Bool, true, false, cond, ◌&&◌}
use mathlib.Core.List.{List, ◌++◌}
use mathlib.Core.Path.{◌≡◌, refl, sym, subst, ◌∙◌}
use native.Mathlib.Omega.{arith}
use borrow.Author.Tests.{ltb-true}
use lib.Dec.{ltb}
use lib.ListN.{length}
use Rattle.whole.specs.Cells.{listed}
use Rattle.loops.specs.Run.{then, until}
use Rattle.bits.specs.Alike.{Alike}
use Rattle.bits.specs.Fields.{field_at}
use Rattle.rows.specs.Rows.{first, Fine, Verdict}
use Rattle.rows.specs.declared.Check.{Check}
use Rattle.rows.proofs.Tables.{append_fine, held, refused_fine}
use Rattle.picture.specs.Opening.{picture_place, opening_checks}
use Rattle.picture.specs.Picture.{picture_at}
use Rattle.picture.specs.Segment.{segment_at}
use Rattle.picture.specs.declared.picture.Picture.{Picture}
use Rattle.picture.specs.declared.segment.Segment.{Segment}
use Rattle.picture.proofs.Alike.{bytes_alike, segment_alike, picture_alike, place_alike, opening_alike}
use Rattle.picture.proofs.Laws.{opened}
use Rattle.segments.specs.Bands.{bands, existing}
use Rattle.segments.specs.Components.{component_at}
use Rattle.segments.specs.Segments.{kind_of, type_at, head_checks, checks_of}
use Rattle.segments.specs.Weights.{bands_in}
use Rattle.segments.specs.declared.kinds.Kind.{Kind}
use Rattle.segments.specs.declared.kinds.Kind.TheVariants.{Components, Weights, Extension, Undecomposed, Registration, Unbuilt, Slice, Predicted, Unknown}
use Rattle.segments.specs.declared.seen.Seen.{Seen}
use Rattle.segments.proofs.Alike.{component_alike, components_alike, band_alike, bands_alike, gains_alike}
use Rattle.header.specs.Header.{four, no_component, component_of, band_is, header_in, walk_by, header_by, reading_by, walk_of, reading_of, Reading}
use Rattle.header.specs.Turns.{turn, begun, walk}
use Rattle.header.specs.Walk.{accepted, judged, step}
use Rattle.header.specs.declared.walk.Walk.{Walk}
use Rattle.header.proofs.Ranges.{band_number_lem}
use Rattle.header.proofs.Steps.{clash, step_up, turn_on, turn_end, bound_unused}
use Rattle.header.proofs.Sound.{is_counted, never, Sound, step_sound, unseen_sound, walk_done, walk_sound}
use Rattle.header.proofs.Whole.{opening_fine}

-- ---- a step

module _ {s s' : List ℕ} (h : Picture) (some : 0 < h.nc) (to : ℕ) (alike : Alike s s' 0 (to + 2)) (w : Walk) (i : Sound s h w) where
  abbrev p : ℕ
  p = w.at

  abbrev x : Seen
  x = w.seen

  -- the segment at hand
  abbrev g : List ℕ → Segment
  g z = segment_at z p

  -- it is accepted, and ends before what agrees does. Of a slice marker no more than its place is read: its length need not agree
  kind_alike : (k : Kind) → first (checks_of k s h x (g s)) ≡ Fine → (accepted k s (g s) x).at ≤ to
      → (checks_of k s' h x (g s') ≡ checks_of k s h x (g s)) × (accepted k s' (g s') x ≡ accepted k s (g s) x)
  kind_alike Components e l =
      let long = (held (checks_of Components s h x (g s)) e).1.1.1.0.least in
      let q = segment_alike alike p (omega arith) in
      ((λ j. checks_of Components s' h x (q j)) ∙ rw (components_alike alike h p (omega arith)), (λ j. accepted Components s' (q j) x))
  kind_alike Weights e l =
      let t = held (checks_of Weights s h x (g s)) e in
      let long = t.1.1.1.1.0.least in
      let there = i.table_ends (is_counted x.cdt t.1.0.least) in
      let q = segment_alike alike p (omega arith) in
      let same_bands = bands_alike alike h x.cdt (omega arith) some in
      ((λ j. checks_of Weights s' h x (q j)) ∙ rw (same_bands, gains_alike alike p (bands_in s h x.cdt) (omega arith)), (λ j. accepted Weights s' (q j) x))
  kind_alike Extension e l =
      let long = (held (checks_of Extension s h x (g s)) e).1.1.0.least in
      let q = segment_alike alike p (omega arith) in
      let type : type_at s' p ≡ type_at s p = bytes_alike alike (p + 4) 16 (omega arith) in
      ((λ j. checks_of Extension s' h x (q j)) ∙ rw type, (λ j. accepted Extension s' (q j) x) ∙ rw type)
  kind_alike Undecomposed e l =
      let t = (held (checks_of Undecomposed s h x (g s)) e).1.1.1.1 in
      absurd (omega (arith, t.0.least, t.1.1.0.most))
  kind_alike Registration e l =
      let long = (held (checks_of Registration s h x (g s)) e).1.1.1.0.least in
      let q = segment_alike alike p (omega arith) in
      ((λ j. checks_of Registration s' h x (q j)), (λ j. accepted Registration s' (q j) x))
  kind_alike (Unbuilt f) e l = (refl, refl)
  kind_alike Slice e l = (refl, refl)
  kind_alike Predicted e l = (refl, refl)
  kind_alike Unknown e l =
      let marker : field_at s' p 16 ≡ field_at s p 16 = bytes_alike alike p 16 (omega arith) in
      (rw marker, refl)

  -- what is checked there
  abbrev table : Kind → List ℕ → List Check
  table k z = head_checks (g z) ++ checks_of k z h x (g z)

  judged_alike : (k : Kind) (v : Verdict) → first (table k s) ≡ v → (judged v k s (g s) x).at ≤ to → ((judged v k s (g s) x).done ≡ true → (judged v k s (g s) x).verdict ≡ Fine)
      → judged (first (table k s')) k s' (g s') x ≡ judged v k s (g s) x
  judged_alike k (Ok _) f l d =
      let q = kind_alike k (append_fine (head_checks (g s)) (checks_of k s h x (g s)) f).1 l in
      let head : head_checks (g s') ≡ head_checks (g s) = rw alike.long in
      (λ j. judged (first (head j ++ q.0 j)) k s' (g s') x) ∙ (λ j. judged (f j) k s' (g s') x) ∙ q.1
  judged_alike k (Err c) f l d = refused_fine (d refl)

  step_alike : (step s h w).at ≤ to → ((step s h w).done ≡ true → (step s h w).verdict ≡ Fine) → step s' h w ≡ step s h w
  unfolding step
  step_alike l d =
      let up = step_up s h w in
      (λ j. let k = kind_of (bytes_alike alike p 16 (omega arith) j) in judged (first (table k s')) k s' (g s') x)
      ∙ judged_alike (kind_of (g s).marker) _ refl l d

-- ---- the walk

module _ {s s' : List ℕ} (h : Picture) (some : 0 < h.nc) (last : Walk) (fine : last.verdict ≡ Fine) (alike : Alike s s' 0 (last.at + 2)) where
  abbrev from : List ℕ → ℕ → Walk → Walk
  from z fuel w = until (turn z h) (never s h) fuel w

  -- w is not behind the last place and, where it has ended, refuses nothing; and the other stream's walk comes from it to the last
  abbrev Comes : ℕ → Walk → Type 0
  Comes fuel w = (w.at ≤ last.at) × (w.done ≡ true → w.verdict ≡ Fine) × (from s' fuel w ≡ last)

  -- that holds of every w from which the first stream's walk comes to the last
  follows : (fuel : ℕ) (w : Walk) → Sound s h w → from s fuel w ≡ last → Comes fuel w
  unfolding until
  follows zero w i e = refused_fine ((λ j. (e j).verdict) ∙ fine)
  follows (suc fuel) w i e = pick w.done refl (follows fuel (step s h w) (step_sound s h w i))
    where
      pick : (b : Bool) → b ≡ w.done → (from s fuel (step s h w) ≡ last → Comes fuel (step s h w)) → Comes (suc fuel) w
      pick true d later =
          let q : w ≡ last = (λ j. then (sym (turn_end s h w (sym d)) j) (λ y. from s fuel y) (λ y. y)) ∙ e in
          let at : w.at ≡ last.at = λ j. (q j).at in
          (omega arith, (λ _. (λ j. (q j).verdict) ∙ fine), (λ j. then (turn_end s' h w (sym d) j) (λ y. from s' fuel y) (λ y. y)) ∙ q)
      pick false d later =
          let next = later ((λ j. then (sym (turn_on s h w (sym d)) j) (λ y. from s fuel y) (λ y. y)) ∙ e) in
          let same = step_alike h some last.at alike w i next.0 next.1 in (
            omega (arith, step_up s h w, next.0),
            (λ t. clash (sym t ∙ sym d)),
            (λ j. then (turn_on s' h w (sym d) j) (λ y. from s' fuel y) (λ y. y)) ∙ (λ j. from s' fuel (same j)) ∙ next.2,
          )

-- ---- the header

module _ {s s' : List ℕ} {to : ℕ} (alike : Alike s s' 0 to) (h : Picture) (some : 0 < h.nc) (x : Seen) (slice : ℕ) (table : x.cdt + 4 + 2 * h.nc ≤ to)
    (weights : x.wgt + 4 + 2 * bands_in s h x.cdt ≤ to) where
  component_of_alike : (c : ℕ) → component_of s' h x.cdt c ≡ component_of s h x.cdt c
  component_of_alike c = by (ltb c h.nc) refl
    where
      by : (b : Bool) → ltb c h.nc ≡ b → cond b (component_at s' x.cdt c) no_component ≡ cond b (component_at s x.cdt c) no_component
      by true e =
          let l = ltb-true c h.nc e in
          component_alike alike x.cdt c (omega arith)
      by false e = refl

  band_is_alike : (b : ℕ) → band_is s' h x.cdt b ≡ band_is s h x.cdt b
  band_is_alike b = λ i. ltb b (bands h.nc h.nlx h.nly) && band_alike alike h x.cdt table some b i

  -- a byte of the weights table: a gain, or the priority behind it
  abbrev weight : List ℕ → (ℕ → Bool) → ℕ → ℕ → ℕ
  weight z is d b = cond (is b) (field_at z (x.wgt + (4 + d) + 2 * existing is b) 8) 0

  weight_alike : (d b : ℕ) → d < 2 → weight s' (band_is s' h x.cdt) d b ≡ weight s (band_is s h x.cdt) d b
  weight_alike d b l = (λ i. weight s' (λ k. band_is_alike k i) d b) ∙ by (band_is s h x.cdt b) refl
    where
      place : ℕ
      place = x.wgt + (4 + d) + 2 * existing (band_is s h x.cdt) b

      by : (t : Bool) → band_is s h x.cdt b ≡ t → cond t (field_at s' place 8) 0 ≡ cond t (field_at s place 8) 0
      by true e =
          let m = band_number_lem s h x.cdt b e in
          bytes_alike alike place 8 (omega arith)
      by false e = refl

  header_in_alike : header_in s' h x slice ≡ header_in s h x slice
  header_in_alike =
      λ i.
      record {
        picture = h;
        depth = four (λ c. (component_of_alike c i).depth);
        sx = four (λ c. (component_of_alike c i).sx);
        sy = four (λ c. (component_of_alike c i).sy);
        gains = listed 40 (λ b. weight_alike 0 b (omega arith) i);
        priorities = listed 40 (λ b. weight_alike 1 b (omega arith) i);
        caption = x.caption;
        slice = slice;
      }

-- the reading of a walk that refuses nothing
read_fine : (s : List ℕ) (h : Picture) (w : Walk) → w.verdict ≡ Fine → reading_by s h w ≡ record { verdict = Fine; header = header_in s h w.seen w.at }
read_fine s h w fine = λ i. record { verdict = fine i; header = header_by (fine i) s h w }

-- two streams of one length that agree up to and with the first slice marker of one that is accepted so far have one reading
pub reading_alike : (s s' : List ℕ) → (reading_of s).verdict ≡ Fine → Alike s s' 0 ((reading_of s).header.slice + 2) → reading_of s' ≡ reading_of s
unfolding reading_of
reading_alike s s' e alike =
    let p = picture_place s in
    let h = picture_at s p in
    let v = opening_fine (first (opening_checks s)) s h p e in
    let some = (opened s v).built.nc.0 in
    let last = walk s h (p + 28) in
    let same : walk_of s ≡ last = λ i. walk_by (v i) s h p in
    let fine : last.verdict ≡ Fine = (λ i. (sym same i).verdict) ∙ e in
    let read : reading_by s h (walk_of s) ≡ record { verdict = Fine; header = header_in s h last.seen last.at } = (λ i. reading_by s h (same i)) ∙ read_fine s h last fine in
    let own : Alike s s' 0 (last.at + 2) = subst (λ (r : Reading). Alike s s' 0 (r.header.slice + 2)) read alike in
    let sound = walk_sound s h (p + 28) in
    let end = sound.end (walk_done s h (p + 28)) fine in
    let way = follows h some last fine own (length s + 2) (begun (p + 28)) (unseen_sound s h (λ d _. clash (sym d))) (bound_unused (never s h) s h (p + 28)) in
    let up : p + 28 ≤ last.at = way.0 in
    let place = place_alike own (omega (arith, up)) in
    let picture : picture_at s' (picture_place s') ≡ h = (λ i. picture_at s' (place i)) ∙ picture_alike own p (omega (arith, up)) in
    let walked : walk_of s' ≡ last =
    (λ i. walk_by (first (opening_alike own (omega (arith, up)) i)) s' (picture i) (place i))
    ∙ (λ i. walk_by (v i) s' h p)
    ∙ sym (bound_unused (never s h) s' h (p + 28))
    ∙ (λ i. until (turn s' h) (never s h) (own.long i + 2) (begun (p + 28)))
    ∙ way.2 in
    (λ i. reading_by s' (picture i) (walked i))
    ∙ read_fine s' h last fine
    ∙ (λ i.
    record {
      verdict = Fine;
      header = header_in_alike own h some last.seen last.at (omega (arith, sound.table_ends end.cdt)) (omega (arith, sound.weights_end end.wgt)) i;
    })
    ∙ sym read
