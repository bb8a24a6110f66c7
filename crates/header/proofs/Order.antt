-- The order of the header's table: as far as a reading comes, places never fall, at one place fields stand in the order of their bits, and at one field numbers
-- never fall; so the refusal is the first one from the front, and at one field the lowest. Assumes nothing.
use Rattle.std.specs.Prelude.{Ok, Err}
use Prim.Native.Nat.{ℕ, zero, suc, ◌+◌, ◌*◌, ◌≤◌, ◌<◌}
use mathlib.Core.Bool.{Bool, true, false, cond}
use mathlib.Core.List.Memᴰ
use mathlib.Core.List.{List, [], ◌∷◌, ◌++◌, Memᴰ}
use mathlib.Core.Logic.{◌⊎◌, inl, inr}
use mathlib.Core.Path.{◌≡◌, refl, sym, ap, ◌∙◌}
use native.Mathlib.Decide.{dec_lt}
use native.Mathlib.Omega.{arith}
use borrow.Author.Rules.{rules}
use lib.ListN.{length}
use Rattle.bits.specs.Fields.{field_at}
use Rattle.rows.specs.Rows.{number, broken, first, each, Fine, Refused, Verdict}
use Rattle.rows.specs.declared.Check.{Check}
use Rattle.rows.specs.declared.Field.{Field}
use Rattle.rows.specs.declared.Field.TheVariants.{Across, Down}
use Rattle.rows.proofs.Tables.{held, append_fine, numbered}
use Rattle.picture.specs.Opening.{start_checks, picture_place, picture_checks}
use Rattle.picture.specs.Picture.{picture_at}
use Rattle.picture.specs.Segment.{segment_at}
use Rattle.picture.specs.declared.picture.Picture.{Picture}
use Rattle.picture.specs.declared.segment.Segment.{Segment}
use Rattle.segments.specs.Components.{sx_at, sy_at, filter_checks, level_checks, down_checks, component_checks, components_checks}
use Rattle.segments.specs.Weights.{bands_in, gain_checks}
use Rattle.segments.specs.Segments.{kind_of, head_checks, checks_of, segment_checks}
use Rattle.segments.specs.declared.kinds.Kind.{Kind}
use Rattle.segments.specs.declared.kinds.Kind.TheVariants.{Components, Weights, Extension, Undecomposed, Registration, Unbuilt, Slice, Predicted, Unknown}
use Rattle.segments.specs.declared.seen.Seen.{Seen}
use Rattle.layout.specs.Bands.{samples_of, levels_of}
use Rattle.header.specs.Order.{bit, begins, Before, Ordered, InOrder}
use Rattle.header.specs.Walk.{ended, accepted, judged, step}
use Rattle.header.specs.Turns.{begun}
use Rattle.header.specs.Table.{segments_from, header_checks}
use Rattle.header.specs.declared.walk.Walk.{Walk}
use Rattle.header.proofs.Steps.{clash}

-- the first bit of a field and the number, in one
abbrev key : Check → ℕ
key c = 16 * begins c + number c.0

-- no key falls from a on, to b
abbrev Rising : ℕ → ℕ → List Check → Type 0
Rising a b [] = a ≤ b
Rising a b (c ∷ cs) = (a ≤ key c) × Rising (key c) b cs

-- or to wherever
abbrev Rises : ℕ → List Check → Type 0
Rises a [] = Unit {0}
Rises a (c ∷ cs) = (a ≤ key c) × Rises (key c) cs

-- ---- laws

rising_from : (a b d : ℕ) (t : List Check) → a ≤ b → Rising b d t → Rising a d t
rising_from a b d [] h k = omega arith
rising_from a b d (c ∷ cs) h k = (omega (arith, k.0), k.1)

rises_from : (a b : ℕ) (t : List Check) → a ≤ b → Rises b t → Rises a t
rises_from a b [] h k = tt
rises_from a b (c ∷ cs) h k = (omega (arith, k.0), k.1)

rising_append : (a b d : ℕ) (xs ys : List Check) → Rising a b xs → Rising b d ys → Rising a d (xs ++ ys)
rising_append a b d [] ys h k = rising_from a b d ys h k
rising_append a b d (c ∷ cs) ys h k = (h.0, rising_append (key c) b d cs ys h.1 k)

rises_append : (a b : ℕ) (xs ys : List Check) → Rising a b xs → Rises b ys → Rises a (xs ++ ys)
rises_append a b [] ys h k = rises_from a b ys h k
rises_append a b (c ∷ cs) ys h k = (h.0, rises_append (key c) b cs ys h.1 k)

rising_to : (a b d : ℕ) (t : List Check) → b ≤ d → Rising a b t → Rising a d t
rising_to a b d [] h k = omega arith
rising_to a b d (c ∷ cs) h k = (k.0, rising_to (key c) b d cs h k.1)

rises : (a b : ℕ) (t : List Check) → Rising a b t → Rises a t
rises a b [] h = tt
rises a b (c ∷ cs) h = (h.0, rises (key c) b cs h.1)

rising_each : (n : ℕ) (f : ℕ → List Check) (g : ℕ → ℕ) → ((k : ℕ) → k < n → Rising (g k) (g (suc k)) (f k)) → Rising (g 0) (g n) (each n f)
unfolding each
rising_each zero f g h = omega arith
rising_each (suc n) f g h = rising_append (g 0) (g n) (g (suc n)) (each n f) (f n) (rising_each n f g (λ k l. h k (omega arith))) (h n (omega arith))

-- ---- what it says

key_before : (c d : Check) → key c ≤ key d → Before c d
key_before c d h = pick (dec_lt (begins c) (begins d))
  where
    pick : Dec (begins c < begins d) → Before c d
    pick (yes l) = inl l
    pick (no l) =
        let n = (numbered c.0).1 in
        let m = (numbered d.0).1 in
        inr (omega arith, omega arith)

rises_all : (a : ℕ) (t : List Check) → Rises a t → (d : Check) → Memᴰ d t → a ≤ key d
rises_all a [] h d m = absurd (Memᴰ.not-nil m)
rises_all a (c ∷ cs) h d m = by (Memᴰ.cases_cons m) (rises_all (key c) cs h.1 d)
  where
    by : (d ≡ c) ⊎ Memᴰ d cs → (Memᴰ d cs → key c ≤ key d) → a ≤ key d
    by (inl q) later = rw q h.0
    by (inr m) later = omega (arith, h.0, later m)

ordered : (a : ℕ) (t : List Check) → Rises a t → Ordered t
ordered a [] h = tt
ordered a (c ∷ cs) h = (λ d m. key_before c d (rises_all (key c) cs h.1 d m), ordered (key c) cs h.1)

-- in an ordered table the refusal's check may stand before every other one that is broken: it is the first from the front, and at its field the lowest
pub first_decides : (t : List Check) (c : Check) → Ordered t → first t ≡ Refused c → (d : Check) → Memᴰ d t → broken d ≡ true → Before c d
first_decides [] c o e d m b = absurd (Memᴰ.not-nil m)
first_decides (x ∷ xs) c o e d m b = pick (broken x) refl e (Memᴰ.cases_cons m) (λ f n. first_decides xs c o.1 f d n b)
  where
    pick : (y : Bool) → y ≡ broken x → cond y (Refused x) (first xs) ≡ Refused c → (d ≡ x) ⊎ Memᴰ d xs → (first xs ≡ Refused c → Memᴰ d xs → Before c d) → Before c d
    pick true p f (inl q) later =
        let r : c ≡ d = cc in
        rw r (inr (refl, omega arith))
    pick true p f (inr n) later =
        let r : c ≡ x = cc in
        rw r (o.0 d n)
    pick false p f (inl q) later = clash (sym b ∙ ap broken q ∙ sym p)
    pick false p f (inr n) later = later f n

-- ---- the component table

module _ (f : Field) (place n levels : ℕ) where
  -- each filter is judged at the same field, by 4
  filters_rising : (a b : ℕ) → a ≤ 16 * (8 * place + bit f) + 4 → 16 * (8 * place + bit f) + 4 ≤ b → Rising a b (filter_checks f place n levels)
  filters_rising a b l m =
      let k = 16 * (8 * place + bit f) + 4 in
      rising_from a k b (filter_checks f place n levels) l
      (rising_to k k b (filter_checks f place n levels) m (rising_each levels (level_checks f place n) (λ d. k) (λ d _. (omega arith, omega arith))))

module _ (s : List ℕ) (h : Picture) (p c : ℕ) where
  abbrev place : ℕ
  place = p + 5 + 2 * c

  abbrev behind : ℕ
  behind = 128 * (p + 4 + 2 * suc c)

  component_rising : Rising (128 * (p + 4 + 2 * c)) behind (component_checks s h p c)
  component_rising =
      let wide = samples_of h.wf (sx_at s p c) in
      let high = samples_of h.hf (sy_at s p c) in
      let levels = levels_of h.nly (sy_at s p c) in
      let sy = down_checks s h p c in
      let down : (a : ℕ) → a ≤ 128 * place + 68 → Rising a behind (filter_checks Down place high levels) = λ a l. filters_rising Down place high levels a behind (omega arith) (omega arith) in
      let behind_sx : Rising (128 * place + 4) behind sy = (omega arith, (omega arith, (omega arith, down _ (omega arith)))) in
      let across : (a : ℕ) → a ≤ 128 * place + 4 → Rising a behind (filter_checks Across place wide h.nlx ++ sy) =
      λ a l. rising_append a (128 * place + 4) behind (filter_checks Across place wide h.nlx) sy (filters_rising Across place wide h.nlx a (128 * place + 4) (omega arith) (omega arith)) behind_sx in
      (omega arith, (omega arith, (omega arith, (omega arith, (omega arith, across _ (omega arith))))))

-- ---- a segment, by its kind

-- to b, which is not past the next segment where there is one
record Up (a : ℕ) (t : List Check) (v : Type 0) (next : ℕ) : Type 0 where
  b : ℕ
  rising : Rising a b t
  fits : v → b ≤ 128 * next

module _ (s : List ℕ) (h : Picture) (x : Seen) (g : Segment) where
  abbrev p : ℕ
  p = g.at

  abbrev on : Kind → Type 0
  on k = (first (checks_of k s h x g) ≡ Fine) × ((accepted k s g x).done ≡ false)

  kind_up : (k : Kind) → Up (128 * p + 2) (checks_of k s h x g) (on k) (accepted k s g x).at
  kind_up Components =
      let end = 128 * (p + 4 + 2 * h.nc) in
      let later : (a : ℕ) → a ≤ 128 * (p + 4) → Rising a end (components_checks s h p) =
      λ a l. rising_from a (128 * (p + 4 + 2 * 0)) end (components_checks s h p) (omega arith) (rising_each h.nc _ (λ c. 128 * (p + 4 + 2 * c)) (λ c _. component_rising s h p c)) in
      record { b = end; rising = (omega arith, (omega arith, (omega arith, (omega arith, later _ (omega arith))))); fits = λ e. omega (arith, (held (checks_of Components s h x g) e.0).1.1.1.0.least) }
  kind_up Weights =
      let n = bands_in s h x.cdt in
      let end = 128 * (p + 4 + 2 * n) in
      let later : (a : ℕ) → a ≤ 128 * (p + 4) → Rising a end (gain_checks s p n) =
      λ a l. rising_from a (128 * (p + 4 + 2 * 0)) end (gain_checks s p n) (omega arith) (rising_each n _ (λ c. 128 * (p + 4 + 2 * c)) (λ c _. (omega arith, omega arith))) in
      record { b = end; rising = (omega arith, (omega arith, (omega arith, (omega arith, (omega arith, later _ (omega arith)))))); fits = λ e. omega (arith, (held (checks_of Weights s h x g) e.0).1.1.1.1.0.least) }
  kind_up Extension = record { b = 128 * (p + 4) + 3; rising = search rules; fits = λ e. omega (arith, (held (checks_of Extension s h x g) e.0).1.1.0.least) }
  kind_up Undecomposed =
      record { b = 128 * (p + 4) + 4; rising = search rules; fits = λ e. omega (arith, (held (checks_of Undecomposed s h x g) e.0).1.1.1.0.least) }
  kind_up Registration =
      record { b = 128 * (p + 2) + 3; rising = search rules; fits = λ e. omega (arith, (held (checks_of Registration s h x g) e.0).1.1.1.0.least) }
  kind_up (Unbuilt f) = record { b = 16 * (8 * p + bit f) + 4; rising = search rules; fits = λ e. clash e.1 }
  kind_up Slice = record { b = 128 * p + 2; rising = search rules; fits = λ e. clash e.1 }
  kind_up Predicted = record { b = 128 * p + 4; rising = search rules; fits = λ e. clash e.1 }
  kind_up Unknown = record { b = 128 * p + 2; rising = search rules; fits = λ e. clash e.1 }

-- ---- the segments

module _ (s : List ℕ) (h : Picture) where
  done_none : (fuel : ℕ) (w : Walk) → w.done ≡ true → segments_from s h fuel w ≡ []
  unfolding segments_from
  done_none zero w e = refl
  done_none (suc fuel) w e = rw e

  segments_rise : (fuel : ℕ) (w : Walk) → Rises (128 * w.at) (segments_from s h fuel w)
  unfolding segments_from step
  segments_rise zero w = tt
  segments_rise (suc fuel) w = pick w.done (λ v. segments_rise fuel v)
    where
      g : Segment
      g = segment_at s w.at

      k : Kind
      k = kind_of g.marker

      x : Seen
      x = w.seen

      behind_head : Up (128 * w.at + 2) (checks_of k s h x g) (on s h x g k) (accepted k s g x).at
      behind_head = kind_up s h x g k

      all_rising : Rising (128 * w.at) behind_head.b (segment_checks s h x g)
      all_rising = rising_append (128 * w.at) (128 * w.at + 2) behind_head.b (head_checks g) (checks_of k s h x g) (search rules) behind_head.rising

      none : (v : Walk) → v.done ≡ true → Rises behind_head.b (segments_from s h fuel v)
      none v e = rw (done_none fuel v e) tt

      further : ((v : Walk) → Rises (128 * v.at) (segments_from s h fuel v)) → (d : Bool) → (accepted k s g x).done ≡ d → first (checks_of k s h x g) ≡ Fine → Rises behind_head.b (segments_from s h fuel (accepted k s g x))
      further later true e f = none (accepted k s g x) e
      further later false e f = rises_from behind_head.b (128 * (accepted k s g x).at) (segments_from s h fuel (accepted k s g x)) (behind_head.fits (f, e)) (later (accepted k s g x))

      by : ((v : Walk) → Rises (128 * v.at) (segments_from s h fuel v)) → (v : Verdict) → v ≡ first (segment_checks s h x g) → Rises behind_head.b (segments_from s h fuel (judged v k s g x))
      by later (Ok _) q = further later (accepted k s g x).done refl (append_fine (head_checks g) (checks_of k s h x g) (sym q)).1
      by later (Err c) q = none (ended (Refused c) g.at x) refl

      pick : (b : Bool) → ((v : Walk) → Rises (128 * v.at) (segments_from s h fuel v)) → Rises (128 * w.at) (cond b [] (segment_checks s h x g ++ segments_from s h fuel (judged (first (segment_checks s h x g)) k s g x)))
      pick true later = tt
      pick false later =
          rises_append (128 * w.at) behind_head.b (segment_checks s h x g) (segments_from s h fuel (judged (first (segment_checks s h x g)) k s g x)) all_rising
          (by later (first (segment_checks s h x g)) refl)

-- ---- the whole

-- SOC, CAP and the capabilities' length, at 4
start_rising : (s : List ℕ) → Rising 0 515 (start_checks s)
start_rising s = search rules

picture_rising : (s : List ℕ) (p : ℕ) → 6 ≤ p → Rising 515 (128 * (p + 28)) (picture_checks s p)
picture_rising s p l = search rules

pub header_ordered : (s : List ℕ) → InOrder s
unfolding header_checks
header_ordered s =
    let p = picture_place s in
    let later = segments_from s (picture_at s p) (length s + 2) (begun (p + 28)) in
    record {
      start = ordered 0 (start_checks s) (rises 0 515 (start_checks s) (start_rising s));
      whole = λ e.
          let least : 2 ≤ field_at s 4 16 = (held (start_checks s) e).1.1.1.1.1.1.0.least in
          ordered 0 (header_checks s)
          (rises_append 0 515 (start_checks s) (picture_checks s p ++ later) (start_rising s)
          (rises_append 515 (128 * (p + 28)) (picture_checks s p) later (picture_rising s p (omega arith)) (segments_rise s (picture_at s p) (length s + 2) (begun (p + 28)))));
    }
