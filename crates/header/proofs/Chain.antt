-- What the walk has seen, said of the segments that it has passed: the places that it knows are those of the segments with their markers. Assumes nothing.
use Rattle.std.specs.Prelude.{Ok, Err}
use Prim.Native.Nat.{ℕ, zero, suc, ◌+◌, ◌≤◌, ◌<◌}
use mathlib.Core.Bool.{Bool, true, false}
use mathlib.Core.List.{List}
use mathlib.Core.Logic.{◌⊎◌, inl, inr, ◌↔◌}
use mathlib.Core.Path.{◌≡◌, refl, sym, subst, ◌∙◌}
use native.Mathlib.Decide.{dec_lt}
use native.Mathlib.Omega.{arith}
use borrow.Author.Tests.{eqb-true, eqb-false}
use Rattle.bits.specs.Fields.{field_at}
use Rattle.rows.specs.Rows.{first, Fine, Verdict}
use Rattle.rows.proofs.Tables.{append_fine, held}
use Rattle.picture.specs.Markers.{CDT, WGT, COM, CRG, CAPTION}
use Rattle.picture.specs.Opening.{picture_place}
use Rattle.picture.specs.Segment.{segment_at}
use Rattle.picture.specs.declared.picture.Picture.{Picture}
use Rattle.segments.specs.Segments.{kind_of, type_at, none_seen, head_checks, checks_of, segment_checks}
use Rattle.segments.specs.declared.kinds.Kind.{Kind}
use Rattle.segments.specs.declared.kinds.Kind.TheVariants.{Components, Weights, Extension, Undecomposed, Registration, Unbuilt, Slice, Predicted, Unknown}
use Rattle.segments.specs.declared.seen.Seen.{Seen}
use Rattle.header.specs.Occurrence.{segment_place, Marked, IsCaption, Only, StandsBefore}
use Rattle.header.specs.Walk.{ended, is_caption, accepted, judged, step}
use Rattle.header.specs.Turns.{walk}
use Rattle.header.specs.declared.walk.Walk.{Walk}
use Rattle.segments.proofs.Codes.{Coded, coded}
use Rattle.header.proofs.Steps.{clash}
use Rattle.header.proofs.Sound.{not_counted, is_counted, walk_keeps_or}

-- ---- the first n segments, and one more

-- none of them is such
abbrev None : (ℕ → Type 0) → ℕ → Type 0
None P n = (k : ℕ) → k < n → P k → ⊥

module _ (P : ℕ → Type 0) (n : ℕ) where
  none_more : None P n → (P n → ⊥) → None P (suc n)
  none_more h not k l i = pick (dec_lt k n)
    where
      pick : Dec (k < n) → ⊥
      pick (yes m) = h k m i
      pick (no m) =
          let q : k ≡ n = omega arith in
          not (rw q at i)

  only_new : None P n → P n → Only P (suc n) n
  only_new h is = record { before = omega arith; is = is; only = λ j l i. pick j l i (dec_lt j n) }
    where
      pick : (j : ℕ) → j < suc n → P j → Dec (j < n) → j ≡ n
      pick j l i (yes m) = absurd (h j m i)
      pick j l i (no m) = omega arith

  only_more : {k : ℕ} → Only P n k → (P n → ⊥) → Only P (suc n) k
  only_more {k} o not = record { before = omega (arith, o.before); is = o.is; only = λ j l i. pick j l i (dec_lt j n) }
    where
      pick : (j : ℕ) → j < suc n → P j → Dec (j < n) → j ≡ k
      pick j l i (yes m) = o.only j m i
      pick j l i (no m) =
          let q : j ≡ n = omega arith in
          absurd (not (rw q at i))

-- ---- a place that is known

-- of the only segment of which P holds, or 0
pub data Once (s : List ℕ) (P : ℕ → Type 0) (n p : ℕ) : Type 0 where
  unseen : p ≡ 0 → None P n → Once s P n p
  seen : (k : ℕ) → Only P n k → p ≡ segment_place s k → Once s P n p

-- a segment's place is not 0: the codestream's start stands there
place_positive : (s : List ℕ) (k : ℕ) → segment_place s k ≡ 0 → ⊥
unfolding segment_place
place_positive s zero e = omega arith
place_positive s (suc k) e = omega arith

module _ (s : List ℕ) (P : ℕ → Type 0) (n : ℕ) where
  once_none : {p : ℕ} → Once s P n p → p ≡ 0 → None P n
  once_none (unseen e h) z = h
  once_none (seen k o e) z = absurd (place_positive s k (sym e ∙ z))

  pub once_one : {p : ℕ} → Once s P n p → (p ≡ 0 → ⊥) → (k : ℕ) × Only P n k × (p ≡ segment_place s k)
  once_one (unseen e h) not = absurd (not e)
  once_one (seen k o e) not = (k, o, e)

  once_more : {p : ℕ} → Once s P n p → (P n → ⊥) → Once s P (suc n) p
  once_more (unseen e h) not = unseen e (none_more P n h not)
  once_more (seen k o e) not = seen k (only_more P n o not) e

-- ---- a yes or no

-- segments stand one behind the other
place_further : (s : List ℕ) (k : ℕ) → segment_place s k < segment_place s (suc k)
unfolding segment_place
place_further s k = omega arith

places_rise : (s : List ℕ) (k n : ℕ) → k ≤ n → segment_place s k ≤ segment_place s n
places_rise s k zero l =
    let q : k ≡ 0 = omega arith in
    rw q (omega arith)
places_rise s k (suc n) l = pick (dec_lt k (suc n)) (places_rise s k n)
  where
    pick : Dec (k < suc n) → (k ≤ n → segment_place s k ≤ segment_place s n) → segment_place s k ≤ segment_place s (suc n)
    pick (yes m) rises = omega (arith, rises (omega arith), place_further s n)
    pick (no m) rises =
        let q : k ≡ suc n = omega arith in
        rw q (omega arith)

-- t is a yes exactly where one of which P holds stands before a place
abbrev Told : List ℕ → (ℕ → Type 0) → ℕ → Bool → Type 0
Told s P place t = (t ≡ true) ↔ StandsBefore s P place

module _ (s : List ℕ) (P : ℕ → Type 0) (n : ℕ) where
  earlier_stands : StandsBefore s P (segment_place s n) → StandsBefore s P (segment_place s (suc n))
  earlier_stands b = record { segment = b.segment; before = omega (arith, b.before, place_further s n); is = b.is }

  -- before the next segment stand this one and the earlier ones
  stands_earlier : (P n → ⊥) → StandsBefore s P (segment_place s (suc n)) → StandsBefore s P (segment_place s n)
  stands_earlier not b = record { segment = k; before = pick (dec_lt k n); is = b.is }
    where
      k : ℕ
      k = b.segment

      here : Dec (n < k) → (k < n → ⊥) → ⊥
      here (yes l) m = omega (arith, b.before, places_rise s (suc n) k (omega arith))
      here (no l) m =
          let q : k ≡ n = omega arith in
          not (rw q at b.is)

      pick : Dec (k < n) → segment_place s k < segment_place s n
      pick (yes m) = omega (arith, place_further s k, places_rise s (suc k) n (omega arith))
      pick (no m) = absurd (here (dec_lt n k) m)

  -- this one is such: a yes
  told_here : {b : Bool} → P n → b ≡ true → Told s P (segment_place s (suc n)) b
  told_here is e = (λ _. record { segment = n; before = place_further s n; is = is }, λ _. e)

  -- or it is not: what was told of the earlier ones
  told_earlier : {u b : Bool} → Told s P (segment_place s n) u → (P n → ⊥) → b ≡ u → Told s P (segment_place s (suc n)) b
  told_earlier c not e = (λ f. earlier_stands (c.0 (sym e ∙ f)), λ b. e ∙ c.1 (stands_earlier not b))

-- ---- what is known of the segments before the place `at`

abbrev pub Standing : List ℕ → ℕ → Type 0
Standing s k = Marked s CDT k ⊎ Marked s WGT k ⊎ Marked s COM k ⊎ Marked s CRG k

pub record Chain (s : List ℕ) (at : ℕ) (x : Seen) : Type 0 where
  pub count : ℕ
  pub here : at ≡ segment_place s count
  pub kinds : (k : ℕ) → k < count → Standing s k
  pub cdt : Once s (Marked s CDT) count x.cdt
  pub wgt : Once s (Marked s WGT) count x.wgt
  pub crg : Once s (Marked s CRG) count x.crg
  pub behind : (j : ℕ) → j < count → Marked s WGT j → (k : ℕ) × (k < j) × Marked s CDT k
  pub caption : Told s (IsCaption s) at x.caption

module _ (s : List ℕ) (p : ℕ) (x : Seen) (c : Chain s p x) where
  abbrev n : ℕ
  n = c.count

  abbrev m : ℕ
  m = field_at s p 16

  -- the segment at hand is the next, and its marker that of the next
  here_marked : (k : ℕ) → m ≡ k → Marked s k n
  here_marked k e = rw (← c.here) e

  chain_more : (kind : Standing s n) {y : Seen} → Once s (Marked s CDT) (suc n) y.cdt → Once s (Marked s WGT) (suc n) y.wgt → Once s (Marked s CRG) (suc n) y.crg
      → (Marked s WGT n → (k : ℕ) × (k < n) × Marked s CDT k) → Told s (IsCaption s) (segment_place s (suc n)) y.caption → Chain s (p + 2 + field_at s (p + 2) 16) y
  unfolding segment_place
  chain_more kind {y} cdt wgt crg behind caption =
      record {
        count = suc n;
        here = here;
        kinds = λ k l. earlier k l (dec_lt k n);
        cdt = cdt;
        wgt = wgt;
        crg = crg;
        behind = λ j l e. later j l e (dec_lt j n);
        caption = subst (λ (q : ℕ). Told s (IsCaption s) q y.caption) (sym here) caption;
      }
    where
      here : p + 2 + field_at s (p + 2) 16 ≡ segment_place s n + 2 + field_at s (segment_place s n + 2) 16
      here = λ i. c.here i + 2 + field_at s (c.here i + 2) 16

      earlier : (k : ℕ) → k < suc n → Dec (k < n) → Standing s k
      earlier k l (yes a) = c.kinds k a
      earlier k l (no a) =
          let q : k ≡ n = omega arith in
          rw q kind

      later : (j : ℕ) → j < suc n → Marked s WGT j → Dec (j < n) → (k : ℕ) × (k < j) × Marked s CDT k
      later j l e (yes a) = c.behind j a e
      later j l e (no a) =
          let q : j ≡ n = omega arith in
          rw q (behind (rw q at e))

  told : Told s (IsCaption s) (segment_place s n) x.caption
  told = subst (λ (q : ℕ). Told s (IsCaption s) q x.caption) c.here c.caption

  -- two codes
  other : {a b : ℕ} → Marked s a n → (a ≡ b → ⊥) → Marked s b n → ⊥
  other e not f = not (sym e ∙ f)

  module _ (h : Picture) where
    abbrev after : Walk → Type 0
    after w = Chain s w.at w.seen

    accepted_chain : (k : Kind) → Coded m k → first (checks_of k s h x (segment_at s p)) ≡ Fine → after (accepted k s (segment_at s p) x)
    accepted_chain Components code e =
        let none = not_counted x.cdt (held (checks_of Components s h x (segment_at s p)) e).0.most in
        let is = here_marked CDT code in
        chain_more (inl is) (seen n (only_new (Marked s CDT) n (once_none s (Marked s CDT) n c.cdt none) is) c.here)
        (once_more s (Marked s WGT) n c.wgt (other is (λ q. omega arith)))
        (once_more s (Marked s CRG) n c.crg (other is (λ q. omega arith)))
        (λ f. absurd (other is (λ q. omega arith) f))
        (told_earlier s (IsCaption s) n told (λ f. other is (λ q. omega arith) f.0) refl)
    accepted_chain Weights code e =
        let l = held (checks_of Weights s h x (segment_at s p)) e in
        let none = not_counted x.wgt l.0.most in
        let table = once_one s (Marked s CDT) n c.cdt (is_counted x.cdt l.1.0.least) in
        let is = here_marked WGT code in
        chain_more (inr (inl is)) (once_more s (Marked s CDT) n c.cdt (other is (λ q. omega arith)))
        (seen n (only_new (Marked s WGT) n (once_none s (Marked s WGT) n c.wgt none) is) c.here)
        (once_more s (Marked s CRG) n c.crg (other is (λ q. omega arith)))
        (λ f. (table.0, table.1.before, table.1.is))
        (told_earlier s (IsCaption s) n told (λ f. other is (λ q. omega arith) f.0) refl)
    accepted_chain Extension code e =
        let is = here_marked COM code in
        chain_more (inr (inr (inl is))) (once_more s (Marked s CDT) n c.cdt (other is (λ q. omega arith)))
        (once_more s (Marked s WGT) n c.wgt (other is (λ q. omega arith)))
        (once_more s (Marked s CRG) n c.crg (other is (λ q. omega arith)))
        (λ f. absurd (other is (λ q. omega arith) f))
        (extended is (is_caption s p) refl)
      where
        typed : type_at s p ≡ CAPTION → type_at s (segment_place s n) ≡ CAPTION
        typed e = rw (← c.here) e

        untyped : type_at s (segment_place s n) ≡ CAPTION → type_at s p ≡ CAPTION
        untyped e = rw c.here e

        extended : Marked s COM n → (t : Bool) → t ≡ is_caption s p → Told s (IsCaption s) (segment_place s (suc n)) (accepted Extension s (segment_at s p) x).seen.caption
        extended is true t = told_here s (IsCaption s) n (is, typed (omega (arith, sym t, eqb-true))) (rw (← t) refl)
        extended is false t = told_earlier s (IsCaption s) n told (λ f. omega (arith, sym t, eqb-false, untyped f.1)) (rw (← t) refl)
    accepted_chain Undecomposed code e =
        let l = (held (checks_of Undecomposed s h x (segment_at s p)) e).1.1.1.1 in
        absurd (omega (arith, l.0.least, l.1.1.0.most))
    accepted_chain Registration code e =
        let none = not_counted x.crg (held (checks_of Registration s h x (segment_at s p)) e).0.most in
        let is = here_marked CRG code in
        chain_more (inr (inr (inr is))) (once_more s (Marked s CDT) n c.cdt (other is (λ q. omega arith)))
        (once_more s (Marked s WGT) n c.wgt (other is (λ q. omega arith)))
        (seen n (only_new (Marked s CRG) n (once_none s (Marked s CRG) n c.crg none) is) c.here)
        (λ f. absurd (other is (λ q. omega arith) f))
        (told_earlier s (IsCaption s) n told (λ f. other is (λ q. omega arith) f.0) refl)
    accepted_chain (Unbuilt f) code e = c
    accepted_chain Slice code e = c
    accepted_chain Predicted code e = c
    accepted_chain Unknown code e = c

    judged_chain : (v : Verdict) (k : Kind) → Coded m k → (v ≡ Fine → first (checks_of k s h x (segment_at s p)) ≡ Fine) → after (judged v k s (segment_at s p) x)
    judged_chain (Ok _) k code f = accepted_chain k code (f refl)
    judged_chain (Err d) k code f = c

-- ---- the whole walk

module _ (s : List ℕ) (h : Picture) where
  step_chain : (w : Walk) → Chain s w.at w.seen → Chain s (step s h w).at (step s h w).seen
  unfolding step
  step_chain w c =
      let g = segment_at s w.at in
      let k = kind_of g.marker in
      judged_chain s w.at w.seen c h (first (segment_checks s h w.seen g)) k (coded g.marker) (λ e. (append_fine (head_checks g) (checks_of k s h w.seen g) e).1)

  -- before any segment
  unseen_chain : Chain s (picture_place s + 28) none_seen
  unfolding segment_place
  unseen_chain =
      let none : (P : ℕ → Type 0) → None P 0 = λ P k l i. omega arith in
      record {
        count = 0;
        here = refl;
        kinds = λ k l. absurd (omega arith);
        cdt = unseen refl (none (Marked s CDT));
        wgt = unseen refl (none (Marked s WGT));
        crg = unseen refl (none (Marked s CRG));
        behind = λ k l. absurd (omega arith);
        caption = (λ e. clash (sym e), λ b. absurd (omega (arith, b.before, places_rise s 0 b.segment (omega arith))));
      }

  pub walk_chain : Chain s (walk s h (picture_place s + 28)).at (walk s h (picture_place s + 28)).seen
  walk_chain =
      (walk_keeps_or s h (λ w. Chain s w.at w.seen) step_chain (ended Fine (picture_place s + 28) none_seen) refl unseen_chain (picture_place s + 28) unseen_chain).0
