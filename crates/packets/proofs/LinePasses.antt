-- Laws of the passes. Assumes nothing.
use Rattle.counts.specs.declared.Counted.{Counted}
use Rattle.std.specs.Prelude.{Ok, Err}
use mathlib.Core.Path.{◌≡◌, refl, sym, ap, ◌∙◌}
use mathlib.Core.Bool.{Bool, true, false, not, cond, ◌&&◌, ◌||◌}
use mathlib.Core.List.{List}
use Prim.Native.Nat.{ℕ, zero, suc, ◌+◌, ◌*◌, ◌/◌, ◌%◌, ◌^◌, ◌≤◌, ◌<◌}
use native.Mathlib.Omega.{arith}
use native.Mathlib.Nat.{add-zero}
use native.Mathlib.Numerals.{add-one}
use native.Mathlib.Decide.{dec_lt}
use borrow.Author.Tests.{eq-eqb, ne_eqb, eqb-false}
use lib.Dec.{eqb}
use lib.IntN.{ℤ}
use lib.ListN.{get_or}
use lib.Pow.{pow_mono}
use Rattle.loops.specs.Run.{go}
use Rattle.bits.specs.Fields.{field, IsField}
use Rattle.layout.specs.declared.Line.{Line}
use Rattle.layout.specs.Headers.{mode_bit, truncation}
use Rattle.layout.specs.Cells.{start}
use Rattle.counts.specs.declared.group.Coding.{Coding}
use Rattle.counts.specs.declared.group.Mode.TheVariants.{NoPrediction, Vertical}
use Rattle.counts.specs.Lines.{Line as LineCounts}
use Rattle.counts.specs.Lines.{line_counts, Ready}
use Rattle.counts.proofs.Laws.{done_need}
use Rattle.values.specs.declared.Next.{Next}
use Rattle.values.specs.Line.{line_values, Fit}
use Rattle.values.proofs.Lines.{nibbles_most}
use Rattle.values.proofs.Laws.{line_nibbles, line_signs}
use Rattle.packets.specs.declared.Setting.{Setting}
use Rattle.packets.specs.declared.Precinct.{Precinct}
use Rattle.packets.specs.Precincts.{D, T}
use Rattle.packets.specs.Ready.{Settled, Standing}
use Rattle.packets.specs.Passes.{line, flags, marks, mode_of, coding_of, place_of, counted, count_turn, values_of, valued, value_turn}
use Rattle.packets.specs.Packets.{any_line}
use Rattle.packets.specs.Steps.{Lies, IsMode, IsTruncation, count_line, value_line}

-- ---- what the precinct header says of a band

pub mode_is : (s : List ℕ) (c : Setting) (p : Precinct) (b : ℕ) {q r : ℕ} → q ≡ mode_bit c.shape b → IsField s (8 * p.at + q) 2 r → IsMode s c p b r
unfolding D
mode_is s c p b e f = record { value = f.value ∙ ap (λ (q : ℕ). field s (8 * p.at + q) 2) e; below = f.below }

pub truncation_is : (c : Setting) (p : Precinct) (b : ℕ) {r : ℕ}
    → r ≡ truncation p.q p.r (get_or c.gains b 0) (get_or c.priorities b 0) c.br → r ≤ 31 → IsTruncation c p b r
unfolding T
truncation_is c p b e h = record { value = e; most = h }

pub T_most : (c : Setting) (p : Precinct) (b : ℕ) → Settled c → T c p b ≤ 31
unfolding T
T_most c p b h = omega (arith, pow_mono {i = c.br} {j = 5} h.br)

-- ---- is there a line?

module _ (c : Setting) (p : Precinct) (slot : ℕ) where
  or_true : (a : Bool) → a || true ≡ true
  or_true true = refl
  or_true false = refl

  pub any_later : (j n : ℕ) → j < n → (line c p slot j).present ≡ true → any_line c p slot n ≡ true
  unfolding any_line
  any_later j zero h e = absurd (omega arith)
  any_later j (suc n) h e = pick (dec_lt j n) (λ l. any_later j n l e)
    where
      pick : Dec (j < n) → (j < n → any_line c p slot n ≡ true) → any_line c p slot n || (line c p slot n).present ≡ true
      pick (yes l) before = rw (before l)
      pick (no l) before =
          let q : j ≡ n = omega arith in
          rw (← q, e) (or_true (any_line c p slot j))

  pub any_none : any_line c p slot 0 ≡ false
  unfolding any_line
  any_none = refl

  pub any_more : (j : ℕ) {l : Line} → any_line c p slot j ≡ false → l ≡ line c p slot j → l.present ≡ false → any_line c p slot (j + 1) ≡ false
  unfolding any_line
  any_more j e q f = rw (add-one j, e) (ap (λ (l : Line). l.present) (sym q) ∙ f)

-- ---- significance flags

module _ (s : List ℕ) (c : Setting) (p : Precinct) where
  raw_none : (a e : Bool) (m : ℕ) → cond (a && not true && e) m 0 ≡ 0
  raw_none true e m = refl
  raw_none false e m = refl

  pub flags_raw : (l : Line) {raw : Bool} → raw ≡ true → 0 ≡ flags s c p raw l
  flags_raw l h = rw h (sym (raw_none l.present (eqb (D s c p l.band / 2) 1) l.marks))

  pub flags_absent : (l : Line) (raw : Bool) → l.present ≡ false → 0 ≡ flags s c p raw l
  flags_absent l raw h = rw h

  pub flags_there : (l : Line) {raw : Bool} {d : ℕ} → l.present ≡ true → raw ≡ false → d ≡ D s c p l.band → d / 2 ≡ 1 → l.marks ≡ flags s c p raw l
  flags_there l h f e g = rw (h, f, ← e, eq-eqb _ 1 g)

  plain_none : (a raw : Bool) (m : ℕ) → cond (a && not raw && false) m 0 ≡ 0
  plain_none true true m = refl
  plain_none true false m = refl
  plain_none false raw m = refl

  pub flags_plain : (l : Line) (raw : Bool) {d : ℕ} → d ≡ D s c p l.band → (d / 2 ≡ 1 → ⊥) → 0 ≡ flags s c p raw l
  flags_plain l raw e g = rw (← e, ne_eqb _ 1 g) (sym (plain_none l.present raw l.marks))

  module _ (slot : ℕ) (raw : Bool) where
    pub marks_none : 0 ≡ marks s c p slot raw 0
    unfolding marks
    marks_none = refl

    pub marks_more : (j : ℕ) {l : Line} {a r : ℕ} → a ≡ marks s c p slot raw j → l ≡ line c p slot j → r ≡ flags s c p raw l → a + r ≡ marks s c p slot raw (j + 1)
    unfolding marks
    marks_more j {a = a} e q f = rw (add-one j, e) (ap (λ (n : ℕ). marks s c p slot raw j + n) (f ∙ ap (flags s c p raw) q))

-- ---- a line of counts

pub vertical_odd : (raw : Bool) (d : ℕ) → mode_of raw d ≡ Vertical → d % 2 ≡ 1
vertical_odd true d e = let z : ◌≡◌ {A = ℕ} 0 1 = cc in absurd (omega arith)
vertical_odd false d e = pick (eqb (d % 2) 0) refl e
  where
    pick : (b : Bool) → eqb (d % 2) 0 ≡ b → cond b NoPrediction Vertical ≡ Vertical → d % 2 ≡ 1
    pick true f e = let z : ◌≡◌ {A = ℕ} 0 1 = cc in absurd (omega arith)
    pick false f e = omega (arith, eqb-false (d % 2) 0 f)

pub count_ready : (s : List ℕ) (c : Setting) (p : Precinct) (raw : Bool) (l : Line) {k : Coding} {bytes z n : ℕ} → k ≡ coding_of s c p raw l.band
    → Settled c → Standing s c p n → Lies c.shape p.row l → bytes < 2 ^ 56 → z < 2 ^ 60 → Ready k (place_of l) bytes z n
count_ready s c p raw l {n = n} e set at lies short near = rw e (record {
  br = set.br;
  t = T_most c p l.band set;
  short = short;
  narrow = omega (arith, lies.narrow);
  near = near;
  inside = λ x h. omega (arith, lies.inside x h, at.room);
  above = λ v. lies.above (at.predicted l.band lies.band lies.exists (vertical_odd raw (D s c p l.band) v));
})

module _ (s : List ℕ) (c : Setting) (p : Precinct) (cnt sig : List ℕ) (raw : Bool) where
  pub count_there : (l : Line) (at z : ℕ) (cells : List ℤ) {k : Coding} {r : LineCounts} {cells' : List ℤ} → l.present ≡ true → k ≡ coding_of s c p raw l.band
      → line_counts cnt sig k (place_of l) at z cells ≡ (r, cells') → count_line s c p cnt sig raw l at z cells ≡ (r, cells')
  count_there l at z cells h e f = rw h (rw e at f)

  pub count_absent : (l : Line) (at z : ℕ) (cells : List ℤ) → l.present ≡ false → count_line s c p cnt sig raw l at z cells ≡ (Ok (record { next = at; need = 0 }), cells)
  count_absent l at z cells h = rw h

  asked : LineCounts → ℕ
  asked (Ok k) = k.need
  asked (Err f) = 0

  -- a line asks for few nibbles
  pub count_few : (l : Line) (at z : ℕ) (cells : List ℤ) {r : LineCounts} {cells' : List ℤ} {k : Counted} → (l.present ≡ true → Lies c.shape p.row l)
      → count_line s c p cnt sig raw l at z cells ≡ (r, cells') → r ≡ Ok k → k.need ≤ 2 ^ 36
  unfolding asked
  count_few l at z cells {r} {cells'} {k} lies e f = pick l.present refl (e ∙ ap (λ (r : LineCounts). (r, cells')) f)
    where
      pick : (b : Bool) → l.present ≡ b → cond b (line_counts cnt sig (coding_of s c p raw l.band) (place_of l) at z cells) (Ok (record { next = at; need = 0 }), cells) ≡ (Ok k, cells') → k.need ≤ 2 ^ 36
      pick true h e = omega (arith, done_need cnt sig (coding_of s c p raw l.band) (place_of l) at z cells e, (lies h).narrow)
      pick false h e =
          let none : 0 ≡ k.need = ap (λ (x : LineCounts × List ℤ). asked x.0) e in
          omega arith

  -- a turn, as the code takes it
  by_present : (b : Bool) (need at : ℕ) (a : LineCounts × List ℤ) (cells : List ℤ) → cond b (counted need a) (go (at, need, cells)) ≡ counted need (cond b a (Ok (record { next = at; need = 0 }), cells))
  by_present true need at a cells = refl
  by_present false need at a cells = ap (λ (n : ℕ). go (at, n, cells)) (sym (add-zero need))

  pub count_turn_lem : (slot j at need : ℕ) (cells : List ℤ) {l : Line} {z : ℕ} {r y : LineCounts} {cells' : List ℤ} → l ≡ line c p slot j → z ≡ marks s c p slot raw j
      → count_line s c p cnt sig raw l at z cells ≡ (r, cells') → r ≡ y → count_turn s c p slot cnt sig raw j (at, need, cells) ≡ counted need (y, cells')
  unfolding count_turn
  count_turn_lem slot j at need cells {cells' = cells'} e q f g =
      by_present (line c p slot j).present need at _ cells
      ∙ ap (counted need) (rw (e, q) at f ∙ ap (λ (r : LineCounts). (r, cells')) g)

-- ---- a line of values

pub value_fit : (c : Setting) (row : ℕ) (l : Line) {t n : ℕ} {from : Next} → Settled c → Lies c.shape row l → start c.shape c.shape.nc ≤ n → from.at < 2 ^ 62 → from.sign < 2 ^ 62
    → Fit (values_of c) (record { first = l.cell; stride = l.stride; width = l.width; area = l.area; t = t }) from n
value_fit c row l set lies room at sign = record {
  inside = λ x h. omega (arith, lies.inside x h);
  apart = lies.apart;
  width = lies.narrow;
  at = at;
  sign = sign;
  fq = set.fq;
}

module _ (c : Setting) (p : Precinct) (dat sgn : List ℕ) where
  pub value_there : (l : Line) (from : Next) (cells : List ℤ) {t : ℕ} {r : Next} {cells' : List ℤ} → l.present ≡ true → t ≡ T c p l.band
      → line_values dat sgn (values_of c) (record { first = l.cell; stride = l.stride; width = l.width; area = l.area; t = t }) from cells ≡ (r, cells')
      → value_line c p dat sgn l from cells ≡ (r, cells')
  value_there l from cells h e f = rw h (rw e at f)

  pub value_absent : (l : Line) (from : Next) (cells : List ℤ) → l.present ≡ false → value_line c p dat sgn l from cells ≡ (from, cells)
  value_absent l from cells h = rw h

  -- a line takes few nibbles and few signs
  pub value_few : (l : Line) (from : Next) (cells : List ℤ) {r : Next} {cells' : List ℤ} → (l.present ≡ true → Lies c.shape p.row l)
      → value_line c p dat sgn l from cells ≡ (r, cells') → (r.at ≤ from.at + 2 ^ 36) × (r.sign ≤ from.sign + 2 ^ 36)
  value_few l from cells {r} {cells'} lies e = pick l.present refl e
    where
      pick : (b : Bool) → l.present ≡ b → cond b (line_values dat sgn (values_of c) (valued c p l) from cells) (from, cells) ≡ (r, cells')
          → (r.at ≤ from.at + 2 ^ 36) × (r.sign ≤ from.sign + 2 ^ 36)
      pick true h e = (
        omega (arith, line_nibbles dat sgn (values_of c) (valued c p l) from cells e, nibbles_most (valued c p l) cells c.fs ((l.width + 3) / 4), (lies h).narrow),
        omega (arith, (line_signs dat sgn (values_of c) (valued c p l) from cells e).1, (lies h).narrow),
      )
      pick false h e =
          let q : from ≡ r = ap (λ (x : Next × List ℤ). x.0) e in
          (omega (arith, ap (λ (x : Next). x.at) q), omega (arith, ap (λ (x : Next). x.sign) q))

  pub value_turn_lem : (slot j : ℕ) (from : Next) (cells : List ℤ) {l : Line} {r : Next} {cells' : List ℤ} → l ≡ line c p slot j
      → value_line c p dat sgn l from cells ≡ (r, cells') → value_turn c p slot dat sgn j (from, cells) ≡ go (r, cells')
  unfolding value_turn
  value_turn_lem slot j from cells e f = ap go (rw e at f)

-- ---- what a pass keeps

pub standing_still : {s : List ℕ} {c : Setting} {p : Precinct} {n k : ℕ} → Standing s c p n → k ≡ n → Standing s c p k
standing_still h e = rw e h
