-- A loop of Table E.1 in place: with depth d reached, the band LL of that depth stands in its places, and the turns that are left make of it
-- what all turns make of the first. Of one row in the first loop, and of all samples in the second. Assumes nothing.
use mathlib.Core.Path.{◌≡◌, refl, sym, ap, ◌∙◌}
use mathlib.Core.List.{List}
use Prim.Native.Nat.{ℕ, suc, ◌+◌, ◌*◌, ◌-◌, ◌/◌, ◌%◌, ◌^◌, ◌≤◌, ◌<◌, min}
use native.Mathlib.Nat.{pow-suc, mul_assoc, mul_comm, mul-one, mul-mod_left, div-add-mod', le_trans, le-mul_of_pos_right, one-le-pow, mul-le-mul_left, pow-le-pow_right}
use native.Mathlib.Decide.{ℕ_discrete}
use native.Mathlib.Omega.{arith}
use lib.Dec.{lit≤}
use lib.Pow.{pow_pos}
use lib.IntN.{ℤ, nat_abs}
use lib.ListN.{length}
use Rattle.whole.specs.Cells.{cell, OntoLine}
use Rattle.wavelet.specs.Filter.{Steps, filter}
use Rattle.wavelet.specs.Transform.{Band, low_size, down, table_E1, inverse}
use Rattle.wavelet.specs.Places.{sample_at, place, Component, TransformedBy}
use Rattle.wavelet.specs.Lines.{line, Line}
use Rattle.wavelet.specs.Grids.{Gridded, Pass, Row, SamplesWithin, RowLevels, AcrossLevels, BothLevels, row_turn, both_turn, level_band}
use Rattle.wavelet.proofs.Halves.{below_size, size_above}
use Rattle.wavelet.proofs.Tame.{Tame, thrice}
use Rattle.wavelet.proofs.Levels.{row_level, both_level, low_place}
use Rattle.wavelet.proofs.Passes.{level_size}

-- the next turn of a loop that counts down
pub down_turn : {S : Type 0} (turn : ℕ → S → S) (to : ℕ) {d e : ℕ} (s : S) → d ≡ suc e → to < d → down turn to (d - to) s ≡ down turn to (e - to) (turn d s)
unfolding down
down_turn turn to {d} {e} s p h =
    let q : d - to ≡ suc (e - to) = omega arith in
    let r : to + suc (e - to) ≡ d = omega arith in
    rw q (ap (λ (n : ℕ). down turn to (e - to) (turn n s)) r)

pub down_none : {S : Type 0} (turn : ℕ → S → S) (to d : ℕ) (s : S) → d ≤ to → down turn to (d - to) s ≡ s
unfolding down
down_none turn to d s h =
    let p : d - to ≡ 0 = omega arith in
    rw p

more_room : (b k m n : ℕ) → m ≡ suc n → b * k ^ m ≡ k * b * k ^ n
more_room b k m n e = rw (e, pow-suc, ← mul_assoc b (k ^ n) k) (mul_comm (b * k ^ n) k ∙ sym (mul_assoc k b (k ^ n)))

-- the invariant: sizes grow by k at most with each turn, and have room for the turns that are left
pub record Descending {X : Type 0} (Stands : ℕ → X → Type 0) (Sized : ℕ → Type 0) (turn : ℕ → X → X) (to n : ℕ) (first : X) (k B d : ℕ) : Type 0 where
  pub low : X
  pub least : to ≤ d
  pub most : d ≤ to + n
  pub stands : Stands d low
  pub left : down turn to (d - to) low ≡ down turn to n first
  pub bound : ℕ
  pub within : Sized bound
  pub room : bound * k ^ (d - to) ≤ B

module _ {X : Type 0} {Stands : ℕ → X → Type 0} {Sized : ℕ → Type 0} {turn : ℕ → X → X} {to n : ℕ} {first : X} {k B : ℕ} where
  pub descent_begins : (d b : ℕ) → d ≡ to + n → Stands d first → Sized b → b * k ^ n ≤ B → Descending Stands Sized turn to n first k B d
  descent_begins d b e g s r =
      let p : d - to ≡ n = omega arith in
      record { low = first; least = omega arith; most = omega arith; stands = g; left = rw p refl; bound = b; within = s; room = rw p r }

  module _ {d : ℕ} (I : Descending Stands Sized turn to n first k B d) where
    pub descent_goes_on : {Stands' : ℕ → X → Type 0} {Sized' : ℕ → Type 0} (e : ℕ) → d ≡ suc e → to < d
        → Stands' e (turn d I.low) → Sized' (k * I.bound) → Descending Stands' Sized' turn to n first k B e
    descent_goes_on e p h g s = record {
      low = turn d I.low;
      least = omega arith;
      most = omega (arith, I.most);
      stands = g;
      left = sym (down_turn turn to I.low p h) ∙ I.left;
      bound = k * I.bound;
      within = s;
      room = rw (more_room I.bound k (d - to) (e - to) (omega arith)) at I.room;
    }

    pub descent_ends : d ≤ to → Stands to (down turn to n first)
    descent_ends h =
        let p : d ≡ to = omega (arith, I.least) in
        rw (← sym (down_none turn to d I.low h) ∙ I.left, ← p) I.stands

    pub descent_bound : 0 < k → I.bound ≤ B
    descent_bound up = le_trans (le-mul_of_pos_right I.bound (one-le-pow (d - to) k up)) I.room

-- ---- the levels of one row

abbrev RowStands : ℕ → ℕ → List ℤ → List ℤ → ℕ → (ℕ → ℤ) → Type 0
RowStands w base l₀ l d low = OntoLine base (2 ^ d) (low_size w d) low l₀ l

abbrev RowSized : ℕ → ℕ → List ℤ → ℕ → Type 0
RowSized w base l B = (c : ℕ) → c < w → nat_abs (cell l (base + c)) ≤ B

abbrev pub RowDescending : Steps ℤ → ℕ → ℕ → ℕ → ℕ → List ℤ → List ℤ → ℕ → Type 0
RowDescending S w base nx ny l₀ l =
    Descending (RowStands w base l₀ l) (RowSized w base l) (row_turn S w (line base 1 l₀)) ny (nx - ny) (λ i. line base 1 l₀ (place 0 nx i)) 3 (2 ^ 48)

module _ {w base nx ny : ℕ} {l₀ : List ℤ} (R : Row w base nx ny (2 ^ 40) l₀) where
  row_room : 2 ^ 40 * 3 ^ (nx - ny) ≤ 2 ^ 48
  row_room = le_trans (mul-le-mul_left (2 ^ 40) (pow-le-pow_right {n = 3} (omega arith) {i = nx - ny} {j = 5} (omega (arith, R.levels)))) (lit≤ tt)

  pub row_begins : (S : Steps ℤ) → RowDescending S w base nx ny l₀ l₀ nx
  row_begins S =
      descent_begins nx (2 ^ 40) (omega (arith, R.fewer))
      (record { same = refl; on = λ i h. ap (λ (c : ℕ). cell l₀ (base + c)) (low_place nx i ∙ sym (mul-one (place 0 nx i))); off = λ j never. refl })
      R.most row_room

  module _ {S : Steps ℤ} (T : Tame S) {l : List ℤ} {d : ℕ} (I : RowDescending S w base nx ny l₀ l d) where
    pub row_length : length l ≡ length l₀
    row_length = I.stands.same

    module _ (above : ny < d) where
      depth : d - 1 < nx
      depth = omega (arith, I.most, R.fewer)

      pub row_line : Line base (2 ^ (d - 1)) (low_size w (d - 1)) (2 ^ 60) l
      row_line = record {
        two = R.two (d - 1) depth;
        stride_up = pow_pos (d - 1);
        inside = λ k h. omega (arith, row_length, R.inside, below_size (pow_pos (d - 1)) w k h);
        most = λ k h. omega (arith, I.within (k * 2 ^ (d - 1)) (below_size (pow_pos (d - 1)) w k h), descent_bound I (omega arith));
      }

      pub row_goes_on : {l' : List ℤ} → OntoLine base (2 ^ (d - 1)) (low_size w (d - 1)) (filter S (low_size w (d - 1)) (line base (2 ^ (d - 1)) l)) l l'
          → RowDescending S w base nx ny l₀ l' (d - 1)
      row_goes_on {l'} pass =
          let p : d ≡ suc (d - 1) = omega arith in
          descent_goes_on I (d - 1) p above
          (rw (← p) at (row_level S w base (d - 1) (R.two (d - 1) depth) (rw (p, pow-suc) at I.stands) pass))
          (λ c hc. pick c hc (ℕ_discrete (c % 2 ^ (d - 1)) 0))
        where
          grown : (k : ℕ) → k < low_size w (d - 1) → nat_abs (line base (2 ^ (d - 1)) l' k) ≤ 3 * I.bound
          grown k h =
              rw (pass.on k h)
              (thrice T (low_size w (d - 1)) (R.two (d - 1) depth) (line base (2 ^ (d - 1)) l) (λ i hi. I.within (i * 2 ^ (d - 1)) (below_size (pow_pos (d - 1)) w i hi)) k h)

          pick : (c : ℕ) → c < w → Dec (c % 2 ^ (d - 1) ≡ 0) → nat_abs (cell l' (base + c)) ≤ 3 * I.bound
          pick c hc (yes e) =
              let m : c ≡ c / 2 ^ (d - 1) * 2 ^ (d - 1) = omega (arith, div-add-mod' c (2 ^ (d - 1))) in
              rw m (grown (c / 2 ^ (d - 1)) (size_above (pow_pos (d - 1)) w (c / 2 ^ (d - 1)) (omega arith)))
          pick c hc (no o) =
              omega (arith, ap nat_abs (pass.off (base + c) (λ k h e. let m : c ≡ k * 2 ^ (d - 1) = omega arith in o (rw m (mul-mod_left k (2 ^ (d - 1)))))), I.within c hc)

    pub row_ends : d ≤ ny → RowLevels S w base nx ny (2 ^ 48) l₀ l
    row_ends h = record { made = descent_ends I h; within = λ c hc. le_trans (I.within c hc) (descent_bound I (omega arith)) }

-- ---- the levels of both directions

abbrev pub BothDescending : Steps ℤ → ℕ → ℕ → ℕ → Band ℤ → List ℤ → List ℤ → ℕ → Type 0
BothDescending S w h ny low l₀ l =
    Descending (λ (d : ℕ) (band : Band ℤ). Gridded w h (2 ^ d) (2 ^ d) band l₀ l) (λ (B : ℕ). SamplesWithin w h B l) (both_turn S w h l₀) 0 ny low 9 (2 ^ 55)

module _ {w h nx ny len : ℕ} (C : Component w h nx ny len) where
  both_room : 2 ^ 48 * 9 ^ ny ≤ 2 ^ 55
  both_room = le_trans (mul-le-mul_left (2 ^ 48) (pow-le-pow_right {n = 9} (omega arith) {i = ny} {j = 2} C.fewer)) (lit≤ tt)

  pub both_begins : (S : Steps ℤ) {l₀ l : List ℤ} {low : Band ℤ} → Gridded w h (2 ^ ny) (2 ^ ny) low l₀ l → SamplesWithin w h (2 ^ 48) l → BothDescending S w h ny low l₀ l ny
  both_begins S g s = descent_begins ny (2 ^ 48) (omega arith) g s both_room

  pub both_pass : {d len' : ℕ} → len' ≡ len → 0 < d → d ≤ ny → Pass w h (d - 1) len'
  both_pass {d} e above most = record {
    sheet = rw e C.sheet;
    depth = omega (arith, C.fewer);
    two_across = C.parts.two_across (d - 1) (omega (arith, C.parts.no_more));
    two_down = C.parts.two_down (d - 1) (omega arith);
  }

  module _ {S : Steps ℤ} (T : Tame S) {l₀ l l' : List ℤ} {low : Band ℤ} {d : ℕ} (I : BothDescending S w h ny low l₀ l d) (above : 0 < d) where
    pub both_goes_on : Gridded w h (2 ^ (d - 1)) (2 ^ (d - 1)) (level_band S w h (d - 1) l) l l' → BothDescending S w h ny low l₀ l' (d - 1)
    both_goes_on pass =
        let p : d ≡ suc (d - 1) = omega arith in
        let two : Pass w h (d - 1) len = both_pass refl above (omega (arith, I.most)) in
        descent_goes_on I (d - 1) p above
        (rw (← p) at (both_level S w h (d - 1) two.two_across two.two_down (rw (p, pow-suc) at I.stands) pass))
        (level_size two T I.within pass)

  -- the two loops make Table E.1's output
  pub table_made : (S : Steps ℤ) {l l₁ l₂ : List ℤ} → AcrossLevels S w h nx ny (2 ^ 48) l l₁ → BothLevels S w h ny l₁ l₂ → TransformedBy S w h nx ny l l₂
  unfolding inverse table_E1
  table_made S {l} {l₁} {l₂} first second =
      let e : min nx ny ≡ ny = omega (arith, C.parts.no_more) in
      let g = second.made first.made in
      record {
        same = g.same;
        made = λ x y hx hy. rw e (rw (mul-one, mul-one) at (g.on x y (rw mul-one hx) (rw mul-one hy)));
      }

-- a component's cells, with nothing done yet
pub standing : (w h d : ℕ) (l : List ℤ) → Gridded w h (2 ^ d) (2 ^ d) (λ x y. sample_at w l (x * 2 ^ d) (y * 2 ^ d)) l l
standing w h d l = record { same = refl; on = λ x y hx hy. refl; off = λ c r hc hr never. refl }
