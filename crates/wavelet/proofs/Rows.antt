-- The first loop of Table E.1 goes along rows alone. So the rows may take all of its levels one after another, each row while it is at hand.
-- Assumes nothing.
use mathlib.Core.Path.{◌≡◌, refl, sym, ap, ◌∙◌}
use mathlib.Core.List.{List}
use Prim.Native.Nat.{ℕ, zero, suc, ◌+◌, ◌*◌, ◌-◌, ◌^◌, ◌≤◌, ◌<◌}
use native.Mathlib.Nat.{mul-one, eq_of_mul-eq-mul_right}
use native.Mathlib.Decide.{ℕ_discrete}
use native.Mathlib.Omega.{arith}
use lib.Arith.{digits_lt}
use lib.Pow.{pow_pos}
use lib.IntN.{ℤ, nat_abs}
use lib.ListN.{length}
use Rattle.whole.specs.Cells.{cell, Onto}
use Rattle.wavelet.specs.Filter.{Steps, filter}
use Rattle.wavelet.specs.Transform.{LL, Band, low_size, woven, hor_transform, down}
use Rattle.wavelet.specs.Places.{sample_at, place, bands, Component}
use Rattle.wavelet.specs.Lines.{line}
use Rattle.wavelet.specs.Grids.{Row, SamplesWithin, RowLevels, AcrossLevels, across_turn, row_turn, row_low}
use Rattle.wavelet.proofs.Halves.{low_half, below_size, size_above, low_inside, high_inside}
use Rattle.wavelet.proofs.Related.{equal, woven_keeps}
use Rattle.wavelet.proofs.Transforms.{down_keeps}
use Rattle.whole.proofs.Filling.{onto_turn}
use Rattle.wavelet.proofs.Levels.{low_place}
use Rattle.wavelet.proofs.Passes.{one_place, row_start}

-- ---- a row of the bands is the levels of the row

module _ (S : Steps ℤ) (w h ny : ℕ) (l : List ℤ) (y : ℕ) where
  abbrev X : ℕ → ℤ
  X = line (y * (w * 2 ^ ny)) 1 l

  at_row : (c : ℕ) → place 0 ny y * w + c ≡ y * (w * 2 ^ ny) + c * 1
  at_row c = ap (λ (r : ℕ). r * w + c) (sym (low_place ny y)) ∙ ap (λ (r : ℕ). r + c) (sym (row_start w ny y)) ∙ ap (λ (e : ℕ). y * (w * 2 ^ ny) + e) (sym (mul-one c))

  turn_row : (d : ℕ) (low : Band ℤ) → (λ (x : ℕ). across_turn S w h ny l d low x y) ≡ row_turn S w X d (λ x. low x y)
  unfolding hor_transform
  turn_row d low = λ i x. filter S (low_size w (d - 1)) (woven (λ k. low k y) (λ k. cell l (at_row (place 1 d k) i))) x

  down_row : (n : ℕ) (low : Band ℤ) → (λ (x : ℕ). down (across_turn S w h ny l) ny n low x y) ≡ down (row_turn S w X) ny n (λ x. low x y)
  unfolding down
  down_row zero low = refl
  down_row (suc n) low = down_row n (across_turn S w h ny l (ny + suc n) low) ∙ ap (down (row_turn S w X) ny n) (turn_row (ny + suc n) low)

  across_row : (nx x : ℕ) → down (across_turn S w h ny l) ny (nx - ny) (bands (sample_at w l) LL nx ny) x y ≡ row_low S w nx ny X x
  across_row nx x =
      ap (λ (f : ℕ → ℤ). f x) (down_row (nx - ny) (bands (sample_at w l) LL nx ny))
      ∙ (λ i. down (row_turn S w X) ny (nx - ny) (λ k. cell l (at_row (place 0 nx k) i)) x)

-- it depends on the row's own cells
row_same : (S : Steps ℤ) (w nx ny : ℕ) → ny ≤ nx → ((d : ℕ) → d < nx → 2 ≤ low_size w d) → (A B : ℕ → ℤ) → ((c : ℕ) → c < w → A c ≡ B c)
    → (i : ℕ) → i < low_size w ny → row_low S w nx ny A i ≡ row_low S w nx ny B i
row_same S w nx ny fewer two A B same =
    down_keeps Alike (row_turn S w A) (row_turn S w B) (row_turn S w B) ny (nx - ny)
    (λ d s s' s'' l h p i b.
    woven_keeps (equal S) (low_size w (d - 1)) (two (d - 1) (omega arith)) {a'' = s'} {h'' = λ k. B (place 1 d k)} (λ k e. p k (rw (low_half w d (omega arith)) at e))
    (λ k e. same (place 1 d k) (high_inside w d k (omega arith) e)) i b)
    {s'' = λ i. B (place 0 nx i)}
    (λ i b. same (place 0 nx i) (low_inside w nx i (rw all at b)))
  where
    all : ny + (nx - ny) ≡ nx
    all = omega arith

    Alike : ℕ → (ℕ → ℤ) → (ℕ → ℤ) → (ℕ → ℤ) → Type 0
    Alike d s s' _ = (i : ℕ) → i < low_size w d → s i ≡ s' i

-- ---- the loop over the rows

pub record AcrossDone (S : Steps ℤ) (w h nx ny q : ℕ) (x y : List ℤ) : Type 0 where
  pub most : q ≤ low_size h ny
  pub onto : Onto {I = ℕ × ℕ} (λ i. i.0 * (w * 2 ^ ny) + i.1 * 2 ^ ny) (λ i. (i.0 < q) × (i.1 < low_size w ny))
      (λ i. row_low S w nx ny (line (i.0 * (w * 2 ^ ny)) 1 x) i.1) x y
  pub within : SamplesWithin w h (2 ^ 48) y

module _ {w h nx ny : ℕ} {x : List ℤ} (C : Component w h nx ny (length x)) (W : SamplesWithin w h (2 ^ 40) x) where
  row_at : (q c : ℕ) → q * (w * 2 ^ ny) + c ≡ q * 2 ^ ny * w + c
  row_at q c = ap (λ (r : ℕ). r + c) (row_start w ny q)

  one_row : (q c q' c' : ℕ) → c < w → c' < w → q * (w * 2 ^ ny) + c ≡ q' * (w * 2 ^ ny) + c' → q ≡ q'
  one_row q c q' c' hc hc' e =
      eq_of_mul-eq-mul_right (2 ^ ny) (pow_pos ny) q q' (one_place (q * 2 ^ ny) c (q' * 2 ^ ny) c' hc hc' (sym (row_at q c) ∙ e ∙ row_at q' c')).0

  in_row : (k : ℕ) → k < low_size w ny → k * 2 ^ ny < w
  in_row k h = below_size (pow_pos ny) w k h

  module _ {S : Steps ℤ} {q : ℕ} {y : List ℤ} (D : AcrossDone S w h nx ny q x y) where
    module _ (more : q < low_size h ny) where
      row_kept : (c : ℕ) → c < w → cell y (q * (w * 2 ^ ny) + c) ≡ cell x (q * (w * 2 ^ ny) + c)
      row_kept c hc = D.onto.off (q * (w * 2 ^ ny) + c) (λ i a e. absurd (omega (arith, one_row q c i.0 (i.1 * 2 ^ ny) hc (in_row i.1 a.1) e)))

      pub row_room : q * (w * 2 ^ ny) + w ≤ length y
      row_room =
          let last : q * 2 ^ ny * w + (w - 1) < h * w = digits_lt (below_size (pow_pos ny) h q more) (omega (arith, C.sheet.wide)) in
          omega (arith, D.onto.same, C.sheet.all, C.sheet.wide, last, row_start w ny q)

      pub row_taken : Row w (q * (w * 2 ^ ny)) nx ny (2 ^ 40) y
      row_taken = record {
        narrow = C.sheet.narrow;
        levels = C.levels;
        fewer = C.parts.no_more;
        two = C.parts.two_across;
        inside = row_room;
        most = λ c hc. rw (row_kept c hc, row_at q c) (W.most c (q * 2 ^ ny) hc (below_size (pow_pos ny) h q more));
      }

      pub across_goes_on : {z : List ℤ} → RowLevels S w (q * (w * 2 ^ ny)) nx ny (2 ^ 48) y z → AcrossDone S w h nx ny (q + 1) x z
      across_goes_on {z} R = record {
        most = omega arith;
        onto = onto_turn {turn = λ (i : ℕ × ℕ). i.0} {f = q} {n = 1}
            (record {
              apart = λ i k a b. one_row i.0 (i.1 * 2 ^ ny) k.0 (k.1 * 2 ^ ny) (in_row i.1 a.1) (in_row k.1 b.1);
              more = λ i a. (omega arith, a.1);
              spot = λ k. (q, k);
              one = λ k b. ((omega arith, b), omega arith, omega arith);
              there = λ k b. refl;
              value = value;
              all = λ i a l u. (i.1, a.1, let e : q ≡ i.0 = omega arith in λ p. (e p, i.1));
              low = λ i a l. ((l, a.1), refl);
              high = λ i a l. absurd (omega arith);
            })
            D.onto R.made;
        within = record { most = λ c r hc hr. sized c r hc hr (ℕ_discrete r (q * 2 ^ ny)) };
      }
        where
          value : (k : ℕ) → k < low_size w ny → row_low S w nx ny (line (q * (w * 2 ^ ny)) 1 y) k ≡ row_low S w nx ny (line (q * (w * 2 ^ ny)) 1 x) k
          value =
              row_same S w nx ny C.parts.no_more C.parts.two_across (line (q * (w * 2 ^ ny)) 1 y) (line (q * (w * 2 ^ ny)) 1 x)
              (λ c hc. let e : q * (w * 2 ^ ny) + c * 1 ≡ q * (w * 2 ^ ny) + c = omega arith in rw e (row_kept c hc))

          sized : (c r : ℕ) → c < w → r < h → Dec (r ≡ q * 2 ^ ny) → nat_abs (sample_at w z c r) ≤ 2 ^ 48
          sized c r hc hr (yes e) = rw (e, ← row_at q c) (R.within c hc)
          sized c r hc hr (no o) =
              omega (
                arith,
                ap nat_abs (R.made.off (r * w + c) (λ k b e. o (one_place r c (q * 2 ^ ny) (k * 2 ^ ny) hc (in_row k b) (e ∙ row_at q (k * 2 ^ ny))).0)),
                D.within.most c r hc hr,
              )

    pub across_ends : low_size h ny ≤ q → AcrossLevels S w h nx ny (2 ^ 48) x y
    across_ends end = record {
      made = record {
        same = D.onto.same;
        on = λ c r hc hr.
            ap (cell y) (sym (row_at r (c * 2 ^ ny)))
            ∙ D.onto.on (r, c) (omega (arith, size_above (pow_pos ny) h r hr), size_above (pow_pos ny) w c hc)
            ∙ sym (across_row S w h ny x r nx c);
        off = λ c r hc hr never. D.onto.off (r * w + c) (λ i a e.
            let u = one_place r c (i.0 * 2 ^ ny) (i.1 * 2 ^ ny) hc (in_row i.1 a.1) (e ∙ row_at i.0 (i.1 * 2 ^ ny)) in
            never i.1 i.0 u.1 u.0);
      };
      within = D.within;
    }
