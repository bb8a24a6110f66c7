-- A level of Table E.1 in place: where the band LL stands on the grid of its depth and every other coefficient is still in its place, filtering
-- the lines of the finer grid leaves the next LL there. Of one row, and of both directions. Assumes nothing.
use mathlib.Core.Path.{◌≡◌, sym, ap, ap₂, ◌∙◌}
use mathlib.Core.List.{List}
use Prim.Native.Nat.{ℕ, suc, ◌+◌, ◌*◌, ◌-◌, ◌/◌, ◌%◌, ◌^◌, ◌≤◌, ◌<◌}
use native.Mathlib.Nat.{mul_assoc, mul_comm, mul-one, add-mul, one-mul, zero-mul, add-zero, pow-suc, eq_of_mul-eq-mul_right}
use native.Mathlib.Decide.{ℕ_discrete}
use native.Mathlib.Omega.{arith}
use borrow.Author.Tests.{eq-eqb, ne_eqb}
use lib.IntN.{ℤ}
use lib.Pow.{pow_pos}
use Rattle.whole.specs.Numbers.{ceil_div}
use Rattle.whole.specs.Cells.{cell, OntoLine}
use Rattle.wavelet.specs.Filter.{Steps, filter}
use Rattle.wavelet.specs.Transform.{Kind, HL, LH, HH, Band, woven, hor_transform, ver_transform, low_size}
use Rattle.wavelet.specs.Bands.{τx, τy}
use Rattle.wavelet.specs.Places.{sample_at, bands, place}
use Rattle.wavelet.specs.Lines.{line}
use Rattle.wavelet.specs.Grids.{Gridded, level_band, row_turn}
use Rattle.wavelet.proofs.Halves.{below_size, size_above}
use Rattle.wavelet.proofs.Related.{filter_cong}

-- ---- places of the grid

-- the coarser grid's places are the finer one's even places, and half a step on are the odd ones
finer : (s x : ℕ) → x * (s * 2) ≡ x * 2 * s
finer s x = sym (mul_assoc x 2 s ∙ ap (λ (n : ℕ). x * n) (mul_comm 2 s))

finer_odd : (s x : ℕ) → x * (s * 2) + s ≡ (x * 2 + 1) * s
finer_odd s x = ap₂ (λ (n m : ℕ). n + m) (finer s x) (sym (one-mul s)) ∙ sym (add-mul (x * 2) 1 s)

-- so between two places of the coarser grid there is none of it
between : (s j x : ℕ) → 0 < s → j * (s * 2) + s ≡ x * (s * 2) → ⊥
between s j x up e =
    let odd : j * 2 + 1 ≡ x * 2 = eq_of_mul-eq-mul_right s up (j * 2 + 1) (x * 2) (sym (finer_odd s j) ∙ e ∙ finer s x) in
    omega arith

-- ---- a line of the finer grid is woven of the coarser grid's samples and those between them

module _ (s w : ℕ) (f A B : ℕ → ℤ) (even : (j : ℕ) → j * (s * 2) < w → f (j * (s * 2)) ≡ A j) (odd : (j : ℕ) → j * (s * 2) + s < w → f (j * (s * 2) + s) ≡ B j) where
  woven_of : (i : ℕ) → i * s < w → f (i * s) ≡ woven A B i
  unfolding woven
  woven_of i h = pick (ℕ_discrete (i % 2) 0)
    where
      pick : Dec (i % 2 ≡ 0) → f (i * s) ≡ woven A B i
      pick (yes e) =
          let d : i ≡ i / 2 * 2 = omega arith in
          let p : i * s ≡ i / 2 * (s * 2) = ap (λ (n : ℕ). n * s) d ∙ sym (finer s (i / 2)) in
          rw (eq-eqb (i % 2) 0 e) (ap f p ∙ even (i / 2) (omega arith))
      pick (no e) =
          let d : i ≡ i / 2 * 2 + 1 = omega arith in
          let p : i * s ≡ i / 2 * (s * 2) + s = ap (λ (n : ℕ). n * s) d ∙ sym (finer_odd s (i / 2)) in
          rw (ne_eqb (i % 2) 0 e) (ap f p ∙ odd (i / 2) (omega arith))

  -- and so is its filter
  filter_woven : (S : Steps ℤ) → 0 < s → 2 ≤ ceil_div w s → (i : ℕ) → i * s < w → filter S (ceil_div w s) (λ k. f (k * s)) i ≡ filter S (ceil_div w s) (woven A B) i
  filter_woven S up two i h = filter_cong S (ceil_div w s) two (λ k. f (k * s)) (woven A B) (λ k k<. woven_of k (below_size up w k k<)) i (size_above up w i h)

-- ---- where a band's coefficients stand

module _ (w : ℕ) (l : List ℤ) where
  stands : (k : Kind) (dx dy x y : ℕ) {c r : ℕ} → c ≡ place (τx k) dx x → r ≡ place (τy k) dy y → sample_at w l c r ≡ bands (sample_at w l) k dx dy x y
  stands k dx dy x y p q = ap₂ (sample_at w l) p q

pub low_place : (d i : ℕ) → i * 2 ^ d ≡ place 0 d i
low_place d i = sym (ap (λ (n : ℕ). i * 2 ^ d + n) (zero-mul (2 ^ (d - 1))) ∙ add-zero (i * 2 ^ d))

high_place : (d i : ℕ) → i * (2 ^ d * 2) + 2 ^ d ≡ place 1 (suc d) i
high_place d i =
    let e : suc d - 1 ≡ d = omega arith in
    rw (pow-suc, e, one-mul)

-- a low-pass place at depth d + 1
even_place : (d i : ℕ) → i * (2 ^ d * 2) ≡ place 0 (suc d) i
even_place d i = rw (← pow-suc 2 d) (low_place (suc d) i)

-- ---- a level of one row alone, from depth d + 1 to d

module _ (S : Steps ℤ) (w base d : ℕ) {low : ℕ → ℤ} {l₀ l l' : List ℤ} (two : 2 ≤ low_size w d)
    (before : OntoLine base (2 ^ d * 2) (ceil_div w (2 ^ d * 2)) low l₀ l)
    (pass : OntoLine base (2 ^ d) (low_size w d) (filter S (low_size w d) (line base (2 ^ d) l)) l l') where
  twice_up : 0 < 2 ^ d * 2
  twice_up = omega (arith, pow_pos d)

  high_is : (j : ℕ) → j * (2 ^ d * 2) + 2 ^ d < w → cell l (base + (j * (2 ^ d * 2) + 2 ^ d)) ≡ line base 1 l₀ (place 1 (suc d) j)
  high_is j h =
      before.off (base + (j * (2 ^ d * 2) + 2 ^ d)) (λ i b e. between (2 ^ d) j i (pow_pos d) (omega arith))
      ∙ ap (λ (c : ℕ). cell l₀ (base + c)) (high_place d j ∙ sym (mul-one (place 1 (suc d) j)))

  pub row_level : OntoLine base (2 ^ d) (low_size w d) (row_turn S w (line base 1 l₀) (suc d) low) l₀ l'
  row_level =
      let less : suc d - 1 ≡ d = omega arith in
      record {
        same = pass.same ∙ before.same;
        on = λ k h. pass.on k h
            ∙ filter_woven (2 ^ d) w (λ c. cell l (base + c)) low (λ j. line base 1 l₀ (place 1 (suc d) j)) (λ j hj. before.on j (size_above twice_up w j hj)) high_is
            S (pow_pos d) two k (below_size (pow_pos d) w k h)
            ∙ ap (λ (n : ℕ). filter S (low_size w n) (woven low (λ j. line base 1 l₀ (place 1 (suc d) j))) k) (sym less);
        off = λ j never. pass.off j never
            ∙ before.off j (λ i b e. never (i * 2) (size_above (pow_pos d) w (i * 2) (rw (← finer (2 ^ d) i) (below_size twice_up w i b))) (e ∙ ap (λ (c : ℕ). base + c) (finer (2 ^ d) i)));
      }

-- ---- a level of both directions, from depth d + 1 to d

module _ (S : Steps ℤ) (w h d : ℕ) {low : Band ℤ} {l₀ l l' : List ℤ} (two : 2 ≤ low_size w d) (two_down : 2 ≤ low_size h d)
    (before : Gridded w h (2 ^ d * 2) (2 ^ d * 2) low l₀ l) (pass : Gridded w h (2 ^ d) (2 ^ d) (level_band S w h d l) l l') where
  -- row r of the grid, filtered
  abbrev row : ℕ → ℕ → ℤ
  row x r = filter S (low_size w d) (λ i. sample_at w l (i * 2 ^ d) r) x

  abbrev over : Band ℤ
  over = hor_transform S (low_size w d) low (bands (sample_at w l₀) HL (suc d) (suc d))

  abbrev under : Band ℤ
  under = hor_transform S (low_size w d) (bands (sample_at w l₀) LH (suc d) (suc d)) (bands (sample_at w l₀) HH (suc d) (suc d))

  even_row : (x j : ℕ) → x * 2 ^ d < w → j * (2 ^ d * 2) < h → row x (j * (2 ^ d * 2)) ≡ over x j
  unfolding hor_transform
  even_row x j hx hj =
      filter_woven (2 ^ d) w (λ c. sample_at w l c (j * (2 ^ d * 2))) (λ i. low i j) (λ i. bands (sample_at w l₀) HL (suc d) (suc d) i j)
      (λ i hi. before.on i j hi hj)
      (λ i hi. before.off (i * (2 ^ d * 2) + 2 ^ d) (j * (2 ^ d * 2)) hi hj (λ x' y' ex ey. between (2 ^ d) i x' (pow_pos d) ex) ∙ stands w l₀ HL (suc d) (suc d) i j (high_place d i) (even_place d j))
      S (pow_pos d) two x hx

  odd_row : (x j : ℕ) → x * 2 ^ d < w → j * (2 ^ d * 2) + 2 ^ d < h → row x (j * (2 ^ d * 2) + 2 ^ d) ≡ under x j
  unfolding hor_transform
  odd_row x j hx hj =
      filter_woven (2 ^ d) w (λ c. sample_at w l c (j * (2 ^ d * 2) + 2 ^ d)) (λ i. bands (sample_at w l₀) LH (suc d) (suc d) i j) (λ i. bands (sample_at w l₀) HH (suc d) (suc d) i j)
      (λ i hi. still (i * (2 ^ d * 2)) hi ∙ stands w l₀ LH (suc d) (suc d) i j (even_place d i) (high_place d j))
      (λ i hi. still (i * (2 ^ d * 2) + 2 ^ d) hi ∙ stands w l₀ HH (suc d) (suc d) i j (high_place d i) (high_place d j))
      S (pow_pos d) two x hx
    where
      still : (c : ℕ) → c < w → sample_at w l c (j * (2 ^ d * 2) + 2 ^ d) ≡ sample_at w l₀ c (j * (2 ^ d * 2) + 2 ^ d)
      still c hc = before.off c (j * (2 ^ d * 2) + 2 ^ d) hc hj (λ x' y' ex ey. between (2 ^ d) j y' (pow_pos d) ey)

  pub both_level : Gridded w h (2 ^ d) (2 ^ d) (ver_transform S (low_size h d) over under) l₀ l'
  unfolding ver_transform
  both_level = record {
    same = pass.same ∙ before.same;
    on = λ x y hx hy. pass.on x y hx hy
        ∙ filter_woven (2 ^ d) h (row x) (over x) (under x) (λ j hj. even_row x j hx hj) (λ j hj. odd_row x j hx hj) S (pow_pos d) two_down y hy;
    off = λ c r hc hr never. pass.off c r hc hr never
        ∙ before.off c r hc hr (λ x y ex ey. never (x * 2) (y * 2) (ex ∙ finer (2 ^ d) x) (ey ∙ finer (2 ^ d) y));
  }
