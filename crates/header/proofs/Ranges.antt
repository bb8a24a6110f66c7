-- What accepted tables say of their fields. Assumes nothing.
use Prim.Native.Nat.{ℕ, zero, suc, ◌+◌, ◌*◌, ◌-◌, ◌%◌, ◌^◌, ◌≤◌, ◌<◌, zero-le, max}
use mathlib.Core.Bool.{Bool, true, false, ◌&&◌, ◌||◌, cond}
use mathlib.Core.List.{List, ◌++◌}
use mathlib.Core.Path.{◌≡◌, refl, sym, ◌∙◌}
use native.Mathlib.Decide.{dec_lt}
use native.Mathlib.Omega.{arith}
use borrow.Author.Tests.{lt-ltb, le-ltb, ltb-true, eq-eqb}
use lib.Dec.{eqb, ltb, lit≤}
use lib.ListN.{get_or}
use Rattle.whole.specs.Cells.{listed}
use Rattle.whole.proofs.Lists.{listed_at, listed_past}
use Rattle.rows.specs.Rows.{first, Fine}
use Rattle.rows.specs.declared.Field.TheVariants.{Across, Down}
use Rattle.rows.proofs.Tables.{append_fine, each_fine, held}
use Rattle.picture.specs.Picture.{Built}
use Rattle.picture.specs.declared.picture.Picture.{Picture}
use Rattle.layout.specs.Bands.{samples_of, levels_of}
use Rattle.segments.specs.Bands.{bands, existing}
use Rattle.segments.specs.Components.{sampling_place, depth_at, sx_at, sy_at, component_at, widest, depth_checks, level_checks, filter_checks, sx_checks, across_checks, sy_checks, down_checks, component_checks, components_checks}
use Rattle.segments.specs.Weights.{band_in, bands_in, gain_at, gain_row, gain_checks}
use Rattle.segments.proofs.NumberLaws.{cond_le}
use Rattle.header.specs.Accepted.{largest, Sampled}
use Rattle.header.specs.Header.{four, component_of, band_is, gain_of}
use Rattle.header.proofs.Steps.{clash}

-- ---- a component

-- Table A.7's rule on Cw, for the largest sx
abbrev columns_fit : Picture → ℕ → Type 0
columns_fit h m = m * 2 ^ h.nlx ≤ h.wf % (8 * h.cw * m * 2 ^ h.nlx)

module _ (s : List ℕ) (h : Picture) (p c : ℕ) (e : first (component_checks s h p c) ≡ Fine) where
  abbrev place : ℕ
  place = sampling_place p c

  abbrev wide : ℕ
  wide = samples_of h.wf (sx_at s p c)

  abbrev high : ℕ
  high = samples_of h.hf (sy_at s p c)

  abbrev levels : ℕ
  levels = levels_of h.nly (sy_at s p c)

  component_parts : (first (depth_checks s h p c) ≡ Fine) × (first (across_checks s h p c) ≡ Fine) × (first (down_checks s h p c) ≡ Fine)
  component_parts =
      let d = append_fine (depth_checks s h p c) (across_checks s h p c ++ down_checks s h p c) e in
      let a = append_fine (across_checks s h p c) (down_checks s h p c) d.1 in
      (d.0, a.0, a.1)

  across_parts : (first (sx_checks s h p c) ≡ Fine) × (first (filter_checks Across place wide h.nlx) ≡ Fine)
  across_parts = append_fine (sx_checks s h p c) (filter_checks Across place wide h.nlx) component_parts.1

  down_parts : (first (sy_checks s h p c) ≡ Fine) × (first (filter_checks Down place high levels) ≡ Fine)
  down_parts = append_fine (sy_checks s h p c) (filter_checks Down place high levels) component_parts.2

  sampled : Sampled h (depth_at s p c) (sx_at s p c) (sy_at s p c)
  sampled =
      let d = held (depth_checks s h p c) component_parts.0 in
      let x = held (sx_checks s h p c) across_parts.0 in
      let y = held (sy_checks s h p c) down_parts.0 in
      let most = cond_le (eqb c 1 || eqb c 2) 2 1 2 (lit≤ tt) (lit≤ tt) refl in
      record {
        depth = (d.0.least, d.0.most);
        exact = λ f. let b = eq-eqb h.fq 0 f in omega (arith, rw b at d.1.0.least, rw b at d.1.0.most);
        sx = (x.0.least, omega (arith, x.0.most, most));
        sy = (y.0.least, y.0.most);
        colour = λ f. let b = eq-eqb h.cpih 1 f in omega (arith, x.0.least, rw b at x.1.0.most);
        levels = y.1.1.0.most;
        across = λ n l. (held (level_checks Across place wide n) (each_fine h.nlx (level_checks Across place wide) across_parts.1 n l)).0.least;
        down = λ n l. (held (level_checks Down place high n) (each_fine levels (level_checks Down place high) down_parts.1 n l)).0.least;
      }

  -- the last component
  last_column : c + 1 ≡ h.nc → 0 < h.cw → columns_fit h (widest s p h.nc)
  last_column l w =
      let x = held (sx_checks s h p c) across_parts.0 in
      rw (eq-eqb (c + 1) h.nc l, lt-ltb 0 h.cw w) at x.1.1.0.least

-- ---- by component

pub four_at : (f : ℕ → ℕ) (c : ℕ) → c < 4 → get_or (four f) c 0 ≡ f c
four_at f zero h = refl
four_at f (suc zero) h = refl
four_at f (suc (suc zero)) h = refl
four_at f (suc (suc (suc zero))) h = refl
four_at f (suc (suc (suc (suc c)))) h = absurd (omega arith)

module _ (s : List ℕ) (h : Picture) (cdt : ℕ) (x : Built h) where
  component_is : (c : ℕ) → c < h.nc → component_of s h cdt c ≡ component_at s cdt c
  component_is c l = rw (lt-ltb c h.nc l)

  module _ (e : first (components_checks s h cdt) ≡ Fine) where
    pub sampled_at : (c : ℕ) → c < h.nc →
        Sampled h (get_or (four (λ c. (component_of s h cdt c).depth)) c 0) (get_or (four (λ c. (component_of s h cdt c).sx)) c 0) (get_or (four (λ c. (component_of s h cdt c).sy)) c 0)
    sampled_at c l =
        let k = component_is c l in
        let few : c < 4 = omega (arith, x.nc.1) in
        let b = four_at (λ c. (component_of s h cdt c).depth) c few ∙ (λ i. (k i).depth) in
        let a = four_at (λ c. (component_of s h cdt c).sx) c few ∙ (λ i. (k i).sx) in
        let d = four_at (λ c. (component_of s h cdt c).sy) c few ∙ (λ i. (k i).sy) in
        rw (b, a, d) (sampled s h cdt c (each_fine h.nc (component_checks s h cdt) e c l))

-- the largest sx, of all four entries and of the components
max_none : (m : ℕ) → max m 0 ≡ m
max_none m = omega arith

widest_is : (s : List ℕ) (cdt nc : ℕ) → 1 ≤ nc → nc ≤ 4 → (f : ℕ → ℕ) → ((c : ℕ) → c < nc → f c ≡ sx_at s cdt c) → ((c : ℕ) → nc ≤ c → f c ≡ 0) →
    largest 0 (four f) ≡ widest s cdt nc
unfolding widest
widest_is s cdt zero l m f in_table past = absurd (omega arith)
widest_is s cdt (suc zero) l m f in_table past = rw (in_table 0 (omega arith), past 1 (omega arith), past 2 (omega arith), past 3 (omega arith), max_none, max_none, max_none)
widest_is s cdt (suc (suc zero)) l m f in_table past =
    rw (in_table 0 (omega arith), in_table 1 (omega arith), past 2 (omega arith), past 3 (omega arith), max_none, max_none)
widest_is s cdt (suc (suc (suc zero))) l m f in_table past =
    rw (in_table 0 (omega arith), in_table 1 (omega arith), in_table 2 (omega arith), past 3 (omega arith), max_none)
widest_is s cdt (suc (suc (suc (suc zero)))) l m f in_table past =
    rw (in_table 0 (omega arith), in_table 1 (omega arith), in_table 2 (omega arith), in_table 3 (omega arith))
widest_is s cdt (suc (suc (suc (suc (suc n))))) l m f in_table past = absurd (omega arith)

module _ (s : List ℕ) (h : Picture) (cdt : ℕ) (x : Built h) (e : first (components_checks s h cdt) ≡ Fine) where
  pub columns_at : 0 < h.cw → columns_fit h (largest 0 (four (λ c. (component_of s h cdt c).sx)))
  columns_at w =
      let c = h.nc - 1 in
      let one : c + 1 ≡ h.nc = omega (arith, x.nc.0) in
      let past : (c : ℕ) → h.nc ≤ c → (component_of s h cdt c).sx ≡ 0 = λ c l. rw (le-ltb c h.nc l) in
      let g = widest_is s cdt h.nc x.nc.0 x.nc.1 (λ c. (component_of s h cdt c).sx) (λ c l i. (component_is s h cdt x c l i).sx) past in
      rw g (last_column s h cdt c (each_fine h.nc (component_checks s h cdt) e c (omega arith)) one w)

-- ---- by band

-- the existing bands before one that exists are fewer than all
existing_lt : (is : ℕ → Bool) (b n : ℕ) → is b ≡ true → b < n → existing is b < existing is n
unfolding existing
existing_lt is b zero e l = absurd (omega arith)
existing_lt is b (suc n) e l = pick (dec_lt b n) (existing_lt is b n e)
  where
    pick : Dec (b < n) → (b < n → existing is b < existing is n) → existing is b < existing is n + cond (is n) 1 0
    pick (yes m) before = omega (arith, before m)
    pick (no m) before =
        let q : b ≡ n = omega arith in
        rw (← q, e) (omega arith)

-- bands of the picture alone are counted
existing_same : (is : ℕ → Bool) (all b : ℕ) → b ≤ all → existing (λ n. ltb n all && is n) b ≡ existing is b
unfolding existing
existing_same is all zero l = refl
existing_same is all (suc b) l = rw (existing_same is all b (omega arith), lt-ltb b all (omega arith))

-- an existing band is one of those that the weights table has
pub band_number_lem : (s : List ℕ) (h : Picture) (cdt b : ℕ) → band_is s h cdt b ≡ true → existing (band_is s h cdt) b < bands_in s h cdt
band_number_lem s h cdt b = pick (ltb b all) (band_in s h cdt b) refl refl
  where
    all : ℕ
    all = bands h.nc h.nlx h.nly

    pick : (t u : Bool) → t ≡ ltb b all → u ≡ band_in s h cdt b → (t && u) ≡ true → existing (band_is s h cdt) b < bands_in s h cdt
    pick true true p q e =
        let l = ltb-true b all (sym p) in
        omega (arith, existing_same (band_in s h cdt) all b (omega arith), existing_lt (band_in s h cdt) b all (sym q) l)
    pick true false p q e = clash (sym e)
    pick false u p q e = clash (sym e)

module _ (s : List ℕ) (h : Picture) (cdt wgt : ℕ) (e : first (gain_checks s wgt (bands_in s h cdt)) ≡ Fine) where
  gain_le : (b : ℕ) → gain_of s h cdt wgt b ≤ 15
  gain_le b = pick (band_is s h cdt b) refl
    where
      pick : (t : Bool) → band_is s h cdt b ≡ t → cond t (gain_at s wgt (existing (band_is s h cdt) b)) 0 ≤ 15
      pick true is =
          let k = existing (band_is s h cdt) b in
          (held (gain_row s wgt k) (each_fine (bands_in s h cdt) (gain_row s wgt) e k (band_number_lem s h cdt b is))).0.most
      pick false is = zero-le

  pub gains_at : (b : ℕ) → get_or (listed 40 (gain_of s h cdt wgt)) b 0 ≤ 15
  gains_at b = pick (dec_lt b 40)
    where
      pick : Dec (b < 40) → get_or (listed 40 (gain_of s h cdt wgt)) b 0 ≤ 15
      pick (yes l) = rw (listed_at 40 (gain_of s h cdt wgt) 0 b l) (gain_le b)
      pick (no l) = rw (listed_past 40 (gain_of s h cdt wgt) 0 b (omega arith)) zero-le
