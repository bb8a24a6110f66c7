-- What the searches through the bands and through the precincts rest on. Assumes nothing.
use Prim.Native.Nat.{ℕ, ◌%◌, ◌<◌}
use mathlib.Core.Path.{◌≡◌, sym, ap, ◌∙◌}
use mathlib.Core.Bool.{Bool, true, cond, ◌&&◌}
use mathlib.Core.List.{List}
use native.Mathlib.Nat.{div-add-mod'}
use native.Mathlib.Decide.{dec_lt}
use native.Mathlib.Omega.{arith}
use borrow.Author.Tests.{lt-ltb, eq-eqb, eqb-true}
use lib.Dec.{eqb}
use lib.ListN.{get_or}
use Rattle.layout.specs.Built.{Built}
use Rattle.layout.specs.Bands.{NL}
use Rattle.layout.specs.Precincts.{largest}
use Rattle.layout.proofs.Columns.{largest_same}
use Rattle.packets.specs.declared.Setting.{Setting}
use Rattle.loops.specs.Lowest.{lowest, some}
use Rattle.reasons.specs.Coarsest.{all, held_by, truncation_of, largest_in, largest_of, has_largest, band_of, precinct_number, coarse_of}
use Rattle.reasons.specs.declared.Coarse.{Coarse}
use Rattle.reasons.specs.Steps.{Searched}
use Rattle.loops.proofs.Lowest.{lowest_passes, passes_above, some_below, lowest_narrow}
use Rattle.slices.proofs.PrecinctCoefficients.{both_true}
use Rattle.reasons.proofs.Choices.{both, test_has, in_band, in_component, band_has, band_below, band_some, chosen, low_below, low_component, low_has}

-- ---- the bands

module _ (s : List ℕ) (c : Setting) (built : Built c.shape) (at : ℕ) (tops : List ℕ) (is : (b : ℕ) → b < NL c.shape → get_or tops b 0 ≡ largest_in s c at b) (i : ℕ) where
  abbrev nc : ℕ
  nc = c.shape.nc

  pub largest_found : largest (λ b. cond (eqb (b % nc) i) (get_or tops b 0) 0) (NL c.shape) ≡ largest_of s c at i
  unfolding largest_of
  largest_found =
      largest_same (λ b. cond (eqb (b % nc) i) (get_or tops b 0) 0) (λ b. cond (eqb (b % nc) i) (largest_in s c at b) 0) (NL c.shape)
      (λ b l. ap (λ (n : ℕ). cond (eqb (b % nc) i) n 0) (is b l))

  -- the code's test of a band
  abbrev found : ℕ → Bool
  found b = eqb (b % nc) i && eqb (get_or tops b 0) (largest_of s c at i)

  -- a band that some precinct holds with the component's largest T passes it
  some_found : (b : ℕ) → b < NL c.shape → some (has_largest s c at i b) (all c.shape) ≡ true → found b ≡ true
  some_found b l e =
      let below = some_below (has_largest s c at i b) (all c.shape) e in
      let p = lowest (has_largest s c at i b) (all c.shape) in
      let has = test_has s c at i b p (lowest_passes (has_largest s c at i b) (all c.shape) below) in
      both (eq-eqb (b % nc) i has.component)
      (eq-eqb (get_or tops b 0) (largest_of s c at i)
      (omega (arith, is b l, has.truncation, in_band s c at i b p below has.held, in_component s c at i b l has.component)))

  module _ (l : i < nc) where
    abbrev lowest_found : ℕ
    lowest_found = lowest found (NL c.shape)

    found_below : lowest_found < NL c.shape
    found_below =
        let b = band_of s c at i in
        omega (arith, band_below s c built at i l, passes_above found (NL c.shape) b (some_found b (band_below s c built at i l) (band_some s c built at i l)))

    -- the lowest that does is held so
    found_some : some (has_largest s c at i lowest_found) (all c.shape) ≡ true
    found_some =
        let q = both_true (eqb (lowest_found % nc) i) (eqb (get_or tops lowest_found 0) (largest_of s c at i)) (lowest_passes found (NL c.shape) found_below) in
        by (eqb-true (lowest_found % nc) i q.0) (sym (is lowest_found found_below) ∙ eqb-true (get_or tops lowest_found 0) (largest_of s c at i) q.1) (dec_lt 0 (largest_of s c at i))
      where
        by : lowest_found % nc ≡ i → largest_in s c at lowest_found ≡ largest_of s c at i → Dec (0 < largest_of s c at i) → some (has_largest s c at i lowest_found) (all c.shape) ≡ true
        by e f (yes h) = band_has s c at i lowest_found e f h
        by e f (no h) =
            let own = in_component s c at i i (low_below s c built at i l) (low_component s c built at i l) in
            let low =
            passes_above found (NL c.shape) i
            (both (eq-eqb (i % nc) i (low_component s c built at i l)) (eq-eqb (get_or tops i 0) (largest_of s c at i) (omega (arith, own, is i (low_below s c built at i l))))) in
            let same : lowest_found ≡ i = omega (arith, low, div-add-mod' lowest_found nc, e) in
            rw same (low_has s c built at i l (omega arith))

    pub band_found : lowest_found ≡ band_of s c at i
    unfolding band_of
    band_found = sym (lowest_narrow (λ b. some (has_largest s c at i b) (all c.shape)) found (NL c.shape) some_found found_some)

    -- ---- the precincts

    pub precinct_found : lowest (λ p. held_by s c at p (band_of s c at i) && eqb (truncation_of s c at p (band_of s c at i)) (largest_of s c at i)) (all c.shape) ≡ precinct_number s c at i
    unfolding precinct_number
    precinct_found =
        let own = eq-eqb (band_of s c at i % nc) i (chosen s c built at i l).component in
        λ j. lowest (λ p. sym own j && (held_by s c at p (band_of s c at i) && eqb (truncation_of s c at p (band_of s c at i)) (largest_of s c at i))) (all c.shape)

-- ---- where component i is coarsest, from the code's searches

module _ {s : List ℕ} {c : Setting} {at : ℕ} {tops : List ℕ} (q : Searched s c at tops) {i : ℕ} (l : i < c.shape.nc) {n top b : ℕ} (e : n ≡ NL c.shape)
    (f : top ≡ largest (λ b. cond (eqb (b % c.shape.nc) i) (get_or tops b 0) 0) n) (g : b ≡ lowest (λ b. eqb (b % c.shape.nc) i && eqb (get_or tops b 0) top) n) where
  top_is : top ≡ largest_of s c at i
  top_is =
      f ∙ ap (largest (λ b. cond (eqb (b % c.shape.nc) i) (get_or tops b 0) 0)) e ∙ largest_found s c q.walks.settled.shape at tops q.largest i

  pub band_is : b ≡ band_of s c at i
  band_is =
      g ∙ (λ j. lowest (λ b. eqb (b % c.shape.nc) i && eqb (get_or tops b 0) (top_is j)) (e j)) ∙ band_found s c q.walks.settled.shape at tops q.largest i l

  pub band_inside : b < NL c.shape
  band_inside = omega (arith, band_is, band_below s c q.walks.settled.shape at i l)

  pub coarsest_there : {p : ℕ} → p ≡ lowest (λ p. held_by s c at p b && eqb (truncation_of s c at p b) top) (all c.shape)
      → ◌≡◌ {A = Coarse} (record { band = b; precinct = p; truncation = top }) (coarse_of s c at i)
  coarsest_there h =
      let precinct_is =
      h
      ∙ (λ j. lowest (λ p. held_by s c at p (band_is j) && eqb (truncation_of s c at p (band_is j)) (top_is j)) (all c.shape))
      ∙ precinct_found s c q.walks.settled.shape at tops q.largest i l in
      rw (lt-ltb i c.shape.nc l) (λ j. record { band = band_is j; precinct = precinct_is j; truncation = top_is j })
