-- Document 02, C-19: the band, the precinct and the truncation position that are named are those that the request asks for, and no others are. Assumes nothing.
use Prim.Native.Nat.{ℕ, ◌%◌, ◌^◌, ◌≤◌, ◌<◌}
use mathlib.Core.Path.{◌≡◌, refl, sym, ◌∙◌}
use mathlib.Core.Bool.{Bool, true, false, cond, ◌&&◌}
use mathlib.Core.List.{List}
use native.Mathlib.Nat.{mul-le-mul, mod-eq_of_lt}
use native.Mathlib.Decide.{dec_lt}
use native.Mathlib.Omega.{arith}
use borrow.Author.Tests.{eq-eqb, eqb-true}
use lib.Dec.{eqb}
use lib.Pow.{pow_pos}
use Rattle.layout.specs.Built.{Built}
use Rattle.layout.specs.Bands.{Nβ, NL, band_exists}
use Rattle.layout.specs.Precincts.{Npy}
use Rattle.layout.proofs.Columns.{largest_of_lem, largest_reached, Npx_some}
use Rattle.layout.proofs.Members.{true_false}
use Rattle.layout.proofs.Sizes.{ceil_some}
use Rattle.packets.specs.declared.Setting.{Setting}
use Rattle.slices.proofs.PrecinctCoefficients.{both_true}
use Rattle.loops.specs.Lowest.{some}
use Rattle.reasons.specs.Coarsest.{all, held_by, truncation_of, largest_in, largest_of, has_largest, band_of, precinct_number, Coarsest}
use Rattle.loops.proofs.Lowest.{lowest_passes, lower_fails, passes_above, passes_some, some_below}
use Rattle.reasons.proofs.LowestBand.{low_held}

-- ---- numbers

-- what is at most m, and not m, is less
less : {n m : ℕ} → n ≤ m → (n ≡ m → ⊥) → n < m
less {n} {m} h other = by (dec_lt n m)
  where
    by : Dec (n < m) → n < m
    by (yes l) = l
    by (no l) = absurd (other (omega arith))

-- ---- tests

pub both : {a b : Bool} → a ≡ true → b ≡ true → (a && b) ≡ true
both e f = rw (e, f)

-- a number that is above 0 where it counts only if a test passes
counted : (b : Bool) {n m : ℕ} → cond b n 0 ≡ m → 0 < m → (b ≡ true) × (n ≡ m)
counted true e h = (refl, e)
counted false e h = absurd (omega arith)

module _ (s : List ℕ) (c : Setting) (at i : ℕ) where
  -- ---- what the test says

  pub record Has (b p : ℕ) : Type 0 where
    pub component : b % c.shape.nc ≡ i
    pub held : held_by s c at p b ≡ true
    pub truncation : truncation_of s c at p b ≡ largest_of s c at i

  pub test_has : (b p : ℕ) → has_largest s c at i b p ≡ true → Has b p
  test_has b p e =
      let q = both_true (eqb (b % c.shape.nc) i) (held_by s c at p b && eqb (truncation_of s c at p b) (largest_of s c at i)) e in
      let r = both_true (held_by s c at p b) (eqb (truncation_of s c at p b) (largest_of s c at i)) q.1 in
      record { component = eqb-true (b % c.shape.nc) i q.0; held = r.0; truncation = eqb-true (truncation_of s c at p b) (largest_of s c at i) r.1 }

  pub has_test : {b p : ℕ} → Has b p → has_largest s c at i b p ≡ true
  has_test {b} {p} h =
      both (eq-eqb (b % c.shape.nc) i h.component) (both h.held (eq-eqb (truncation_of s c at p b) (largest_of s c at i) h.truncation))

  -- ---- no T is larger

  pub in_band : (b p : ℕ) → p < all c.shape → held_by s c at p b ≡ true → truncation_of s c at p b ≤ largest_in s c at b
  unfolding largest_in
  in_band b p h held =
      let own : cond (held_by s c at p b) (truncation_of s c at p b) 0 ≡ truncation_of s c at p b = rw held in
      omega (arith, own, largest_of_lem (λ p. cond (held_by s c at p b) (truncation_of s c at p b) 0) (all c.shape) p h)

  pub in_component : (b : ℕ) → b < NL c.shape → b % c.shape.nc ≡ i → largest_in s c at b ≤ largest_of s c at i
  unfolding largest_of
  in_component b h e =
      let own : cond (eqb (b % c.shape.nc) i) (largest_in s c at b) 0 ≡ largest_in s c at b = rw (eq-eqb (b % c.shape.nc) i e) in
      omega (arith, own, largest_of_lem (λ b. cond (eqb (b % c.shape.nc) i) (largest_in s c at b) 0) (NL c.shape) b h)

  pub none_larger : (p : ℕ) → p < all c.shape → (b : ℕ) → b < NL c.shape → b % c.shape.nc ≡ i → held_by s c at p b ≡ true
      → truncation_of s c at p b ≤ largest_of s c at i
  none_larger p h b l e held = omega (arith, in_band b p h held, in_component b l e)

  -- ---- and some precinct has it

  -- in a band whose largest it is, where it is above 0
  pub band_has : (b : ℕ) → b % c.shape.nc ≡ i → largest_in s c at b ≡ largest_of s c at i → 0 < largest_of s c at i → some (has_largest s c at i b) (all c.shape) ≡ true
  unfolding largest_in
  band_has b e is h =
      let r = largest_reached (λ p. cond (held_by s c at p b) (truncation_of s c at p b) 0) (all c.shape) (omega (arith, is, h)) in
      let q = counted (held_by s c at r.k b) (r.is ∙ is) h in
      passes_some (has_largest s c at i b) (all c.shape) r.k r.below (has_test (record { component = e; held = q.0; truncation = q.1 }))

module _ (s : List ℕ) (c : Setting) (built : Built c.shape) (at i : ℕ) (l : i < c.shape.nc) where
  abbrev nc : ℕ
  nc = c.shape.nc

  pub some_precinct : 0 < all c.shape
  unfolding Npy
  some_precinct =
      omega (arith, mul-le-mul {n₁ = 1} {m₁ = 1} (Npx_some c.shape built) (ceil_some c.shape.hf (2 ^ c.shape.nly) built.high (pow_pos c.shape.nly)))

  pub low_below : i < NL c.shape
  low_below = omega (arith, mul-le-mul {n₁ = nc} {m₁ = 1} {n₂ = nc} {m₂ = Nβ c.shape} (omega arith) (omega arith))

  pub low_component : i % nc ≡ i
  low_component = mod-eq_of_lt l

  -- where no T of the component is above 0: precinct 0 has it in the lowest band
  pub low_has : largest_of s c at i ≡ 0 → some (has_largest s c at i i) (all c.shape) ≡ true
  low_has none =
      let held = low_held s c built at 0 some_precinct i l in
      let most = none_larger s c at i 0 some_precinct i low_below low_component held in
      passes_some (has_largest s c at i i) (all c.shape) 0 some_precinct (has_test s c at i (record { component = low_component; held = held; truncation = omega (arith, most, none) }))

  record SomeBand : Type 0 where
    pub b : ℕ
    pub below : b < NL c.shape
    pub has : some (has_largest s c at i b) (all c.shape) ≡ true

  some_band : SomeBand
  unfolding largest_of
  some_band = by (dec_lt 0 (largest_of s c at i))
    where
      by : Dec (0 < largest_of s c at i) → SomeBand
      by (yes h) =
          let r = largest_reached (λ b. cond (eqb (b % nc) i) (largest_in s c at b) 0) (NL c.shape) h in
          let q = counted (eqb (r.k % nc) i) r.is h in
          record { b = r.k; below = r.below; has = band_has s c at i r.k (eqb-true (r.k % nc) i q.0) q.1 h }
      by (no h) = record { b = i; below = low_below; has = low_has (omega arith) }

  pub band_below : band_of s c at i < NL c.shape
  unfolding band_of
  band_below =
      let q = some_band in
      omega (arith, q.below, passes_above (λ b. some (has_largest s c at i b) (all c.shape)) (NL c.shape) q.b q.has)

  pub band_some : some (has_largest s c at i (band_of s c at i)) (all c.shape) ≡ true
  unfolding band_of
  band_some = lowest_passes (λ b. some (has_largest s c at i b) (all c.shape)) (NL c.shape) band_below

  pub precinct_below : precinct_number s c at i < all c.shape
  unfolding precinct_number
  precinct_below = some_below (has_largest s c at i (band_of s c at i)) (all c.shape) band_some

  pub chosen : Has s c at i (band_of s c at i) (precinct_number s c at i)
  unfolding precinct_number
  chosen = test_has s c at i (band_of s c at i) (precinct_number s c at i) (lowest_passes (has_largest s c at i (band_of s c at i)) (all c.shape) precinct_below)

  -- ---- what is named is what is asked for

  lower_none : (b : ℕ) → b < band_of s c at i → some (has_largest s c at i b) (all c.shape) ≡ false
  unfolding band_of
  lower_none b k = lower_fails (λ b. some (has_largest s c at i b) (all c.shape)) (NL c.shape) b k

  earlier_none : (p : ℕ) → p < precinct_number s c at i → has_largest s c at i (band_of s c at i) p ≡ false
  unfolding precinct_number
  earlier_none p k = lower_fails (has_largest s c at i (band_of s c at i)) (all c.shape) p k

  pub coarsest_named : Coarsest s c at i (band_of s c at i) (precinct_number s c at i) (largest_of s c at i)
  coarsest_named =
      record {
        band = band_below;
        exists = (both_true (band_exists c.shape (band_of s c at i)) _ chosen.held).0;
        component = chosen.component;
        precinct = precinct_below;
        held = chosen.held;
        truncation = chosen.truncation;
        most = none_larger s c at i;
        lower_band = λ p h b k e held. less (none_larger s c at i p h b (omega (arith, band_below)) e held) (λ same. lower p h b k (record { component = e; held = held; truncation = same }));
        earlier = λ p k held.
            less (none_larger s c at i p (omega (arith, precinct_below)) (band_of s c at i) band_below chosen.component held)
            (λ same. before p k (record { component = chosen.component; held = held; truncation = same }));
      }
    where
      lower : (p : ℕ) → p < all c.shape → (b : ℕ) → b < band_of s c at i → Has s c at i b p → ⊥
      lower p h b k has = true_false (sym (lower_none b k) ∙ passes_some (has_largest s c at i b) (all c.shape) p h (has_test s c at i has))

      before : (p : ℕ) → p < precinct_number s c at i → Has s c at i (band_of s c at i) p → ⊥
      before p k has = true_false (sym (earlier_none p k) ∙ has_test s c at i has)

-- ---- and nothing else is

module _ {s : List ℕ} {c : Setting} {at i b p t b' p' t' : ℕ} (x : Coarsest s c at i b p t) (y : Coarsest s c at i b' p' t') where
  same_truncation : t ≡ t'
  same_truncation =
      omega (arith, x.truncation, y.truncation, y.most p x.precinct b x.band x.component x.held, x.most p' y.precinct b' y.band y.component y.held)

  same_band : b ≡ b'
  same_band = by (dec_lt b b') (dec_lt b' b)
    where
      by : Dec (b < b') → Dec (b' < b) → b ≡ b'
      by (yes l) q = absurd (omega (arith, same_truncation, x.truncation, y.lower_band p x.precinct b l x.component x.held))
      by (no l) (yes m) = absurd (omega (arith, same_truncation, y.truncation, x.lower_band p' y.precinct b' m y.component y.held))
      by (no l) (no m) = omega arith

  same_precinct : p ≡ p'
  same_precinct = by (dec_lt p p') (dec_lt p' p)
    where
      by : Dec (p < p') → Dec (p' < p) → p ≡ p'
      by (yes l) q =
          let held : held_by s c at p b' ≡ true = (λ n. held_by s c at p (sym same_band n)) ∙ x.held in
          let own : truncation_of s c at p b' ≡ t = (λ n. truncation_of s c at p (sym same_band n)) ∙ x.truncation in
          absurd (omega (arith, same_truncation, own, y.earlier p l held))
      by (no l) (yes m) =
          let held : held_by s c at p' b ≡ true = (λ n. held_by s c at p' (same_band n)) ∙ y.held in
          let own : truncation_of s c at p' b ≡ t' = (λ n. truncation_of s c at p' (same_band n)) ∙ y.truncation in
          absurd (omega (arith, same_truncation, own, x.earlier p' m held))
      by (no l) (no m) = omega arith

  pub coarsest_one : (b ≡ b') × (p ≡ p') × (t ≡ t')
  coarsest_one = (same_band, same_precinct, same_truncation)
