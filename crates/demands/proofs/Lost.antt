-- A page of which slices are lost: its coefficients by name, how far a sample is from that of the coefficients before quantisation, and that no place's distance is
-- above its component's. Assumes nothing.
use mathlib.Core.Path.{◌≡◌, refl, sym, ◌∙◌}
use mathlib.Core.Bool.{Bool, true, false, cond}
use mathlib.Core.List.{List}
use Prim.Native.Nat.{ℕ, ◌≤◌, ◌<◌}
use native.Mathlib.Omega.{arith}
use lib.IntN.{ℤ, pos}
use lib.ListN.{get_or}
use Rattle.whole.specs.Numbers.{Within, Near}
use Rattle.whole.proofs.Within.{within_refl, within_le}
use Rattle.quantiser.specs.Inverse.{scaled}
use Rattle.quantiser.proofs.Laws.{scaled_zero}
use Rattle.wavelet.specs.Transform.{Kind}
use Rattle.wavelet.specs.Bands.{Coefficient}
use Rattle.layout.specs.Bands.{Wc, Hc, N'x, N'y}
use Rattle.layout.specs.Precincts.{slices}
use Rattle.slices.specs.Slice.{State}
use Rattle.slices.proofs.Coefficients.{ReadsOne}
use Rattle.planes.specs.Values.{Bands, Coefficients}
use Rattle.planes.specs.Marks.{mark_of}
use Rattle.planes.specs.Places.{coefficients_in, Inside}
use Rattle.planes.proofs.Distances.{distances_shielded}
use Rattle.distances.specs.Rule.{number_of}
use Rattle.places.specs.Own.{own_number}
use Rattle.reader.specs.Settings.{depth_of}
use Rattle.reader.specs.Decoding.{samples_from, distances_from}
use Rattle.reader.specs.Page.{header_of}
use Rattle.reader.specs.Places.{place_distance}
use Rattle.reader.specs.Steps.{Opened}
use Rattle.reader.proofs.Openings.{colours}
use Rattle.demands.specs.Stored.{its_slice, shape, setting, β, Each, scaled_up, dequantised_from, QuantisedWhere}
use Rattle.demands.specs.Lost.{lost_at, spared}
use Rattle.demands.proofs.Stored.{slice_inside, Leads, coefficient_is}
use Rattle.demands.proofs.Three.{own_most, coefficient_near_own, coefficient_near_largest, samples_near_places, samples_near, places_most}

-- the slices that are not lost are read, and the coefficients of the others are 0
module _ {s : List ℕ} (o : Opened s (header_of s)) {z : ℕ → State} {tops : List ℕ} {cells : List ℤ} (w : Leads s z tops cells) (lost : ℕ → Bool)
    (reads : (t : ℕ) → t < slices (shape s) → lost t ≡ false → ReadsOne s (setting s) z t)
    (zeros : Each s (λ i k dx dy x y. lost_at s lost i k dx dy x y ≡ true → coefficients_in (shape s) cells i k dx dy x y ≡ pos 0)) where
  -- each is c'[p,λ,b,ξ] × 2^Fq, or 0
  pub spared_is : Each s (λ i k dx dy x y. coefficients_in (shape s) cells i k dx dy x y ≡ scaled_up s (spared s lost (dequantised_from s z)) i k dx dy x y)
  spared_is i h k dx dy x y d = by (lost_at s lost i k dx dy x y) refl
    where
      by : (b : Bool) → lost_at s lost i k dx dy x y ≡ b
          → coefficients_in (shape s) cells i k dx dy x y ≡ scaled (setting s).fq (cond b (pos 0) (dequantised_from s z i k dx dy x y))
      by true e = zeros i h k dx dy x y d e ∙ sym (scaled_zero (setting s).fq)
      by false e = coefficient_is o w h d (reads (its_slice (shape s) (β s i k dx dy x y) i x y) (slice_inside o h d) e)

  -- a property of each coefficient that is not lost, such as that its slice is read
  abbrev Kept : (ℕ → Kind → ℕ → ℕ → ℕ → ℕ → Type 0) → Type 0
  Kept P = Each s (λ i k dx dy x y. lost_at s lost i k dx dy x y ≡ false → P i k dx dy x y)

  own_reads : Kept (λ i k dx dy x y. ReadsOne s (setting s) z (its_slice (shape s) (β s i k dx dy x y) i x y))
  own_reads i h k dx dy x y d e = reads (its_slice (shape s) (β s i k dx dy x y) i x y) (slice_inside o h d) e

  -- coefficients that are free where they are lost: with 0 there, each is within a number that it is within where it is not lost
  module _ {C : Coefficients} (q : QuantisedWhere s z (λ i k dx dy x y. lost_at s lost i k dx dy x y ≡ false) C) where
    spared_within : (N : Bands ℕ) → Kept (λ i k dx dy x y. Within (N i k dx dy x y) (coefficients_in (shape s) cells i k dx dy x y) (scaled_up s C i k dx dy x y))
        → Each s (λ i k dx dy x y. Within (N i k dx dy x y) (coefficients_in (shape s) cells i k dx dy x y) (scaled_up s (spared s lost C) i k dx dy x y))
    spared_within N near i h k dx dy x y d = by (lost_at s lost i k dx dy x y) refl
      where
        by : (b : Bool) → lost_at s lost i k dx dy x y ≡ b
            → Within (N i k dx dy x y) (coefficients_in (shape s) cells i k dx dy x y) (scaled (setting s).fq (cond b (pos 0) (C i k dx dy x y)))
        by true e = rw (zeros i h k dx dy x y d e, scaled_zero (setting s).fq) (within_le (within_refl (pos 0)) (omega arith))
        by false e = near i h k dx dy x y d e

    -- and so each sample is within its component's distance of the one that they give
    pub spared_near : (i x y : ℕ) → Inside (shape s) i x y
        → Near (get_or (distances_from (header_of s) tops) i 0) (samples_from (header_of s) (coefficients_in (shape s) cells) i x y)
        (samples_from (header_of s) (scaled_up s (spared s lost C)) i x y)
    spared_near =
        samples_near o (coefficients_in (shape s) cells) (scaled_up s (spared s lost C)) tops
        (spared_within (λ i k dx dy _ _. number_of (shape s) (setting s).fq tops i k dx dy)
        (λ i h k dx dy x y d e. coefficient_near_largest o w h d (own_reads i h k dx dy x y d e) (q i h k dx dy x y d e)))

    -- and within that of its place
    pub spared_near_places : (i x y : ℕ) → Inside (shape s) i x y
        → Near (place_distance s (header_of s) i x y) (samples_from (header_of s) (coefficients_in (shape s) cells) i x y)
        (samples_from (header_of s) (scaled_up s (spared s lost C)) i x y)
    spared_near_places =
        samples_near_places o (coefficients_in (shape s) cells) (scaled_up s (spared s lost C))
        (spared_within (own_number s (setting s) (header_of s).slice)
        (λ i h k dx dy x y d e. coefficient_near_own o w h d (own_reads i h k dx dy x y d e) (q i h k dx dy x y d e)))

  -- the distance of a place that depends on nothing lost is at most its component's: the numbers of what is lost are as good as 0
  pub spared_most : (i x y : ℕ) → Inside (shape s) i x y → mark_of (shape s) (header_of s).picture.cpih (lost_at s lost) i x y ≡ false
      → place_distance s (header_of s) i x y ≤ get_or (distances_from (header_of s) tops) i 0
  unfolding place_distance
  spared_most i x y p e =
      let h = header_of s in
      rw (distances_shielded o.shape (colours o.accepted.ranges) h.picture.bw (depth_of h) own kept (lost_at s lost) (λ i h k dx dy x y d e. rw e) i x y p e)
      (places_most o tops kept (λ i h k dx dy x y d. by i h k dx dy x y d (lost_at s lost i k dx dy x y) refl) i x y p)
    where
      own : Bands ℕ
      own = own_number s (setting s) (header_of s).slice

      kept : Bands ℕ
      kept i k dx dy x y = cond (lost_at s lost i k dx dy x y) 0 (own i k dx dy x y)

      by : (i : ℕ) (h : i < (shape s).nc) (k : Kind) (dx dy x y : ℕ) → Coefficient (Wc (shape s) i) (Hc (shape s) i) (N'x (shape s) i) (N'y (shape s) i) k dx dy x y
          → (b : Bool) → lost_at s lost i k dx dy x y ≡ b → cond b 0 (own i k dx dy x y) ≤ number_of (shape s) (setting s).fq tops i k dx dy
      by i h k dx dy x y d true e = omega arith
      by i h k dx dy x y d false e = own_most o w h d (own_reads i h k dx dy x y d e)
