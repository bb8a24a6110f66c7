-- Demand 3 holds of every page that is read: each sample is within its component's distance of the sample that the coefficients before quantisation give, and
-- within the distance of its own place. Assumes nothing.
use mathlib.Core.Path.{◌≡◌, refl}
use mathlib.Core.List.{List}
use Prim.Native.Nat.{ℕ, ◌≤◌, ◌<◌}
use native.Mathlib.Omega.{arith}
use lib.IntN.{ℤ}
use lib.ListN.{get_or}
use Rattle.whole.specs.Numbers.{Within, Near}
use Rattle.whole.proofs.Within.{within_swap}
use Rattle.rows.specs.Rows.{Fine}
use Rattle.quantiser.specs.Inverse.{scaled}
use Rattle.quantiser.specs.Forward.{index_of}
use Rattle.quantiser.specs.Distance.{band_number}
use Rattle.quantiser.proofs.Laws.{band_mono, band_within}
use Rattle.wavelet.specs.Transform.{Kind}
use Rattle.wavelet.specs.Bands.{Coefficient}
use Rattle.layout.specs.Bands.{Wc, Hc, N'x, N'y, band}
use Rattle.slices.specs.Slice.{State}
use Rattle.slices.proofs.Coefficients.{ReadsOne}
use Rattle.planes.specs.Values.{Bands, Coefficients}
use Rattle.planes.specs.Numbers.{distances_at}
use Rattle.planes.specs.Places.{coefficients_in, Inside}
use Rattle.planes.proofs.Colouring.{behind}
use Rattle.planes.proofs.Laws.{samples_of_near}
use Rattle.planes.proofs.Distances.{distances_near, distances_most}
use Rattle.distances.specs.Rule.{number_of, component_number_of, distance_of}
use Rattle.distances.proofs.Rules.{distance_at}
use Rattle.places.specs.Own.{truncation_at, own_number}
use Rattle.reader.specs.declared.page.Page.{Page}
use Rattle.reader.specs.Settings.{depth_of}
use Rattle.reader.specs.Decoding.{samples_from, distances_from, decoded_verdict, tops, coefficients}
use Rattle.reader.specs.Page.{header_of, Reads}
use Rattle.reader.specs.Places.{place_distance}
use Rattle.reader.specs.Steps.{Opened}
use Rattle.reader.proofs.Openings.{colours}
use Rattle.demands.specs.Stored.{its_slice, shape, setting, β, Each, scaled_up, truncation_from, planes_from, QuantisedAt, Quantised}
use Rattle.demands.specs.Demands.{Three}
use Rattle.demands.proofs.Accepted.{page_read}
use Rattle.demands.proofs.Stored.{Leads, coefficient_is, largest_known, truncation_walks, own_quantised, plain_leads, plain_reads}

-- ---- a coefficient of a slice that is read

-- the number of its own T is at most that of its band's largest
pub own_most : {s : List ℕ} (o : Opened s (header_of s)) {z : ℕ → State} {tops : List ℕ} {cells : List ℤ} → Leads s z tops cells → {i : ℕ} → i < (shape s).nc
    → {k : Kind} {dx dy x y : ℕ} → Coefficient (Wc (shape s) i) (Hc (shape s) i) (N'x (shape s) i) (N'y (shape s) i) k dx dy x y
    → ReadsOne s (setting s) z (its_slice (shape s) (β s i k dx dy x y) i x y)
    → own_number s (setting s) (header_of s).slice i k dx dy x y ≤ number_of (shape s) (setting s).fq tops i k dx dy
own_most {s} o w h d reads = band_mono (setting s).fq (rw (truncation_walks o w h d reads) at (largest_known o w h d reads))

module _ {s : List ℕ} (o : Opened s (header_of s)) {z : ℕ → State} {tops : List ℕ} {cells : List ℤ} (w : Leads s z tops cells) {i : ℕ} (h : i < (shape s).nc)
    {k : Kind} {dx dy x y : ℕ} (d : Coefficient (Wc (shape s) i) (Hc (shape s) i) (N'x (shape s) i) (N'y (shape s) i) k dx dy x y)
    (reads : ReadsOne s (setting s) z (its_slice (shape s) (β s i k dx dy x y) i x y)) {c : ℤ} (q : QuantisedAt s z i k dx dy x y c) where
  -- it is within the number of its own T of the one that is decoded, and so within that of any T which is no less
  pub coefficient_near : (U : ℕ) → truncation_from s z i k dx dy x y ≤ U
      → Within (band_number U (setting s).fq) (coefficients_in (shape s) cells i k dx dy x y) (scaled (setting s).fq c)
  coefficient_near U most =
      let M = planes_from s z i k dx dy x y in
      let T = truncation_from s z i k dx dy x y in
      let u = (setting s).uniform in
      rw (coefficient_is o w h d reads, ← q.gives) (within_swap (band_within u M T U (setting s).fq c (index_of u M T c) most q.small refl))

  -- such are the T that the walk finds, and its band's largest
  pub coefficient_near_own : Within (own_number s (setting s) (header_of s).slice i k dx dy x y) (coefficients_in (shape s) cells i k dx dy x y) (scaled (setting s).fq c)
  coefficient_near_own = coefficient_near (truncation_at s (setting s) (header_of s).slice i k dx dy x y) (omega (arith, truncation_walks o w h d reads))

  pub coefficient_near_largest : Within (number_of (shape s) (setting s).fq tops i k dx dy) (coefficients_in (shape s) cells i k dx dy x y) (scaled (setting s).fq c)
  coefficient_near_largest = coefficient_near (get_or tops (band (shape s) (β s i k dx dy x y) i) 0) (largest_known o w h d reads)

-- ---- the samples of two tables of coefficients

module _ {s : List ℕ} (o : Opened s (header_of s)) (D C : Coefficients) where
  -- place by place: with the number of its own T for each coefficient a sample is within the distance of its place
  pub samples_near_places : Each s (λ i k dx dy x y. Within (own_number s (setting s) (header_of s).slice i k dx dy x y) (D i k dx dy x y) (C i k dx dy x y))
      → (i x y : ℕ) → Inside (shape s) i x y → Near (place_distance s (header_of s) i x y) (samples_from (header_of s) D i x y) (samples_from (header_of s) C i x y)
  unfolding samples_from place_distance
  samples_near_places =
      let h = header_of s in
      distances_near o.shape (colours o.accepted.ranges) h.picture.bw (depth_of h) (own_number s (setting s) h.slice) D C

  -- with one number for each band, of its largest T: it is within its component's distance
  pub samples_near : (tops : List ℕ) → Each s (λ i k dx dy x y. Within (number_of (shape s) (setting s).fq tops i k dx dy) (D i k dx dy x y) (C i k dx dy x y))
      → (i x y : ℕ) → Inside (shape s) i x y → Near (get_or (distances_from (header_of s) tops) i 0) (samples_from (header_of s) D i x y) (samples_from (header_of s) C i x y)
  unfolding samples_from distances_from distance_of component_number_of
  samples_near tops near i x y p =
      let h = header_of s in
      rw (distance_at (shape s) h.picture.fq h.picture.cpih h.picture.bw (depth_of h) tops o.shape.few i p.component)
      (samples_of_near o.shape (colours o.accepted.ranges) h.picture.bw (depth_of h) (number_of (shape s) (setting s).fq tops)
      (behind h.picture.cpih (component_number_of (shape s) h.picture.fq tops)) D C near i x y p)

-- ---- the distances of places

-- numbers of at most their band's, of its largest T, make distances of at most the record's
pub places_most : {s : List ℕ} → Opened s (header_of s) → (tops : List ℕ) (N : Bands ℕ)
    → Each s (λ i k dx dy x y. N i k dx dy x y ≤ number_of (shape s) (setting s).fq tops i k dx dy) → (i x y : ℕ) → Inside (shape s) i x y
    → distances_at (shape s) (header_of s).picture.cpih (header_of s).picture.bw (depth_of (header_of s)) N i x y ≤ get_or (distances_from (header_of s) tops) i 0
unfolding distances_from distance_of component_number_of
places_most {s} o tops N most i x y p =
    let h = header_of s in
    rw (distance_at (shape s) h.picture.fq h.picture.cpih h.picture.bw (depth_of h) tops o.shape.few i p.component)
    (distances_most o.shape (colours o.accepted.ranges) h.picture.bw (depth_of h) N (number_of (shape s) (setting s).fq tops) most i x y p)

-- ---- demand 3

-- no place's distance is above its component's
pub page_most : {s : List ℕ} → Opened s (header_of s) → decoded_verdict s (header_of s) ≡ Fine → (i x y : ℕ) → Inside (shape s) i x y
    → place_distance s (header_of s) i x y ≤ get_or (distances_from (header_of s) (tops s (header_of s))) i 0
unfolding place_distance
page_most {s} o fine =
    places_most o (tops s (header_of s)) (own_number s (setting s) (header_of s).slice)
    (λ i l k dx dy x y d. own_most o (plain_leads o fine) l d (plain_reads o fine l d))

module _ {s : List ℕ} (o : Opened s (header_of s)) (fine : decoded_verdict s (header_of s) ≡ Fine) {C : Coefficients} (q : Quantised s C) where
  pub page_near_places : (i x y : ℕ) → Inside (shape s) i x y
      → Near (place_distance s (header_of s) i x y) (samples_from (header_of s) (coefficients s (header_of s)) i x y) (samples_from (header_of s) (scaled_up s C) i x y)
  page_near_places =
      samples_near_places o (coefficients s (header_of s)) (scaled_up s C)
      (λ i l k dx dy x y d. coefficient_near_own o (plain_leads o fine) l d (plain_reads o fine l d) (q i l k dx dy x y d))

  page_near : (i x y : ℕ) → Inside (shape s) i x y
      → Near (get_or (distances_from (header_of s) (tops s (header_of s))) i 0) (samples_from (header_of s) (coefficients s (header_of s)) i x y)
      (samples_from (header_of s) (scaled_up s C) i x y)
  page_near =
      samples_near o (coefficients s (header_of s)) (scaled_up s C) (tops s (header_of s))
      (λ i l k dx dy x y d. coefficient_near_largest o (plain_leads o fine) l d (plain_reads o fine l d) (q i l k dx dy x y d))

-- so the record tells how far each sample can be off, whatever the quantiser dropped
pub demand_three : {s a a' : List ℕ} {w w' : List ℤ} {r : Page} → Reads s a w r a' w' → r.answer ≡ 0 → Three s a' r
demand_three {s} read accepted =
    let page = page_read read accepted in
    let o = page.opened in
    let fine = page.fine in
    record {
      near = λ C q i x y p. rw (page.distances, page.sample i x y p) (page_near o fine q i x y p);
      near_place = λ C q i x y p. rw (page.sample i x y p) (page_near_places o fine q i x y p);
      some = λ i l k dx dy x y d. own_quantised o (plain_leads o fine) l d (plain_reads o fine l d);
    }
