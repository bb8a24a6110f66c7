-- From the numbers of the coefficients to the distance of each sample: what `place` and the steps around it rest on. Assumes nothing.
use mathlib.Core.Path.{◌≡◌, refl, sym, ap, ◌∙◌}
use mathlib.Core.Bool.{Bool, true, false, cond}
use mathlib.Core.List.{List}
use Prim.Native.Nat.{ℕ, ◌*◌, ◌-◌, ◌^◌, ◌≤◌}
use native.Mathlib.Omega.{arith}
use lib.IntN.{ℤ, pos, nat_abs}
use lib.ListN.{length}
use Rattle.rows.specs.Rows.{Fine}
use Rattle.output.specs.Linear.{distance, lost_distance}
use Rattle.layout.specs.Built.{Built}
use Rattle.header.specs.declared.header.Header.{Header}
use Rattle.shapes.specs.Shapes.{shape_of}
use Rattle.slices.specs.Stream.{stream}
use Rattle.slices.specs.Walk.{walk_stream}
use Rattle.slices.proofs.WalkLaws.{stream_walks}
use Rattle.damage.specs.Stream.{stream_by}
use Rattle.damage.proofs.Walked.{damaged_walks}
use Rattle.planes.specs.Values.{planes, in_planes}
use Rattle.planes.specs.Places.{values_in, Inside, Ready, Holding}
use Rattle.planes.specs.Numbers.{numbers_of, measured, distances_at, held, sizes, numbers_in, HoldingNumbers}
use Rattle.planes.specs.Marks.{bit, marked_distances}
use Rattle.planes.proofs.Stretches.{every_value}
use Rattle.planes.proofs.Planes.{planes_at, planes_same, distances_held}
use Rattle.planes.proofs.Laws.{numbers_of_same}
use Rattle.places.specs.Own.{own_number}
use Rattle.places.specs.Steps.{Filled}
use Rattle.places.proofs.Laws.{own_small}
use Rattle.reader.specs.Settings.{setting_of, depth_of, N}
use Rattle.reader.specs.Decoding.{begun}
use Rattle.reader.specs.Modes.{decoded_by, verdict_in, lost_sample, lost_marks}
use Rattle.reader.specs.Places.{place_distance, distance_in, distance_plane}
use Rattle.reader.specs.Steps.{Opened, Placeable, PlaceableBy, PlacedIn}
use Rattle.reader.proofs.Openings.{fq_few, settled, colours}
use Rattle.reader.proofs.Marking.{none_lent}

-- the slices of a page that is read are walked, in either mode
pub page_walks : (s : List ℕ) (h : Header) (damaged : Bool) → verdict_in s h damaged ≡ Fine → (walk_stream s (setting_of h) h.slice).0 ≡ Fine
unfolding decoded_by stream_by stream
page_walks s h false fine = λ i. (stream_walks s (setting_of h) (begun h) (decoded_by s h false).1 (λ j. (fine j, (decoded_by s h false).1)) i).0
page_walks s h true fine = sym (damaged_walks s (setting_of h) (begun h)).0 ∙ fine

pub placeable : {damaged : Bool} {s : List ℕ} {h : Header} {n k : ℕ} {m : List ℕ} → PlaceableBy Fine damaged true s h n m k → Placeable s h n k
placeable {damaged} {s} {h} p = record { opened = p.opened; walked = page_walks s h damaged (sym p.verdict); enough = p.enough; room = p.room }

-- ---- the numbers of the coefficients

-- a number that may stand in a cell before Annex E
abbrev Small : ℤ → Type 0
Small z = (z ≡ pos (nat_abs z)) × (nat_abs z ≤ 2 ^ 40)

module _ {s : List ℕ} {h : Header} (o : Opened s h) {l l₁ : List ℤ} (filled : Filled s (setting_of h) h.slice l l₁) where
  -- every place is a coefficient's, and so has a number
  number_at : (i x y : ℕ) → Inside (shape_of h) i x y → Small (values_in (shape_of h) l₁ i x y)
  number_at =
      every_value o.shape Small (values_in (shape_of h) l₁)
      (λ i c k dx dy x y d.
      let small = own_small s (setting_of h) (settled o) {n = 40} (omega (arith, fq_few o.accepted.ranges)) h.slice i k dx dy x y in
      rw (filled.number i c k dx dy x y d) (refl, omega (arith, small)))

  pub filled_ready : length l ≡ 2 * N h → Ready (shape_of h) (2 ^ 40) l₁
  filled_ready long = record { built = o.shape; room = omega (arith, long, filled.same); small = λ i x y p. (number_at i x y p).1 }

  pub filled_numbers : HoldingNumbers (shape_of h) l₁
  filled_numbers = record { number = λ i x y p. (number_at i x y p).0 }

  -- behind Annexes E and F
  module _ {l₂ : List ℤ} (made : Holding (shape_of h) (held (numbers_of (shape_of h) h.picture.cpih (numbers_in (shape_of h) l₁))) l₁ l₂) where
    -- by the coefficients' own numbers
    pub placed_made : {d' : List ℕ} → d' ≡ planes (shape_of h) (measured h.picture.bw (depth_of h) (sizes (values_in (shape_of h) l₂))) h.picture.nc
        → d' ≡ planes (shape_of h) (place_distance s h) h.picture.nc
    unfolding place_distance measured
    placed_made e =
        let own = own_number s (setting_of h) h.slice in
        e
        ∙ distances_held o.shape made h.picture.bw (depth_of h)
        ∙ planes_same o.shape (distances_at (shape_of h) h.picture.cpih h.picture.bw (depth_of h) (numbers_in (shape_of h) l₁)) (place_distance s h)
        (λ i x y p. ap (distance h.picture.bw (depth_of h i))
        (numbers_of_same o.shape (colours o.accepted.ranges) (numbers_in (shape_of h) l₁) own (λ i c k dx dy x y d. ap nat_abs (filled.number i c k dx dy x y d)) i x y p))

-- ---- the plane

-- nothing is lost
pub placed_whole : (s : List ℕ) (h : Header) {d : List ℕ} → d ≡ planes (shape_of h) (place_distance s h) h.picture.nc → d ≡ distance_plane s h false
unfolding distance_plane distance_in
placed_whole s h e = e

-- a sample's mark is 1 where it is lost
mark_lost : (B : ℕ) (b : Bool) (d : ℕ) → lost_distance B (bit b) d ≡ cond b (2 ^ B - 1) d
mark_lost B true d = refl
mark_lost B false d = refl

pub placed_lost : (s : List ℕ) (h : Header) {m d d' : List ℕ} → Built (shape_of h) → m ≡ lost_marks s h → d ≡ planes (shape_of h) (place_distance s h) h.picture.nc
    → d' ≡ planes (shape_of h) (marked_distances (shape_of h) (depth_of h) m d) h.picture.nc → d' ≡ distance_plane s h true
unfolding lost_marks distance_plane distance_in
placed_lost s h {m} {d} built e f g =
    g
    ∙ planes_same built (marked_distances (shape_of h) (depth_of h) m d) (distance_in s h true)
    (λ i x y p. (λ j. lost_distance (depth_of h i) (marked i x y p j) (placed i x y p j)) ∙ mark_lost (depth_of h i) (lost_sample s h i x y) (place_distance s h i x y))
  where
    marked : (i x y : ℕ) → Inside (shape_of h) i x y → in_planes (shape_of h) m i x y ≡ bit (lost_sample s h i x y)
    marked i x y p = ap (λ (l : List ℕ). in_planes (shape_of h) l i x y) e ∙ planes_at (shape_of h) (λ i x y. bit (lost_sample s h i x y)) i x y p

    placed : (i x y : ℕ) → Inside (shape_of h) i x y → in_planes (shape_of h) d i x y ≡ place_distance s h i x y
    placed i x y p = ap (λ (l : List ℕ). in_planes (shape_of h) l i x y) f ∙ planes_at (shape_of h) (place_distance s h) i x y p

-- where no plane is asked for
pub placed_not : {damaged placed : Bool} {s : List ℕ} {h : Header} (n : ℕ) {w : List ℤ} (d : List ℕ) → placed ≡ false → length d ≡ cond placed n 0 → PlacedIn Fine damaged placed s h w w d d
placed_not n d e l =
    let none = none_lent n d e l in
    rw e (record { distances = none; same = refl })
