-- From precinct to precinct of a page, by declared lengths. Assumes nothing.
use Prim.Native.Nat.{ℕ, ◌+◌, ◌*◌, ◌-◌, ◌/◌, ◌%◌, ◌≤◌, ◌<◌}
use mathlib.Core.Path.{◌≡◌, refl, sym, ap, ◌∙◌}
use mathlib.Core.Bool.{Bool, true, false, cond}
use mathlib.Core.List.{List}
use native.Mathlib.Nat.{div-add-mod', mod-lt, mul-add-div_right, mul-add-mod_self_right, mod-eq_of_lt, div-eq_of_lt, add-mul, one-mul, zero-mul}
use native.Mathlib.Decide.{dec_lt}
use native.Mathlib.Omega.{arith}
use borrow.Author.Tests.{ne_eqb, eqb-true}
use lib.Dec.{eqb}
use lib.ListN.{length}
use Rattle.rows.specs.Rows.{Fine, Verdict}
use Rattle.layout.specs.Precincts.{Np}
use Rattle.packets.specs.declared.Setting.{Setting}
use Rattle.packets.specs.declared.Precinct.{Precinct}
use Rattle.slices.specs.Precinct.{precinct_at}
use Rattle.slices.specs.Slice.{slice_header_bytes, row_of, column_in}
use Rattle.slices.specs.Walk.{walk_slice, end_of, slice_place, precinct_place}
use Rattle.slices.proofs.WalkPlaces.{slice_first, place_first, walk_header, walk_left, walk_precinct, walk_slice_lem, place_inside}
use Rattle.reasons.specs.Coarsest.{per_slice, all, precinct_of}
use Rattle.reasons.specs.Steps.{Walked}
use Rattle.reasons.proofs.Numbers.{per_slice_some, slice_below, number_below, number_fits}

module _ (s : List ℕ) (c : Setting) (at : ℕ) where
  -- where the walk stands before precinct n of slice t: at the slice's header before its first
  abbrev stands_in : ℕ → ℕ → ℕ
  stands_in t n = cond (eqb n 0) (slice_place s c at t) (precinct_place s c (slice_place s c at t) n)

  -- and before precinct p of the page
  unfoldable pub stands_at : ℕ → ℕ
  stands_at p = stands_in (p / per_slice c.shape) (p % per_slice c.shape)

  -- precinct p itself stands behind the header
  abbrev pub head_at : ℕ → ℕ
  head_at p = precinct_place s c (slice_place s c at (p / per_slice c.shape)) (p % per_slice c.shape)

  module _ (w : Walked s c at) where
    parts : (t n : ℕ) → n < per_slice c.shape → stands_at (t * per_slice c.shape + n) ≡ stands_in t n
    unfolding stands_at
    parts t n l =
        let div : (t * per_slice c.shape + n) / per_slice c.shape ≡ t =
        mul-add-div_right (per_slice_some c.shape w.settled.shape) t n ∙ omega (arith, div-eq_of_lt l) in
        let rest = mul-add-mod_self_right t (per_slice c.shape) n ∙ mod-eq_of_lt l in
        λ i. stands_in (div i) (rest i)

    pub stands_first : at ≡ stands_at 0
    stands_first =
        let e : 0 ≡ 0 * per_slice c.shape + 0 = omega (arith, zero-mul (per_slice c.shape)) in
        sym (ap stands_at e ∙ parts 0 0 (per_slice_some c.shape w.settled.shape) ∙ slice_first s c at)

    pub stands_head : (p : ℕ) → cond (eqb (p % per_slice c.shape) 0) (stands_at p + slice_header_bytes) (stands_at p) ≡ head_at p
    unfolding stands_at
    stands_head p = by (eqb (p % per_slice c.shape) 0) refl
      where
        by : (b : Bool) → eqb (p % per_slice c.shape) 0 ≡ b
            → cond b (cond b (slice_place s c at (p / per_slice c.shape)) (head_at p) + slice_header_bytes) (cond b (slice_place s c at (p / per_slice c.shape)) (head_at p)) ≡ head_at p
        by true e =
            let first = eqb-true (p % per_slice c.shape) 0 e in
            rw first (sym (place_first s c (slice_place s c at (p / per_slice c.shape))))
        by false e = refl

    module _ (p : ℕ) (l : p < all c.shape) where
      abbrev t : ℕ
      t = p / per_slice c.shape

      abbrev n : ℕ
      n = p % per_slice c.shape

      slice_walked : walk_slice s c t (slice_place s c at t) ≡ (Fine, slice_place s c at (t + 1))
      slice_walked = walk_slice_lem s c at w.walked t (slice_below c.shape w.settled.shape p l)

      slice_fine : (walk_slice s c t (slice_place s c at t)).0 ≡ Fine
      slice_fine = ap (λ (r : Verdict × ℕ). r.0) slice_walked

      own : n < Np c.shape t
      own = number_below c.shape w.settled.shape p l

      pub head_inside : head_at p ≤ length s
      head_inside = place_inside s c t (slice_place s c at t) slice_fine n (omega (arith, own))

      pub stands_inside : stands_at p ≤ length s
      unfolding stands_at
      stands_inside = by (eqb n 0)
        where
          by : (b : Bool) → cond b (slice_place s c at t) (head_at p) ≤ length s
          by true = omega (arith, walk_header s c t (slice_place s c at t) slice_fine)
          by false = head_inside

      -- it ends where the next stands, or the next slice's header
      pub stands_next : stands_at (p + 1) ≡ end_of s c (head_at p)
      stands_next = by (dec_lt (n + 1) (per_slice c.shape))
        where
          next : precinct_place s c (slice_place s c at t) (n + 1) ≡ end_of s c (head_at p)
          next = (walk_precinct s c t (slice_place s c at t) slice_fine n own).next

          by : Dec (n + 1 < per_slice c.shape) → stands_at (p + 1) ≡ end_of s c (head_at p)
          by (yes m) =
              let e : p + 1 ≡ t * per_slice c.shape + (n + 1) = omega (arith, div-add-mod' p (per_slice c.shape)) in
              ap stands_at e
              ∙ parts t (n + 1) m
              ∙ (λ i. cond (ne_eqb (n + 1) 0 (λ z. omega arith) i) (slice_place s c at t) (precinct_place s c (slice_place s c at t) (n + 1)))
              ∙ next
          by (no m) =
              let e : p + 1 ≡ (t + 1) * per_slice c.shape + 0 =
              omega (arith, div-add-mod' p (per_slice c.shape), mod-lt p (per_slice_some c.shape w.settled.shape), add-mul t 1 (per_slice c.shape), one-mul (per_slice c.shape)) in
              let last = number_fits c.shape w.settled.shape t (slice_below c.shape w.settled.shape p l) (Np c.shape t - 1) (omega (arith, own)) in
              let full : Np c.shape t ≡ n + 1 = omega (arith, own, last) in
              ap stands_at e
              ∙ parts (t + 1) 0 (per_slice_some c.shape w.settled.shape)
              ∙ sym (ap (λ (r : Verdict × ℕ). r.1) slice_walked)
              ∙ walk_left s c t (slice_place s c at t) slice_fine
              ∙ ap (precinct_place s c (slice_place s c at t)) full
              ∙ next

      pub precinct_ends : (precinct_of s c at p).end ≡ stands_at (p + 1)
      unfolding precinct_of
      precinct_ends = sym stands_next

    -- ---- as the code finds it, where `size` is the number of precincts of a slice that has all its rows

    module _ (p : ℕ) {size place : ℕ} (e : size ≡ per_slice c.shape) (stands : place ≡ stands_at p) where
      pub head_found : {head : ℕ} → head ≡ cond (eqb (p % size) 0) (place + slice_header_bytes) place → head ≡ head_at p
      head_found f = f ∙ (λ i. cond (eqb (p % e i) 0) (stands i + slice_header_bytes) (stands i)) ∙ stands_head p

      pub precinct_seen : {head : ℕ} {q : Precinct} → head ≡ cond (eqb (p % size) 0) (place + slice_header_bytes) place
          → q ≡ precinct_at s c (row_of s c (p / size) (p % size)) (column_in s c (p / size) (p % size)) head → q ≡ precinct_of s c at p
      unfolding precinct_of
      precinct_seen f g = g ∙ (λ i. precinct_at s c (row_of s c (p / e i) (p % e i)) (column_in s c (p / e i) (p % e i)) (head_found f i))
