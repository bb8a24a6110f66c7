-- What an accepted stream leaves for each band is the largest T of the page's precincts that hold it; and the walk's precincts are those that the reading takes.
-- Assumes nothing.
use Prim.Native.Nat.{ℕ, ◌+◌, ◌*◌, ◌/◌, ◌%◌, ◌≤◌, ◌<◌}
use mathlib.Core.Path.{◌≡◌, refl, sym, ◌∙◌}
use mathlib.Core.Bool.{Bool, true, false, cond}
use mathlib.Core.List.{List}
use native.Mathlib.Omega.{arith}
use lib.ListN.{length, get_or}
use Rattle.rows.specs.Rows.{Fine}
use Rattle.layout.specs.Built.{Built}
use Rattle.layout.specs.Bands.{NL}
use Rattle.layout.specs.Precincts.{Np, slices}
use Rattle.layout.proofs.Columns.{largest_most}
use Rattle.packets.specs.declared.Setting.{Setting}
use Rattle.slices.specs.Precinct.{holds}
use Rattle.slices.specs.Slice.{State}
use Rattle.slices.specs.Stream.{stream}
use Rattle.slices.specs.Reached.{stream_has}
use Rattle.slices.specs.Walk.{walk_has}
use Rattle.slices.proofs.Largest.{tops_most, tops_hold}
use Rattle.slices.proofs.WalkHas.{walk_has_lem}
use Rattle.reasons.specs.Coarsest.{per_slice, all, precinct_of, held_by, truncation_of, largest_in}
use Rattle.reasons.proofs.Numbers.{slice_below, number_below, page_slice, page_number, page_below}
use Rattle.reasons.proofs.Choices.{in_band}

module _ (s : List ℕ) (c : Setting) (built : Built c.shape) (x : State) (fine : (stream s c x).0 ≡ Fine) where
  -- precinct p of the page is the one that the reading takes
  pub read_precinct : (p : ℕ) → p < all c.shape → precinct_of s c x.0 p ≡ stream_has s c x (p / per_slice c.shape) (p % per_slice c.shape)
  unfolding precinct_of
  read_precinct p h = sym (walk_has_lem s c x fine (p / per_slice c.shape) (slice_below c.shape built p h) (p % per_slice c.shape) (number_below c.shape built p h))

  -- and each that it takes is one of the page's
  pub precinct_read : (t : ℕ) → t < slices c.shape → (n : ℕ) → n < Np c.shape t → stream_has s c x t n ≡ precinct_of s c x.0 (t * per_slice c.shape + n)
  unfolding precinct_of
  precinct_read t l n k = walk_has_lem s c x fine t l n k ∙ (λ i. walk_has s c x.0 (sym (page_slice c.shape built t l n k) i) (sym (page_number c.shape built t l n k) i))

  module _ (b : ℕ) (below : b < NL c.shape) (long : b < length x.1) (none : get_or x.1 b 0 ≡ 0) where
    tops_least : largest_in s c x.0 b ≤ get_or (stream s c x).1.1 b 0
    unfolding largest_in
    tops_least =
        largest_most (λ p. cond (held_by s c x.0 p b) (truncation_of s c x.0 p b) 0) (all c.shape) (get_or (stream s c x).1.1 b 0)
        (λ p h. by p h (held_by s c x.0 p b) refl)
      where
        by : (p : ℕ) → p < all c.shape → (e : Bool) → held_by s c x.0 p b ≡ e → cond e (truncation_of s c x.0 p b) 0 ≤ get_or (stream s c x).1.1 b 0
        by p h true e =
            let same = read_precinct p h in
            rw same (tops_hold s c b below x fine long (p / per_slice c.shape) (slice_below c.shape built p h) (p % per_slice c.shape) (number_below c.shape built p h) ((λ i. holds c (sym same i) b) ∙ e))
        by p h false e = omega arith

    pub tops_are : get_or (stream s c x).1.1 b 0 ≡ largest_in s c x.0 b
    tops_are =
        let most =
        tops_most s c b (largest_in s c x.0 b) x fine
        (λ t l n k _ held.
        let same = precinct_read t l n k in
        rw same (in_band s c x.0 0 b (t * per_slice c.shape + n) (page_below c.shape built t l n k) ((λ i. holds c (sym same i) b) ∙ held)))
        (omega (arith, none)) in
        omega (arith, most, tops_least)
