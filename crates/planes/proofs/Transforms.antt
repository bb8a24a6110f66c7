-- Annex E for one component after the other, in place. Assumes nothing.
use mathlib.Core.Path.{◌≡◌, refl, sym, subst, ap, ◌∙◌}
use mathlib.Core.List.{List, ◌++◌}
use Prim.Native.Nat.{ℕ, ◌+◌, ◌*◌, ◌-◌, ◌^◌, ◌≤◌, ◌<◌}
use native.Mathlib.Nat.{le_refl}
use native.Mathlib.Decide.{ℕ_discrete}
use native.Mathlib.Omega.{arith}
use lib.IntN.{ℤ, pos, nat_abs}
use lib.ListN.{length, take, drop}
use Rattle.whole.specs.Cells.{cell}
use Rattle.whole.specs.declared.Kind.{Kind}
use Rattle.whole.specs.declared.Kind.TheVariants.{Samples, Numbers}
use Rattle.wavelet.specs.Filter.{samples}
use Rattle.wavelet.specs.Transform.{Band}
use Rattle.wavelet.specs.Bands.{Decomposed}
use Rattle.wavelet.specs.Distance.{numbers}
use Rattle.wavelet.specs.Places.{sample_at, Component}
use Rattle.wavelet.specs.Numbers.{number_at}
use Rattle.wavelet.specs.Kinds.{ValuesWithin, Inverted}
use Rattle.layout.specs.declared.Shape.{Shape}
use Rattle.layout.specs.Bands.{Wc, Hc, N'x, N'y}
use Rattle.layout.specs.Cells.{area, samples as samples_before, start}
use Rattle.layout.specs.Sizes.{component_of}
use Rattle.layout.specs.declared.bands.Component.{Component as Part}
use Rattle.planes.specs.Values.{Values, transformed}
use Rattle.planes.specs.Places.{values_in, Ready, Holding}
use Rattle.planes.specs.Numbers.{sizes, NumbersOne, HoldingNumbers, filtered_of}
use Rattle.planes.specs.Components.{ReadyOne, HoldingOne}
use Rattle.planes.proofs.EitherKind.{inverse_placed, filtered_placed}
use Rattle.planes.proofs.Parts.{between, part_length, part_at, back_length, back_on, back_off}
use Rattle.planes.proofs.Stretches.{component, stretch_fits, offset_below, stretches_apart}

-- ---- a component's stretch, lent

module _ {s : Shape} {i : ℕ} {l : List ℤ} (ready : ReadyOne s (2 ^ 40) i l) where
  abbrev lent : List ℤ
  lent = take (area s i) (drop (start s i) l)

  fits : start s i + area s i ≤ length l
  fits = stretch_fits ready

  -- it holds the component's values
  lent_values : (x y : ℕ) → x < Wc s i → y < Hc s i → sample_at (Wc s i) lent x y ≡ values_in s l i x y
  lent_values x y c r = part_at (start s i) (area s i) l fits (pos 0) (y * Wc s i + x) (offset_below s i x y c r)

  lent_taken : Component (Wc s i) (Hc s i) (N'x s i) (N'y s i) (length lent)
  lent_taken = rw (part_length (start s i) (area s i) l fits) (component ready.built ready.there)

  lent_within : (kind : Kind) → (kind ≡ Numbers → NumbersOne s i l) → ValuesWithin kind (Wc s i) (Hc s i) (2 ^ 40) lent
  lent_within Samples n = record { most = λ x y c r. rw (lent_values x y c r) (ready.small x y c r) }
  lent_within Numbers n = record {
    number = λ x y c r. subst (λ (z : ℤ). z ≡ pos (nat_abs z)) (sym (lent_values x y c r)) ((n refl).number x y c r);
    most = λ x y c r. rw (lent_values x y c r) (ready.small x y c r);
  }

  -- as many cells given back, with g in them
  abbrev given_back : List ℤ → List ℤ
  given_back ys = take (start s i) l ++ (ys ++ drop (area s i) (drop (start s i) l))

  lent_given : (g : Band ℤ) (ys : List ℤ) → length ys ≡ length lent → ((x y : ℕ) → x < Wc s i → y < Hc s i → sample_at (Wc s i) ys x y ≡ g x y)
      → HoldingOne s i g l (given_back ys)
  lent_given g ys long made =
      let e : length ys ≡ area s i = long ∙ part_length (start s i) (area s i) l fits in
      record {
        same = back_length (start s i) (area s i) l fits ys e;
        values = λ x y c r. back_on (start s i) (area s i) l fits ys e (pos 0) (y * Wc s i + x) (offset_below s i x y c r) ∙ made x y c r;
        other = back_off (start s i) (area s i) l fits ys e (pos 0);
      }

  parts : Decomposed (Wc s i) (Hc s i) (N'x s i) (N'y s i)
  parts = (ready.built.sampled i ready.there).parts

  inverted_given : (kind : Kind) (ys : List ℤ) → Inverted kind (Wc s i) (Hc s i) (N'x s i) (N'y s i) lent ys
      → HoldingOne s i (filtered_of kind s l i) l (given_back ys)
  unfolding transformed
  inverted_given Samples ys t =
      lent_given (filtered_of Samples s l i) ys t.same
      (λ x y c r. t.made x y c r ∙ inverse_placed samples parts (sample_at (Wc s i) lent) (values_in s l i) lent_values x y c r)
  inverted_given Numbers ys t =
      lent_given (filtered_of Numbers s l i) ys t.same
      (λ x y c r. t.made x y c r
      ∙ ap pos (inverse_placed numbers parts (number_at (Wc s i) lent) (sizes (values_in s l) i) (λ x y c r. ap nat_abs (lent_values x y c r)) x y c r))

  -- the same as the code has it: from the b samples of the components before it and its own n, with r for what the layout says of it
  module _ {b n : ℕ} {r : Part} (before : b ≡ samples_before s i) (size : n ≡ area s i) (is : r ≡ component_of s i) where
    abbrev part : List ℤ
    part = take (2 * b + n - 2 * b) (drop (2 * b) l)

    abbrev part_back : List ℤ → List ℤ
    part_back ys = take (2 * b) l ++ (ys ++ drop (2 * b + n - 2 * b) (drop (2 * b) l))

    pub part_taken : Component r.w r.h s.nlx r.ny (length part)
    part_taken = rw (between (2 * b) n, before, size, is) lent_taken

    module _ (kind : Kind) where
      pub part_within : (kind ≡ Numbers → NumbersOne s i l) → ValuesWithin kind r.w r.h (2 ^ 40) part
      part_within numbers = rw (between (2 * b) n, before, size, is) (lent_within kind numbers)

      pub part_given : (ys : List ℤ) → Inverted kind r.w r.h s.nlx r.ny part ys → HoldingOne s i (filtered_of kind s l i) l (part_back ys)
      part_given ys t = rw (between (2 * b) n, before, size) (inverted_given kind ys (rw (between (2 * b) n, before, size, is) at t))

-- ---- the first k components

-- they hold the values v, and every other cell is as it was
pub record HoldingFirst (s : Shape) (k : ℕ) (v : Values ℤ) (l l' : List ℤ) : Type 0 where
  pub same : length l' ≡ length l
  pub values : (i x y : ℕ) → i < k → x < Wc s i → y < Hc s i → values_in s l' i x y ≡ v i x y
  pub other : (n : ℕ) → ((i : ℕ) → i < k → start s i ≤ n → start s i + area s i ≤ n) → cell l' n ≡ cell l n

module _ {s : Shape} {k : ℕ} {v : Values ℤ} {l l' : List ℤ} (f : HoldingFirst s k v l l') where
  -- a later component is as it was
  pub first_later : (i x y : ℕ) → k ≤ i → x < Wc s i → y < Hc s i → values_in s l' i x y ≡ values_in s l i x y
  first_later i x y h c r =
      f.other (start s i + (y * Wc s i + x)) (λ j b. stretches_apart s (λ e. omega arith) (y * Wc s i + x) (offset_below s i x y c r))

  -- one component more
  pub first_more : {w : Band ℤ} {l'' : List ℤ} → HoldingOne s k w l' l'' → ((x y : ℕ) → x < Wc s k → y < Hc s k → w x y ≡ v k x y)
      → HoldingFirst s (k + 1) v l l''
  first_more {w} {l''} one e =
      record {
        same = one.same ∙ f.same;
        values = λ i x y h c r. pick i x y h c r (ℕ_discrete i k);
        other = λ n h. one.other n (h k (omega arith)) ∙ f.other n (λ i b. h i (omega arith));
      }
    where
      pick : (i x y : ℕ) → i < k + 1 → x < Wc s i → y < Hc s i → Dec (i ≡ k) → values_in s l'' i x y ≡ v i x y
      pick i x y h c r (yes q) =
          let c' : x < Wc s k = rw q at c in
          let r' : y < Hc s k = rw q at r in
          rw q (one.values x y c' r' ∙ e x y c' r')
      pick i x y h c r (no q) =
          one.other (start s i + (y * Wc s i + x)) (stretches_apart s q (y * Wc s i + x) (offset_below s i x y c r))
          ∙ f.values i x y (omega (arith, q)) c r

  pub first_all : k ≡ s.nc → Holding s v l l'
  first_all e =
      record {
        same = f.same;
        values = λ i x y h. f.values i x y (omega (arith, h.component)) h.column h.row;
        other = λ n h. f.other n (λ i b. h i (omega arith));
      }

-- ---- a turn

module _ (kind : Kind) {s : Shape} {k : ℕ} {l l' : List ℤ} (ready : Ready s (2 ^ 40) l) (f : HoldingFirst s k (filtered_of kind s l) l l') (h : k < s.nc)
  where
    still : (x y : ℕ) → x < Wc s k → y < Hc s k → values_in s l' k x y ≡ values_in s l k x y
    still x y c r = first_later f k x y (le_refl k) c r

    pub first_ready : ReadyOne s (2 ^ 40) k l'
    first_ready =
        record {
          built = ready.built;
          there = h;
          room = rw f.same ready.room;
          small = λ x y c r. rw (still x y c r) (ready.small k x y (record { component = h; column = c; row = r }));
        }

    pub first_numbers : HoldingNumbers s l → NumbersOne s k l'
    first_numbers n = record {
      number = λ x y c r. subst (λ (z : ℤ). z ≡ pos (nat_abs z)) (sym (still x y c r)) (n.number k x y (record { component = h; column = c; row = r }));
    }

    -- what still stands as it stood is transformed as it was
    pub first_turn : {l'' : List ℤ} → HoldingOne s k (filtered_of kind s l' k) l' l'' → HoldingFirst s (k + 1) (filtered_of kind s l) l l''
    first_turn one = first_more f one (filtered_placed ready.built kind k h l' l still)
