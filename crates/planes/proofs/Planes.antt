-- The list of all samples: how long it is, what stands at each place, and how it is written component by component. Assumes nothing.
use mathlib.Core.Path.{◌≡◌, refl, sym, subst, ap, ◌∙◌}
use mathlib.Core.List.{List, ◌++◌, map, append_assoc}
use Prim.Native.Nat.{ℕ, zero, suc, ◌+◌, ◌*◌, ◌-◌, ◌/◌, ◌%◌, ◌^◌, ◌≤◌, ◌<◌}
use native.Mathlib.Nat.{mul_comm, div-add-mod'}
use native.Mathlib.Numerals.{add-one}
use native.Mathlib.Decide.{dec_lt}
use native.Mathlib.Omega.{arith}
use lib.IntN.{ℤ, pos, nat_abs}
use lib.ListN.{length, take, drop, get_or, length-append, length-drop, length-map, get_or-append, get_or-map, get_or-eq_default}
use lib.Seq.{length-take-le, take_all, take_at, get_or-append-add, drop-drop, ext_get_or}
use Rattle.whole.specs.Cells.{cell}
use Rattle.whole.proofs.Lists.{listed_length, listed_at}
use Rattle.wavelet.specs.Transform.{Band}
use Rattle.output.specs.Linear.{sample, distance, Precisions, Lent, HoldingNumbers}
use Rattle.layout.specs.declared.Shape.{Shape}
use Rattle.layout.specs.Bands.{Wc, Hc}
use Rattle.layout.specs.Built.{Built}
use Rattle.layout.specs.Cells.{area, samples, start}
use Rattle.layout.proofs.Cells.{row_of_cell, column_of_cell, starts_up}
use Rattle.planes.specs.Values.{Values, sampled, plane, planes}
use Rattle.planes.specs.Places.{values_in, Inside, Holding}
use Rattle.planes.specs.Numbers.{measured, held, sizes, NumbersOne}
use Rattle.planes.specs.Components.{ReadyOne, with_plane}
use Rattle.planes.proofs.Parts.{between, part_length, part_at}
use Rattle.planes.proofs.Stretches.{offset_below, row_below, stretch_fits, stretch_small, stretch_number}

-- ---- its length

by_rows : (s : Shape) (i : ℕ) → Hc s i * Wc s i ≡ area s i
unfolding area
by_rows s i = mul_comm (Hc s i) (Wc s i)

pub plane_length : (s : Shape) (i : ℕ) (f : Band ℕ) → length (plane (Wc s i) (Hc s i) f) ≡ area s i
plane_length s i f = listed_length (Hc s i * Wc s i) (λ j. f (j % Wc s i) (j / Wc s i)) ∙ by_rows s i

pub planes_length : (s : Shape) (f : Values ℕ) (n : ℕ) → length (planes s f n) ≡ samples s n
unfolding planes samples
planes_length s f zero = refl
planes_length s f (suc n) = simp length-append (omega (arith, planes_length s f n, plane_length s n (f n)))

-- ---- its elements

plane_at : (s : Shape) (i : ℕ) (f : Band ℕ) (x y : ℕ) → x < Wc s i → y < Hc s i → get_or (plane (Wc s i) (Hc s i) f) (y * Wc s i + x) 0 ≡ f x y
plane_at s i f x y c r =
    listed_at (Hc s i * Wc s i) (λ j. f (j % Wc s i) (j / Wc s i)) 0 (y * Wc s i + x) (omega (arith, offset_below s i x y c r, by_rows s i))
    ∙ (λ j. f (column_of_cell (Wc s i) y x c j) (row_of_cell (Wc s i) y x c j))

-- a list of as many elements is the plane of what they are
pub plane_made : (s : Shape) (i : ℕ) (f : Band ℕ) (d : ℕ) (ys : List ℕ) → length ys ≡ area s i
    → ((j : ℕ) → j < area s i → get_or ys j d ≡ f (j % Wc s i) (j / Wc s i)) → ys ≡ plane (Wc s i) (Hc s i) f
plane_made s i f d ys long at =
    ext_get_or d ys (plane (Wc s i) (Hc s i) f) (long ∙ sym (plane_length s i f))
    (λ j h. at j (omega arith) ∙ sym (listed_at (Hc s i * Wc s i) (λ j. f (j % Wc s i) (j / Wc s i)) d j (omega (arith, by_rows s i))))

-- of the first n components
first_at : (s : Shape) (f : Values ℕ) (n i x y : ℕ) → i < n → x < Wc s i → y < Hc s i → get_or (planes s f n) (samples s i + (y * Wc s i + x)) 0 ≡ f i x y
unfolding planes
first_at s f zero i x y h c r = absurd (omega arith)
first_at s f (suc n) i x y h c r = pick (dec_lt i n) (λ l. first_at s f n i x y l c r)
  where
    all : List ℕ
    all = planes s f n ++ plane (Wc s n) (Hc s n) (f n)

    pick : Dec (i < n) → (i < n → get_or (planes s f n) (samples s i + (y * Wc s i + x)) 0 ≡ f i x y)
        → get_or all (samples s i + (y * Wc s i + x)) 0 ≡ f i x y
    pick (yes l) before =
        get_or-append (planes s f n) (plane (Wc s n) (Hc s n) (f n)) 0 (samples s i + (y * Wc s i + x))
        (omega (arith, planes_length s f n, starts_up s i n l, offset_below s i x y c r))
        ∙ before l
    pick (no l) before = last (omega arith)
      where
        last : i ≡ n → get_or all (samples s i + (y * Wc s i + x)) 0 ≡ f i x y
        last e =
            let c' : x < Wc s n = rw e at c in
            let r' : y < Hc s n = rw e at r in
            rw e
            (ap (λ (m : ℕ). get_or all (m + (y * Wc s n + x)) 0) (sym (planes_length s f n))
            ∙ get_or-append-add (planes s f n) (plane (Wc s n) (Hc s n) (f n)) (y * Wc s n + x) 0
            ∙ plane_at s n (f n) x y c' r')

pub planes_at : (s : Shape) (f : Values ℕ) (i x y : ℕ) → Inside s i x y → get_or (planes s f s.nc) (samples s i + (y * Wc s i + x)) 0 ≡ f i x y
planes_at s f i x y p = first_at s f s.nc i x y p.component p.column p.row

-- each element is the sample of some place
pub record Place (s : Shape) (j : ℕ) : Type 0 where
  pub i : ℕ
  pub x : ℕ
  pub y : ℕ
  pub inside : Inside s i x y
  pub is : samples s i + (y * Wc s i + x) ≡ j

pub every_place : {s : Shape} → Built s → (j : ℕ) → j < samples s s.nc → Place s j
unfolding samples
every_place {s} built j = first s.nc (omega arith)
  where
    first : (n : ℕ) → n ≤ s.nc → j < samples s n → Place s j
    first zero h l = absurd (omega arith)
    first (suc n) h l = pick (dec_lt j (samples s n)) (first n (omega arith))
      where
        own : samples s n ≤ j → Place s j
        own k =
            let m : ℕ = j - samples s n in
            let p = row_below built h m (omega arith) in
            record {
              i = n;
              x = m % Wc s n;
              y = m / Wc s n;
              inside = record { component = h; column = p.0; row = p.1 };
              is = omega (arith, div-add-mod' m (Wc s n));
            }

        pick : Dec (j < samples s n) → (j < samples s n → Place s j) → Place s j
        pick (yes b) before = before b
        pick (no b) before = own (omega arith)

-- what holds of the sample at each place holds of each element
pub planes_each : {s : Shape} → Built s → (f : Values ℕ) (P : ℕ → Type 0) → ((i x y : ℕ) → Inside s i x y → P (f i x y))
    → (j : ℕ) → j < samples s s.nc → P (get_or (planes s f s.nc) j 0)
planes_each {s} built f P given j h =
    let p = every_place built j h in
    let e : get_or (planes s f s.nc) j 0 ≡ f p.i p.x p.y =
    ap (λ (n : ℕ). get_or (planes s f s.nc) n 0) (sym p.is) ∙ planes_at s f p.i p.x p.y p.inside in
    rw e (given p.i p.x p.y p.inside)

-- a bound of each place is one of each element, and of the 0 that is read past them
pub planes_below : {s : Shape} → Built s → (f : Values ℕ) {b : ℕ} → 0 < b → ((i x y : ℕ) → Inside s i x y → f i x y < b)
    → (j : ℕ) → get_or (planes s f s.nc) j 0 < b
planes_below {s} built f {b} h given j = pick (dec_lt j (samples s s.nc))
  where
    pick : Dec (j < samples s s.nc) → get_or (planes s f s.nc) j 0 < b
    pick (yes l) = planes_each built f (λ (n : ℕ). n < b) given j l
    pick (no l) = rw (get_or-eq_default (planes s f s.nc) 0 {n = j} (omega (arith, planes_length s f s.nc))) h

-- pictures that agree at each place have one list
pub planes_same : {s : Shape} → Built s → (f g : Values ℕ) → ((i x y : ℕ) → Inside s i x y → f i x y ≡ g i x y)
    → planes s f s.nc ≡ planes s g s.nc
planes_same {s} built f g given =
    ext_get_or 0 (planes s f s.nc) (planes s g s.nc) (planes_length s f s.nc ∙ sym (planes_length s g s.nc))
    (λ j h. at (every_place built j (omega (arith, planes_length s f s.nc))))
  where
    at : {j : ℕ} → Place s j → get_or (planes s f s.nc) j 0 ≡ get_or (planes s g s.nc) j 0
    at p =
        rw (sym p.is)
        (planes_at s f p.i p.x p.y p.inside ∙ given p.i p.x p.y p.inside ∙ sym (planes_at s g p.i p.x p.y p.inside))

-- what is written of the values that the cells were given
pub planes_given : {s : Shape} {v : Values ℤ} {l l' : List ℤ} → Built s → Holding s v l l' → (f : ℕ → ℤ → ℕ)
    → planes s (λ i x y. f i (values_in s l' i x y)) s.nc ≡ planes s (λ i x y. f i (v i x y)) s.nc
planes_given {s} {v} {l' = l'} built h f =
    planes_same built (λ i x y. f i (values_in s l' i x y)) (λ i x y. f i (v i x y)) (λ i x y p. ap (f i) (h.values i x y p))

-- the samples of the values; the distances of numbers
pub planes_held : {s : Shape} {v : Values ℤ} {l l' : List ℤ} → Built s → Holding s v l l' → (Bw : ℕ) (B : ℕ → ℕ)
    → planes s (sampled Bw B (values_in s l')) s.nc ≡ planes s (sampled Bw B v) s.nc
unfolding sampled
planes_held built h Bw B = planes_given built h (λ i. sample Bw (B i))

pub distances_held : {s : Shape} {n : Values ℕ} {l l' : List ℤ} → Built s → Holding s (held n) l l' → (Bw : ℕ) (B : ℕ → ℕ)
    → planes s (measured Bw B (sizes (values_in s l'))) s.nc ≡ planes s (measured Bw B n) s.nc
unfolding measured
distances_held built h Bw B = planes_given built h (λ i z. distance Bw (B i) (nat_abs z))

-- ---- a component's samples, written to their part of the list

-- as the code has it: behind the b samples of the components before it, its own n
pub plane_back : (s : Shape) (i : ℕ) (f : Band ℕ) (out : List ℕ) {b n : ℕ} → b ≡ samples s i → n ≡ area s i → {ys : List ℕ} → ys ≡ plane (Wc s i) (Hc s i) f
    → take b out ++ (ys ++ drop (b + n - b) (drop b out)) ≡ with_plane s i f out
plane_back s i f out {b} {n} before size {ys} made =
    sym (append_assoc (take b out) ys (drop (b + n - b) (drop b out)))
    ∙ ap (λ (t : List ℕ). take b out ++ ys ++ t) (drop-drop (b + n - b) b out)
    ∙ (λ j. take (before j) out ++ made j ++ drop (before j + (between b n ∙ size) j) out)

module _ {s : Shape} {i : ℕ} {l : List ℤ} (ready : ReadyOne s (2 ^ 60) i l) where
  abbrev stretch : List ℤ
  stretch = take (area s i) (drop (start s i) l)

  stretch_length : length stretch ≡ area s i
  stretch_length = part_length (start s i) (area s i) l (stretch_fits ready)

  stretch_at : (j : ℕ) → j < area s i → cell stretch j ≡ cell l (start s i + j)
  stretch_at = part_at (start s i) (area s i) l (stretch_fits ready) (pos 0)

  -- what f makes of the component's stretch
  plane_is : (f : ℤ → ℕ) → map f stretch ≡ plane (Wc s i) (Hc s i) (λ x y. f (values_in s l i x y))
  plane_is f =
      plane_made s i (λ x y. f (values_in s l i x y)) (f (pos 0)) (map f stretch) (length-map stretch f ∙ stretch_length)
      (λ j h. get_or-map f stretch j (pos 0) ∙ ap f (stretch_at j h) ∙ ap (λ (n : ℕ). f (cell l (start s i + n))) (sym (div-add-mod' j (Wc s i))))

  module _ (out : List ℕ) (long : length out ≡ samples s s.nc) {b n : ℕ} (before : b ≡ samples s i) (size : n ≡ area s i) where
    abbrev values_part : List ℤ
    values_part = take (2 * b + n - 2 * b) (drop (2 * b) l)

    pub samples_taken : {Bw B : ℕ} → Precisions Bw B → Lent Bw B values_part (take (b + n - b) (drop b out))
    samples_taken bits = rw (between (2 * b) n, between b n, before, size) (record {
      precisions = bits;
      small = record { most = λ j h. small j (omega (arith, stretch_length)) };
      room = stretch_length ∙ sym (part_length (samples s i) (area s i) out (omega (arith, starts_up s i s.nc ready.there)));
    })
      where
        small : (j : ℕ) → j < area s i → nat_abs (cell stretch j) ≤ 2 ^ 60
        small j h = rw (stretch_at j h) (stretch_small ready j h)

    pub numbers_taken : NumbersOne s i l → HoldingNumbers values_part
    numbers_taken given = rw (between (2 * b) n, before, size) (record { number = λ j h. number j (omega (arith, stretch_length)) })
      where
        number : (j : ℕ) → j < area s i → cell stretch j ≡ pos (nat_abs (cell stretch j))
        number j h = subst (λ (z : ℤ). z ≡ pos (nat_abs z)) (sym (stretch_at j h)) (stretch_number ready given j h)

    -- what f makes of the values, such as Annex G's samples, given back
    pub plane_given : (f : ℤ → ℕ) {ys : List ℕ} → ys ≡ map f values_part
        → take b out ++ (ys ++ drop (b + n - b) (drop b out)) ≡ with_plane s i (λ x y. f (values_in s l i x y)) out
    plane_given f e = plane_back s i (λ x y. f (values_in s l i x y)) out before size ((rw (between (2 * b) n, before, size) at e) ∙ plane_is f)

-- ---- the first k components are written
pub record Written (s : Shape) (f : Values ℕ) (k : ℕ) (out : List ℕ) : Type 0 where
  pub long : length out ≡ samples s s.nc
  pub same : take (samples s k) out ≡ planes s f k

pub written_none : {s : Shape} {f : Values ℕ} {out : List ℕ} → length out ≡ samples s s.nc → Written s f 0 out
unfolding planes samples
written_none e = record { long = e; same = refl }

module _ {s : Shape} {f : Values ℕ} {k : ℕ} {out : List ℕ} (w : Written s f k out) where
  pub written_more : {out' : List ℕ} → k < s.nc → out' ≡ with_plane s k (f k) out → Written s f (k + 1) out'
  unfolding planes samples
  written_more {out'} h e =
      record {
        long = ap length e ∙ simp (length-append, length-drop) (omega (arith, front, plane_length s k (f k), w.long, starts_up s k s.nc h));
        same = rw (add-one, e, take_at start rest (samples s k + area s k) (simp length-append (omega (arith, front, plane_length s k (f k)))), w.same);
      }
    where
      start : List ℕ
      start = take (samples s k) out ++ plane (Wc s k) (Hc s k) (f k)

      rest : List ℕ
      rest = drop (samples s k + area s k) out

      front : length (take (samples s k) out) ≡ samples s k
      front = length-take-le (samples s k) out (omega (arith, w.long, starts_up s k s.nc h))

  pub written_all : k ≡ s.nc → out ≡ planes s f s.nc
  written_all e = sym (take_all (samples s k) out (omega (arith, w.long, ap (samples s) e))) ∙ w.same ∙ ap (planes s f) e
