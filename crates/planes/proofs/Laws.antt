-- Laws of the whole way from coefficients to samples: sizes, which coefficients count, and how far a sample may be off. Assumes nothing.
use mathlib.Core.Path.{◌≡◌, sym, subst, ap, ◌∙◌}
use mathlib.Core.List.{List}
use Prim.Native.Nat.{ℕ, ◌+◌, ◌*◌, ◌/◌, ◌%◌, ◌^◌, ◌≤◌, ◌<◌}
use native.Mathlib.Nat.{le_refl, div-add-mod'}
use native.Mathlib.Omega.{arith}
use lib.IntN.{ℤ, pos, nat_abs}
use lib.Seq.{ext_get_or}
use Rattle.whole.specs.Cells.{cell}
use Rattle.whole.specs.Numbers.{Within, Near}
use Rattle.whole.specs.declared.Kind.{Kind}
use Rattle.whole.specs.declared.Kind.TheVariants.{Samples, Numbers}
use Rattle.wavelet.specs.Filter.{samples}
use Rattle.wavelet.specs.Transform.{Kind as FilterType}
use Rattle.wavelet.specs.Distance.{numbers, component_number}
use Rattle.wavelet.proofs.Components.{inverse_same, inverse_within, inverse_small, inverse_joined, component_within, component_most, placed}
use Rattle.colour.specs.Rct.{numbers_rct}
use Rattle.colour.proofs.Table.{number_same, number_most}
use Rattle.output.specs.Linear.{sample, distance}
use Rattle.output.proofs.Laws.{sample_near, sample_below}
use Rattle.layout.specs.declared.Shape.{Shape}
use Rattle.layout.specs.Bands.{Wc, N'x, N'y}
use Rattle.layout.specs.Built.{Built}
use Rattle.layout.specs.Cells.{start}
use Rattle.planes.specs.Values.{Bands, Coefficients, Values, Every, transformed, coloured, sampled, samples_of}
use Rattle.planes.specs.Places.{values_in, coefficients_in, Inside, Colours, Ready, Holding}
use Rattle.planes.specs.Numbers.{numbered, numbers_of, held, numbers_in, HoldingNumbers, filtered_of, coloured_of}
use Rattle.planes.proofs.Stretches.{component, row_below, Owner, within, outside, owner}
use Rattle.planes.proofs.Colouring.{Behind, same_place, coloured_within, coloured_same, coloured_size}
use Rattle.planes.proofs.EitherKind.{kept_same}

-- ---- sizes: no value leaves the machine's range

module _ {s : Shape} {l : List ℤ} (ready : Ready s (2 ^ 40) l) where
  pub transformed_small : (i x y : ℕ) → Inside s i x y → nat_abs (transformed s (coefficients_in s l) i x y) ≤ 2 ^ 45
  unfolding transformed
  transformed_small i x y p =
      omega (
        arith,
        inverse_small (component ready.built p.component) (values_in s l i)
            (λ c r hc hr. ready.small i c r (record { component = p.component; column = hc; row = hr })) x y p.column p.row,
      )

  -- numbers of at most 2 ^ 40 too
  numbered_small : (i x y : ℕ) → Inside s i x y → numbered s (numbers_in s l) i x y ≤ 2 ^ 45
  numbered_small i x y p =
      let c = component ready.built p.component in
      let parts = c.parts in
      omega (
        arith,
        c.levels,
        c.fewer,
        inverse_joined parts (numbers_in s l i) (λ _ _ _. 2 ^ 40)
            (λ k dx dy x y h. ready.small i _ _ (record { component = p.component; column = (placed h).0; row = (placed h).1 })) x y p.column p.row,
        component_most (N'x s i) (N'y s i) parts.no_more (λ _ _ _. 2 ^ 40) (2 ^ 40) (λ _ _ _ _. le_refl (2 ^ 40)),
      )

  pub filtered_small : (kind : Kind) (i x y : ℕ) → Inside s i x y → nat_abs (filtered_of kind s l i x y) ≤ 2 ^ 45
  filtered_small Samples = transformed_small
  filtered_small Numbers = numbered_small

  pub numbers_small : {Cpih : ℕ} → Colours s Cpih → (i x y : ℕ) → Inside s i x y → numbers_of s Cpih (numbers_in s l) i x y ≤ 2 ^ 60
  numbers_small {Cpih} colours i x y p =
      omega (
        arith,
        number_most Cpih (2 ^ 45) (λ j. numbered s (numbers_in s l) j x y)
            (λ one j h. numbered_small j x y (same_place ready.built (colours.full one) p j (omega (arith, colours.three one)))) i (numbered_small i x y p),
      )

  pub values_small : {Cpih : ℕ} → Colours s Cpih
      → (i x y : ℕ) → Inside s i x y → nat_abs (coloured Cpih (transformed s (coefficients_in s l)) i x y) ≤ 2 ^ 60
  unfolding numbers_rct
  values_small {Cpih} colours =
      coloured_size ready.built colours room (transformed s (coefficients_in s l)) transformed_small
    where
      room : Behind Cpih (λ _. 2 ^ 45) (λ _. 2 ^ 60)
      room = record { none = λ _ _. omega arith; red = λ _. omega arith; green = λ _. omega arith; blue = λ _. omega arith; rest = λ _ _. omega arith }

-- ---- cells that were given values

-- they are ready for the next step, as far as the values are small
pub held_ready : {s : Shape} {bound bound' : ℕ} {v : Values ℤ} {l l' : List ℤ} → Ready s bound l
    → ((i x y : ℕ) → Inside s i x y → nat_abs (v i x y) ≤ bound') → Holding s v l l' → Ready s bound' l'
held_ready ready small h =
    record { built = ready.built; room = rw h.same ready.room; small = λ i x y p. rw (h.values i x y p) (small i x y p) }

-- there is one way to give them
pub held_unique : {s : Shape} {v : Values ℤ} {l l' l'' : List ℤ} → Built s → Holding s v l l' → Holding s v l l'' → l' ≡ l''
held_unique {s} {v} {l} {l'} {l''} built h g = ext_get_or (pos 0) l' l'' (h.same ∙ sym g.same) (λ j _. at j (owner s s.nc j))
  where
    at : (j : ℕ) → Owner s s.nc j → cell l' j ≡ cell l'' j
    at j (outside f) = h.other j f ∙ sym (g.other j f)
    at j (within i n b m e) =
        let p = row_below built b n m in
        let inside : Inside s i (n % Wc s i) (n / Wc s i) = record { component = b; column = p.0; row = p.1 } in
        let q : start s i + (n / Wc s i * Wc s i + n % Wc s i) ≡ j = omega (arith, div-add-mod' n (Wc s i)) in
        subst (λ (k : ℕ). cell l' k ≡ cell l'' k) q (h.values i (n % Wc s i) (n / Wc s i) inside ∙ sym (g.values i (n % Wc s i) (n / Wc s i) inside))

-- they hold numbers where they were given numbers, as Annex E gives of numbers
pub numbers_held : {s : Shape} {n : Values ℕ} {l l' : List ℤ} → Holding s (held n) l l' → HoldingNumbers s l'
numbers_held h = record { number = λ i x y p. rw (h.values i x y p) }

pub held_numbers : {s : Shape} {kind : Kind} {l l' : List ℤ} → kind ≡ Numbers → Holding s (filtered_of kind s l) l l' → HoldingNumbers s l'
held_numbers e h = numbers_held (rw e at h)

-- Annex F over what Annex E left
pub held_coloured : {s : Shape} {Cpih : ℕ} {v : Values ℤ} {l l' l'' : List ℤ} → Built s → Colours s Cpih → (kind : Kind) → Holding s v l l'
    → Holding s (coloured_of kind Cpih (values_in s l')) l' l'' → Holding s (coloured_of kind Cpih v) l l''
held_coloured {s} {v = v} {l' = l'} built colours kind h g =
    record {
      same = g.same ∙ h.same;
      values = λ i x y p. g.values i x y p ∙ kept_same built colours kind (values_in s l') v h.values i x y p;
      other = λ n o. g.other n o ∙ h.other n o;
    }

-- ---- which coefficients count

module _ {s : Shape} (built : Built s) where
  pub transformed_same : (T T' : Coefficients) → Every s (λ i k dx dy x y. T i k dx dy x y ≡ T' i k dx dy x y)
      → (i x y : ℕ) → Inside s i x y → transformed s T i x y ≡ transformed s T' i x y
  unfolding transformed
  transformed_same T T' given i x y p =
      inverse_same (built.sampled i p.component).parts samples (T i) (T' i) (given i p.component) x y p.column p.row

  -- numbers that agree on every coefficient
  pub numbers_of_same : {Cpih : ℕ} → Colours s Cpih → (N N' : Bands ℕ) → Every s (λ i k dx dy x y. N i k dx dy x y ≡ N' i k dx dy x y)
      → (i x y : ℕ) → Inside s i x y → numbers_of s Cpih N i x y ≡ numbers_of s Cpih N' i x y
  numbers_of_same {Cpih} colours N N' given i x y p =
      number_same Cpih (λ j. numbered s N j x y) (λ j. numbered s N' j x y)
      (λ one j h. at j (same_place built (colours.full one) p j (omega (arith, colours.three one)))) i (at i p)
    where
      at : (j : ℕ) → Inside s j x y → numbered s N j x y ≡ numbered s N' j x y
      at j q = inverse_same (built.sampled j q.component).parts numbers (N j) (N' j) (given j q.component) x y q.column q.row

  -- ---- distance

  -- a number for each coefficient, and one for each band: the numbers before Annex F
  pub transformed_within_places : (N : Bands ℕ) (T T' : Coefficients)
      → Every s (λ i k dx dy x y. Within (N i k dx dy x y) (T i k dx dy x y) (T' i k dx dy x y))
      → (i x y : ℕ) → Inside s i x y → Within (numbered s N i x y) (transformed s T i x y) (transformed s T' i x y)
  unfolding transformed
  transformed_within_places N T T' given i x y p =
      inverse_within (built.sampled i p.component).parts (T i) (T' i) (N i) (given i p.component) x y p.column p.row

  pub transformed_within : (M : ℕ → FilterType → ℕ → ℕ → ℕ) (T T' : Coefficients)
      → Every s (λ i k dx dy x y. Within (M i k dx dy) (T i k dx dy x y) (T' i k dx dy x y))
      → (i x y : ℕ) → Inside s i x y → Within (component_number (N'x s i) (N'y s i) (M i)) (transformed s T i x y) (transformed s T' i x y)
  unfolding transformed
  transformed_within M T T' given i x y p =
      component_within (built.sampled i p.component).parts (M i) (T i) (T' i) (given i p.component) x y p.column p.row

  module _ {Cpih : ℕ} (colours : Colours s Cpih) (Bw : ℕ) (B : ℕ → ℕ) where
    -- equal coefficients make equal samples
    pub samples_of_same : (T T' : Coefficients) → Every s (λ i k dx dy x y. T i k dx dy x y ≡ T' i k dx dy x y)
        → (i x y : ℕ) → Inside s i x y → samples_of s Cpih Bw B T i x y ≡ samples_of s Cpih Bw B T' i x y
    unfolding sampled
    samples_of_same T T' given i x y p =
        ap (sample Bw (B i)) (coloured_same built colours (transformed s T) (transformed s T') (transformed_same T T' given) i x y p)

    -- values that differ by at most e before Annex F, with numbers n behind it, make samples that differ by at most n's distance
    pub sampled_near : {e n : ℕ → ℕ} → Behind Cpih e n → (v w : Values ℤ) (i x y : ℕ) → Inside s i x y
        → ((k : ℕ) → Inside s k x y → Within (e k) (v k x y) (w k x y))
        → Near (distance Bw (B i) (n i)) (sampled Bw B (coloured Cpih v) i x y) (sampled Bw B (coloured Cpih w) i x y)
    unfolding sampled
    sampled_near behind v w i x y p given = sample_near Bw (B i) (coloured_within built colours behind v w i x y p given)

    -- place by place: coefficients that differ by at most their numbers
    pub samples_of_near_places : (N : Bands ℕ) (n : Values ℕ) → ((x y : ℕ) → Behind Cpih (λ i. numbered s N i x y) (λ i. n i x y))
        → (T T' : Coefficients) → Every s (λ i k dx dy x y. Within (N i k dx dy x y) (T i k dx dy x y) (T' i k dx dy x y))
        → (i x y : ℕ) → Inside s i x y → Near (distance Bw (B i) (n i x y)) (samples_of s Cpih Bw B T i x y) (samples_of s Cpih Bw B T' i x y)
    samples_of_near_places N n behind T T' given i x y p =
        sampled_near (behind x y) (transformed s T) (transformed s T') i x y p (λ k. transformed_within_places N T T' given k x y)

    -- with one number for each band: coefficients that differ by at most it make samples that differ by at most their component's distance
    pub samples_of_near : (M : ℕ → FilterType → ℕ → ℕ → ℕ) {n : ℕ → ℕ} → Behind Cpih (λ i. component_number (N'x s i) (N'y s i) (M i)) n
        → (T T' : Coefficients) → Every s (λ i k dx dy x y. Within (M i k dx dy) (T i k dx dy x y) (T' i k dx dy x y))
        → (i x y : ℕ) → Inside s i x y → Near (distance Bw (B i) (n i)) (samples_of s Cpih Bw B T i x y) (samples_of s Cpih Bw B T' i x y)
    samples_of_near M behind T T' given i x y p =
        sampled_near behind (transformed s T) (transformed s T') i x y p (λ k. transformed_within M T T' given k x y)

-- samples have their component's bits
pub samples_below : (s : Shape) (Cpih Bw : ℕ) (B : ℕ → ℕ) (T : Coefficients) (i x y : ℕ) → samples_of s Cpih Bw B T i x y < 2 ^ B i
unfolding sampled
samples_below s Cpih Bw B T i x y = sample_below Bw (B i) (coloured Cpih (transformed s T) i x y)
