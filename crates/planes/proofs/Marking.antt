-- The marks are right: what `numbers` and `marks` make of cells that say which coefficients are lost is the mark of each sample, and a sample without
-- mark is the same whatever the lost coefficients were. Assumes nothing.
use mathlib.Core.Path.{◌≡◌, refl, sym, ap, ◌∙◌}
use mathlib.Core.Bool.{Bool, true, false, ◌||◌}
use mathlib.Core.List.{List}
use Prim.Native.Nat.{ℕ, ◌+◌, ◌<◌}
use native.Mathlib.Decide.{ℕ_discrete}
use native.Mathlib.Omega.{arith}
use borrow.Author.Tests.{eq-eqb, ne_eqb}
use lib.IntN.{ℤ, pos, nat_abs}
use Rattle.whole.specs.Numbers.{ceil_div}
use Rattle.wavelet.specs.Filter.{Steps, samples}
use Rattle.wavelet.specs.Marks.{touched, marked}
use Rattle.wavelet.proofs.Related.{Keeps}
use Rattle.wavelet.proofs.Transforms.{inverse_keeps}
use Rattle.wavelet.proofs.Marks.{inverse_shielded, inverse_raised}
use Rattle.colour.specs.Rct.{inverse_rct, numbers_rct, marks_rct}
use Rattle.colour.specs.Table.{coloured_number, coloured_mark}
use Rattle.colour.specs.declared.Pixel.{Pixel}
use Rattle.colour.proofs.Table.{table_pairs, table_each, coloured_by, table_shielded, Unmarked, unmarked_rct}
use Rattle.output.specs.Linear.{sample}
use Rattle.layout.specs.declared.Shape.{Shape}
use Rattle.layout.specs.Built.{Built}
use Rattle.planes.specs.Values.{Bands, Coefficients, Every, filtered, transformed, coloured, sampled, samples_of, planes}
use Rattle.planes.specs.Places.{coefficients_in, Inside, Colours, Holding}
use Rattle.planes.specs.Numbers.{numbered, numbers_of, held, numbers_in}
use Rattle.planes.specs.Marks.{touched_by, mark_of, bit, cell_mark, marks_in}
use Rattle.planes.proofs.Colouring.{same_place}
use Rattle.planes.proofs.Planes.{planes_same}

-- ---- Annex F: numbers that are not 0 are marks, behind it as before it

-- a number that is 0 where both are and nowhere else
marked_or : (a b n : ℕ) → (0 < a → 0 < n) → (0 < b → 0 < n) → (a ≡ 0 → b ≡ 0 → n ≡ 0) → marked a || marked b ≡ marked n
marked_or a b n p q z = pick (ℕ_discrete a 0) (ℕ_discrete b 0)
  where
    none : (m : ℕ) → m ≡ 0 → marked m ≡ false
    none m e = rw (eq-eqb m 0 e)

    some : (m : ℕ) → 0 < m → marked m ≡ true
    some m h = rw (ne_eqb m 0 (λ e. absurd (omega arith)))

    pick : Dec (a ≡ 0) → Dec (b ≡ 0) → marked a || marked b ≡ marked n
    pick (yes d) (yes e) = rw (none a d, none b e) (sym (none n (z d e)))
    pick (yes d) (no e) = rw (none a d, some b (omega arith)) (sym (some n (q (omega arith))))
    pick (no d) _ = rw (some a (omega arith)) (sym (some n (p (omega arith))))

-- the marks of numbers
abbrev pub marks_of : Pixel ℕ → Pixel Bool
marks_of e = record { c0 = marked e.c0; c1 = marked e.c1; c2 = marked e.c2 }

pub rct_raised : (e : Pixel ℕ) → marks_rct (marks_of e) ≡ marks_of (numbers_rct e)
unfolding marks_rct numbers_rct
rct_raised e = λ j. record { c0 = (ap (λ (b : Bool). b || marked e.c2) green ∙ more e.c2) j; c1 = green j; c2 = (ap (λ (b : Bool). b || marked e.c1) green ∙ more e.c1) j }
  where
    g : ℕ
    g = e.c0 + ceil_div (e.c1 + e.c2) 4

    green : marked e.c0 || (marked e.c1 || marked e.c2) ≡ marked g
    green =
        ap (λ (b : Bool). marked e.c0 || b) (marked_or e.c1 e.c2 (e.c1 + e.c2) (λ h. omega arith) (λ h. omega arith) (λ p q. omega arith))
        ∙ marked_or e.c0 (e.c1 + e.c2) g (λ h. omega arith) (λ h. omega arith) (λ p q. omega arith)

    more : (n : ℕ) → marked g || marked n ≡ marked (g + n)
    more n = marked_or g n (g + n) (λ h. omega arith) (λ h. omega arith) (λ p q. omega arith)

pub number_raised : (Cpih : ℕ) (n : ℕ → ℕ) (m : ℕ → Bool) → (Cpih ≡ 1 → (j : ℕ) → j < 3 → m j ≡ marked (n j)) → (i : ℕ) → m i ≡ marked (n i)
    → coloured_mark Cpih m i ≡ marked (coloured_number Cpih n i)
unfolding coloured_mark coloured_number
number_raised Cpih n m same = table_pairs (λ b k. b ≡ marked k) m n Cpih (λ one. (λ j. (made one j).c0, λ j. (made one j).c1, λ j. (made one j).c2))
  where
    made : Cpih ≡ 1 → marks_rct (record { c0 = m 0; c1 = m 1; c2 = m 2 }) ≡ marks_of (numbers_rct (record { c0 = n 0; c1 = n 1; c2 = n 2 }))
    made one =
        (λ j. marks_rct (record { c0 = same one 0 (omega arith) j; c1 = same one 1 (omega arith) j; c2 = same one 2 (omega arith) j }))
        ∙ rct_raised (record { c0 = n 0; c1 = n 1; c2 = n 2 })

-- ---- a picture

bit_marked : (b : Bool) → b ≡ marked (bit b)
bit_marked true = refl
bit_marked false = refl

-- without a mark before it a step leaves none
steps_unmarked : Keeps touched touched touched (λ m _ _. m ≡ false)
unfolding touched
steps_unmarked = record { at_even = λ p q r. rw (p, q, r); at_odd = λ p q r. rw (p, q, r); of_even = λ p. p }

module _ {s : Shape} (built : Built s) {Cpih : ℕ} (colours : Colours s Cpih) (lost : Bands Bool) where
  -- the components that the reversible transform reads have the same place
  first_three : {i x y : ℕ} → Inside s i x y → Cpih ≡ 1 → (j : ℕ) → j < 3 → Inside s j x y
  first_three p one j h = same_place built (colours.full one) p j (omega (arith, colours.three one))

  -- a number for each coefficient that is not 0 where it is lost: the sample's number is not 0 where the sample is marked
  pub mark_raised : (N : Bands ℕ) → Every s (λ i k dx dy x y. lost i k dx dy x y ≡ marked (N i k dx dy x y))
      → (i x y : ℕ) → Inside s i x y → mark_of s Cpih lost i x y ≡ marked (numbers_of s Cpih N i x y)
  unfolding mark_of
  mark_raised N given i x y p =
      number_raised Cpih (λ j. numbered s N j x y) (λ j. touched_by s lost j x y) (λ one j h. at j (first_three p one j h)) i (at i p)
    where
      at : (j : ℕ) → Inside s j x y → touched_by s lost j x y ≡ marked (numbered s N j x y)
      at j q = inverse_raised (built.sampled j q.component).parts (N j) (lost j) (given j q.component) x y q.column q.row

  -- cells that hold 1 where a coefficient is lost and 0 elsewhere, behind `numbers`: the marks that `marks` writes of them
  module _ {l l' : List ℤ} (given : Every s (λ i k dx dy x y. coefficients_in s l i k dx dy x y ≡ pos (bit (lost i k dx dy x y))))
      (made : Holding s (held (numbers_of s Cpih (numbers_in s l))) l l') where
    pub marks_are : (i x y : ℕ) → Inside s i x y → marks_in s l' i x y ≡ bit (mark_of s Cpih lost i x y)
    marks_are i x y p =
        ap cell_mark (made.values i x y p)
        ∙ ap bit (sym (mark_raised (numbers_in s l)
        (λ i h k dx dy x y c. bit_marked (lost i k dx dy x y) ∙ sym (ap (λ (z : ℤ). marked (nat_abs z)) (given i h k dx dy x y c))) i x y p))

    pub marks_written : planes s (marks_in s l') s.nc ≡ planes s (λ i x y. bit (mark_of s Cpih lost i x y)) s.nc
    marks_written = planes_same built (marks_in s l') (λ i x y. bit (mark_of s Cpih lost i x y)) marks_are

  -- where no coefficient is lost no sample is marked
  pub no_marks : Every s (λ i k dx dy x y. lost i k dx dy x y ≡ false) → (i x y : ℕ) → Inside s i x y → mark_of s Cpih lost i x y ≡ false
  unfolding mark_of coloured_mark
  no_marks none i x y p =
      table_each (λ m. m ≡ false) (λ j. touched_by s lost j x y) Cpih (λ one. let u = three one in (u.c0, u.c1, u.c2)) i (at i p)
    where
      at : (j : ℕ) → Inside s j x y → touched_by s lost j x y ≡ false
      at j q = inverse_keeps steps_unmarked (built.sampled j q.component).parts (lost j) (lost j) (lost j) (none j q.component) x y q.column q.row

      three : Cpih ≡ 1 → Unmarked (marks_rct (record { c0 = touched_by s lost 0 x y; c1 = touched_by s lost 1 x y; c2 = touched_by s lost 2 x y }))
      three one = unmarked_rct (record {
        c0 = at 0 (first_three p one 0 (omega arith));
        c1 = at 1 (first_three p one 1 (omega arith));
        c2 = at 2 (first_three p one 2 (omega arith));
      })

  -- values of any kind, from coefficients that agree where none is lost, agree behind both annexes where no mark is. f is F.3 for their kind
  pub kind_shielded : {A : Type 0} (S : Steps A) (f : A → A → A → A × A × A) (T T' : Bands A)
      → Every s (λ i k dx dy x y. lost i k dx dy x y ≡ false → T i k dx dy x y ≡ T' i k dx dy x y)
      → (i x y : ℕ) → Inside s i x y → mark_of s Cpih lost i x y ≡ false
      → coloured_by f Cpih (λ j. filtered S s T j x y) i ≡ coloured_by f Cpih (λ j. filtered S s T' j x y) i
  unfolding mark_of
  kind_shielded S f T T' given i x y p =
      table_shielded f Cpih (λ j. filtered S s T j x y) (λ j. filtered S s T' j x y) (λ j. touched_by s lost j x y) (λ one j h. at j (first_three p one j h)) i (at i p)
    where
      at : (j : ℕ) → Inside s j x y → touched_by s lost j x y ≡ false → filtered S s T j x y ≡ filtered S s T' j x y
      at j q = inverse_shielded (built.sampled j q.component).parts S (T j) (T' j) (lost j) (given j q.component) x y q.column q.row

  -- such are samples
  pub shield : (T T' : Coefficients) → Every s (λ i k dx dy x y. lost i k dx dy x y ≡ false → T i k dx dy x y ≡ T' i k dx dy x y)
      → (Bw : ℕ) (B : ℕ → ℕ) (i x y : ℕ) → Inside s i x y → mark_of s Cpih lost i x y ≡ false → samples_of s Cpih Bw B T i x y ≡ samples_of s Cpih Bw B T' i x y
  unfolding coloured transformed sampled
  shield T T' given Bw B i x y p e =
      ap (sample Bw (B i))
      (kind_shielded samples (λ a b c. let o = inverse_rct (record { c0 = a; c1 = b; c2 = c }) in (o.c0, o.c1, o.c2)) T T' given i x y p e)

-- a mark depends on which coefficients are lost, and on nothing else
pub mark_same : {s : Shape} → Built s → {Cpih : ℕ} → Colours s Cpih → (lost lost' : Bands Bool) → Every s (λ i k dx dy x y. lost i k dx dy x y ≡ lost' i k dx dy x y)
    → (i x y : ℕ) → Inside s i x y → mark_of s Cpih lost i x y ≡ mark_of s Cpih lost' i x y
mark_same built colours lost lost' same i x y p =
    let number : Bands ℕ = λ i k dx dy x y. bit (lost' i k dx dy x y) in
    mark_raised built colours lost number (λ i h k dx dy x y d. same i h k dx dy x y d ∙ bit_marked (lost' i k dx dy x y)) i x y p
    ∙ sym (mark_raised built colours lost' number (λ i h k dx dy x y d. bit_marked (lost' i k dx dy x y)) i x y p)
