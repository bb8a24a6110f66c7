-- The numbers that tell which coefficients are lost: the loop over a component's cells, and the loop over the components. Assumes nothing.
use Prim.Native.Nat.{ℕ, ◌+◌, ◌*◌, ◌≤◌, ◌<◌}
use mathlib.Core.Path.{◌≡◌, ap, subst, ◌∙◌}
use mathlib.Core.List.{List}
use native.Mathlib.Decide.{dec_lt}
use native.Mathlib.Omega.{arith}
use lib.IntN.{ℤ, pos}
use lib.ListN.{length, set, length-set}
use lib.Seq.{get_or-set_same, get_or-set_other}
use Rattle.whole.specs.Cells.{cell}
use Rattle.layout.specs.declared.Shape.{Shape}
use Rattle.layout.specs.Cells.{area, samples, start}
use Rattle.layout.proofs.Cells.{starts_up}
use Rattle.damage.specs.Steps.{lost_number, LostNumbersBefore, NumberedBy}

-- ---- a component's cells

pub numbered_more : {from size k : ℕ} {v : ℤ} {l l' : List ℤ} → k < size → from + 2 * size ≤ length l → NumberedBy from size k l l' → v ≡ lost_number (cell l' (from + size + k))
    → NumberedBy from size (k + 1) l (set l' (from + k) v)
numbered_more {from} {size} {k} {v} {l} {l'} below room x is =
    record {
      same = length-set l' (from + k) v ∙ x.same;
      number = λ n h. pick n h (dec_lt n k);
      other = λ n h. get_or-set_other l' (from + k) n v (pos 0) (λ e. omega (arith, e, h (omega (arith, e)))) ∙ x.other n (λ i. omega (arith, h i));
    }
  where
    pick : (n : ℕ) → n < k + 1 → Dec (n < k) → cell (set l' (from + k) v) (from + n) ≡ lost_number (cell l (from + size + n))
    pick n h (yes i) = get_or-set_other l' (from + k) (from + n) v (pos 0) (λ e. omega (arith, e)) ∙ x.number n i
    pick n h (no i) =
        let e : n ≡ k = omega arith in
        rw e (get_or-set_same l' (from + k) v (pos 0) (omega (arith, x.same)) ∙ is ∙ ap lost_number (x.other (from + size + k) (λ _. omega arith)))

-- ---- all components

module _ (s : Shape) where
  module _ {i : ℕ} {l l₁ l₂ : List ℤ} (x : LostNumbersBefore s i l l₁) where
    one_more : NumberedBy (start s i) (area s i) (area s i) l₁ l₂ → LostNumbersBefore s (i + 1) l l₂
    one_more y =
        record {
          same = y.same ∙ x.same;
          number = λ j n a h. pick j n a h (dec_lt j i);
          other = λ n h. y.other n (h i (omega arith)) ∙ x.other n (λ j a. h j (omega arith));
        }
      where
        pick : (j n : ℕ) → j < i + 1 → n < area s j → Dec (j < i) → cell l₂ (start s j + n) ≡ lost_number (cell l (start s j + area s j + n))
        pick j n a h (yes b) = y.other (start s j + n) (λ c. omega (arith, starts_up s j i b)) ∙ x.number j n b h
        pick j n a h (no b) =
            let e : j ≡ i = omega arith in
            let m : n < area s i = subst (λ (k : ℕ). n < area s k) e h in
            rw e (y.number n m ∙ ap lost_number (x.other (start s i + area s i + n) (λ k c _. omega (arith, starts_up s k i c))))

    -- by the numbers that are at hand
    pub numbers_more : {n a : ℕ} → n ≡ samples s i → a ≡ area s i → NumberedBy (2 * n) a a l₁ l₂ → LostNumbersBefore s (i + 1) l l₂
    numbers_more p q y = one_more (subst (λ (f : ℕ × ℕ). NumberedBy (2 * f.0) f.1 f.1 l₁ l₂) (λ z. (p z, q z)) y)
