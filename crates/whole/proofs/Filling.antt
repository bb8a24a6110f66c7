-- Cells that are filled run by run: what a slice holds after some runs, and after one more. Assumes nothing.
use mathlib.Core.Path.{◌≡◌, refl, sym, ap, ◌∙◌}
use mathlib.Core.List.{List}
use Prim.Native.Nat.{ℕ, zero, suc, ◌+◌, ◌*◌, ◌-◌, ◌≤◌, ◌<◌}
use native.Mathlib.Decide.{dec_lt}
use native.Mathlib.Nat.{eq_of_mul-eq-mul_right}
use native.Mathlib.Omega.{arith}
use lib.IntN.{ℤ, pos}
use lib.ListN.{length, set, length-set}
use lib.Seq.{get_or-set_same, get_or-set_other}
use Rattle.whole.specs.Cells.{cell, Onto, OntoLine}

-- the cells A that hold v, and a run over the cells B that leaves h, make the cells A' that hold v'. Each of the cells has its turn, and one place has no
-- cells of two turns; those of the run are the ones with turns from f to before f + n
pub record Turn {I J : Type 0} (at turn : I → ℕ) (A A' : I → Type 0) (v v' : I → ℤ) (at' : J → ℕ) (B : J → Type 0) (h : J → ℤ) (f n : ℕ) : Type 0 where
  pub apart : (i k : I) → A' i → A' k → at i ≡ at k → turn i ≡ turn k
  pub more : (i : I) → A i → A' i
  pub spot : J → I
  pub one : (j : J) → B j → A' (spot j) × (f ≤ turn (spot j)) × (turn (spot j) < f + n)
  pub there : (j : J) → B j → at' j ≡ at (spot j)
  pub value : (j : J) → B j → h j ≡ v' (spot j)
  pub all : (i : I) → A' i → f ≤ turn i → turn i < f + n → (j : J) × B j × (spot j ≡ i)
  pub low : (i : I) → A' i → turn i < f → A i × (v i ≡ v' i)
  pub high : (i : I) → A' i → f + n ≤ turn i → A i × (v i ≡ v' i)

module _ {I J : Type 0} {at turn : I → ℕ} {A A' : I → Type 0} {v v' : I → ℤ} {at' : J → ℕ} {B : J → Type 0} {h : J → ℤ} {f n : ℕ} {x y z : List ℤ} where
  pub onto_turn : Turn at turn A A' v v' at' B h f n → Onto at A v x y → Onto at' B h y z → Onto at A' v' x z
  onto_turn t p o = record {
    same = o.same ∙ p.same;
    on = λ i a. pick i a (dec_lt (turn i) f) (dec_lt (turn i) (f + n));
    off = λ j never. o.off j (λ k b e. never (t.spot k) (t.one k b).0 (e ∙ t.there k b)) ∙ p.off j (λ i a. never i (t.more i a));
  }
    where
      kept : (i : I) → A i × (v i ≡ v' i) → ((j : J) → B j → at i ≡ at' j → ⊥) → cell z (at i) ≡ v' i
      kept i a far = o.off (at i) far ∙ p.on i a.0 ∙ a.1

      met : (i : I) → A' i → (j : J) (b : B j) → at i ≡ at' j → turn i ≡ turn (t.spot j)
      met i a j b e = t.apart i (t.spot j) a (t.one j b).0 (e ∙ t.there j b)

      pick : (i : I) → A' i → Dec (turn i < f) → Dec (turn i < f + n) → cell z (at i) ≡ v' i
      pick i a (yes l) _ = kept i (t.low i a l) (λ j b e. absurd (omega (arith, met i a j b e, (t.one j b).1)))
      pick i a (no l) (yes u) =
          let w = t.all i a (omega arith) u in
          ap (λ (k : I). cell z (at k)) (sym w.2) ∙ ap (cell z) (sym (t.there w.0 w.1)) ∙ o.on w.0 w.1 ∙ t.value w.0 w.1 ∙ ap v' w.2
      pick i a (no l) (no u) = kept i (t.high i a (omega arith)) (λ j b e. absurd (omega (arith, met i a j b e, (t.one j b).2)))

-- before the first run
module _ {I : Type 0} {at : I → ℕ} {A : I → Type 0} {v : I → ℤ} {l : List ℤ} where
  pub onto_none : ((i : I) → A i → ⊥) → Onto at A v l l
  onto_none none = record { same = refl; on = λ i a. absurd (none i a); off = λ j z. refl }

-- ---- lines

pub line_apart : (base stride : ℕ) → 0 < stride → (i k : ℕ) → base + i * stride ≡ base + k * stride → i ≡ k
line_apart base stride h i k e = eq_of_mul-eq-mul_right stride h i k (omega arith)

-- a line that is filled at some places, and a run over the n places from f on
module _ (base stride : ℕ) (up : 0 < stride) {A : ℕ → Type 0} {g : ℕ → ℤ} {x y : List ℤ} (p : Onto (λ k. base + k * stride) A g x y) where
  -- other places are as they were
  pub line_left : (k : ℕ) → (A k → ⊥) → cell y (base + k * stride) ≡ cell x (base + k * stride)
  line_left k out = p.off (base + k * stride) (λ i a e. out (rw (line_apart base stride up k i e) a))

  pub line_next : (f n c : ℕ) {A' : ℕ → Type 0} {h : ℕ → ℤ} {z : List ℤ} → c ≡ base + f * stride
      → ((i : ℕ) → A i → A' i) → ((i : ℕ) → i < n → A' (f + i)) → ((i : ℕ) → A' i → i < f → A i) → ((i : ℕ) → A' i → f + n ≤ i → A i)
      → ((i : ℕ) → i < n → h i ≡ g (f + i)) → OntoLine c stride n h y z → Onto (λ k. base + k * stride) A' g x z
  line_next f n c {A'} {h} at_f more new below above value =
      onto_turn {turn = λ k. k} {f = f} {n = n}
      (record {
        apart = λ i k _ _. line_apart base stride up i k;
        more = more;
        spot = λ j. f + j;
        one = λ j b. (new j b, omega arith, omega arith);
        there = λ j b. omega arith;
        value = value;
        all = λ i a l u. (i - f, omega arith, omega arith);
        low = λ i a l. (below i a l, refl);
        high = λ i a l. (above i a l, refl);
      })
      p

-- a store is a run of one cell
pub store_onto : (l : List ℤ) (c s : ℕ) (z : ℤ) → c < length l → OntoLine c s 1 (λ _. z) l (set l c z)
store_onto l c s z h = record {
  same = length-set l c z;
  on = λ k b. ap (cell (set l c z)) (zeroth k b) ∙ get_or-set_same l c z (pos 0) h;
  off = λ j a. get_or-set_other l c j z (pos 0) (λ e. a 0 (omega arith) (omega arith));
}
  where
    zeroth : (k : ℕ) → k < 1 → c + k * s ≡ c
    zeroth zero b = omega arith
    zeroth (suc k) b = absurd (omega arith)
