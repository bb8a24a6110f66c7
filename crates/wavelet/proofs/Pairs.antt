-- A pair of places, the even one first and then the odd one before it: what two stores leave, that no step of it wraps, and a loop over pairs that lie
-- beside each other. Assumes nothing.
use mathlib.Core.Path.{◌≡◌, refl, ap, ◌∙◌}
use mathlib.Core.Bool.{cond}
use mathlib.Core.List.{List}
use Prim.Native.Nat.{ℕ, zero, suc, ◌+◌, ◌*◌, ◌-◌, ◌≤◌, ◌<◌}
use native.Mathlib.Omega.{arith}
use lib.Dec.{eqb, lit≤}
use lib.IntN.{ℤ, pos}
use lib.ListN.{length, set, length-set}
use lib.Seq.{get_or-set_same, get_or-set_other}
use Rattle.whole.specs.Cells.{cell, Onto, OntoLine}
use Rattle.wavelet.specs.Filter.{Steps}
use Rattle.wavelet.specs.Lines.{line}
use Rattle.wavelet.specs.Runs.{Small, SmallPair, paired, Pairable, pair_cell}
use Rattle.wavelet.proofs.Tame.{Tame, even_size}
use Rattle.whole.proofs.Filling.{onto_turn}

pub pair_onto : (l : List ℤ) (h t : ℕ) (odd even : ℤ) → 0 < t → h + t < length l → OntoLine h t 2 (λ b. cond (eqb b 0) odd even) l (set (set l h odd) (h + t) even)
pair_onto l h t odd even up inside = record {
  same = length-set (set l h odd) (h + t) even ∙ length-set l h odd;
  on = place;
  off = λ j never.
      get_or-set_other (set l h odd) (h + t) j even (pos 0) (λ e. never 1 (omega arith) (omega arith))
      ∙ get_or-set_other l h j odd (pos 0) (λ e. never 0 (omega arith) (omega arith));
}
  where
    both : List ℤ
    both = set (set l h odd) (h + t) even

    place : (k : ℕ) → k < 2 → cell both (h + k * t) ≡ cond (eqb k 0) odd even
    place zero b =
        let e : h + 0 * t ≡ h = omega arith in
        ap (cell both) e ∙ get_or-set_other (set l h odd) (h + t) h even (pos 0) (λ q. absurd (omega arith)) ∙ get_or-set_same l h odd (pos 0) (omega arith)
    place (suc zero) b =
        let e : h + 1 * t ≡ h + t = omega arith in
        ap (cell both) e ∙ get_or-set_same (set l h odd) (h + t) even (pos 0) (omega (arith, length-set l h odd))
    place (suc (suc k)) b = absurd (omega arith)

module _ {before high x next : ℤ} (small : SmallPair before high x next) where
  pub odd_small : {S : Steps ℤ} → Tame S → Small high before (S.even x high next)
  odd_small T = record {
    small_x = omega (arith, small.small_high);
    small_l = small.small_before;
    small_r = even_size T x high next (lit≤ tt) small.small_x small.small_high small.small_next;
  }

-- ---- a turn of the loop over m pairs

abbrev pub PairsDone : Steps ℤ → ℕ → ℕ → ℕ → ℕ → ℕ → List ℤ → List ℤ → Type 0
PairsDone S s t h r j cells = Onto {I = ℕ × ℕ} (λ i. h + i.0 * t + i.1 * s) (λ i. (i.0 < 2) × (i.1 < j)) (pair_cell S s t h r cells) cells

module _ (S : Steps ℤ) {s m t h r j : ℕ} {cells x : List ℤ} (P : Pairable s m t h r cells) (p : PairsDone S s t h r j cells x) (b : j < m) where
  done_is : cell x (h + j * s - t) ≡ line (h - t) s cells j
  done_is =
      let e : h + j * s - t ≡ h - t + j * s = omega (arith, P.above) in
      ap (cell x) e ∙ p.off (h - t + j * s) (λ i a. P.done_apart j i.1 i.0 b (omega arith) a.0)

  high_is : cell x (h + j * s) ≡ line h s cells j
  high_is = p.off (h + j * s) (λ i a e. absurd (omega (arith, P.apart j i.1 0 i.0 b (omega arith) (omega arith) a.0 (omega arith))))

  low_is : cell x (h + j * s + t) ≡ line (h + t) s cells j
  low_is =
      let e : h + j * s + t ≡ h + t + j * s = omega arith in
      ap (cell x) e ∙ p.off (h + t + j * s) (λ i a e. absurd (omega (arith, P.apart j i.1 1 i.0 b (omega arith) (omega arith) a.0 (omega arith))))

  next_is : cell x (r + j * s) ≡ line r s cells j
  next_is = p.off (r + j * s) (λ i a e. absurd (omega (arith, P.next_apart j i.1 i.0 b (omega arith) a.0 e)))

  pub pair_inside : (t ≤ h + j * s) × (h + j * s + t < length x) × (r + j * s < length x)
  pair_inside = omega (arith, P.above, P.inside j b, p.same)

  pub pair_ready : SmallPair (cell x (h + j * s - t)) (cell x (h + j * s)) (cell x (h + j * s + t)) (cell x (r + j * s))
  pair_ready = rw (done_is, high_is, low_is, next_is) (P.small j b)

  pub pair_step : {z : List ℤ} → OntoLine (h + j * s) t 2 (paired S (cell x (h + j * s - t)) (cell x (h + j * s)) (cell x (h + j * s + t)) (cell x (r + j * s))) x z
      → PairsDone S s t h r (j + 1) cells z
  pair_step =
      onto_turn {turn = λ (i : ℕ × ℕ). i.1} {f = j} {n = 1}
      (record {
        apart = λ i k a c. P.apart i.1 k.1 i.0 k.0 (omega arith) (omega arith) a.0 c.0;
        more = λ i a. (a.0, omega arith);
        spot = λ k. (k, j);
        one = λ k l. ((l, omega arith), omega arith, omega arith);
        there = λ k l. omega arith;
        value = λ k l. rw (done_is, high_is, low_is, next_is);
        all = λ i a l u. (i.0, a.0, let e : j ≡ i.1 = omega arith in λ q. (i.0, e q));
        low = λ i a l. ((a.0, l), refl);
        high = λ i a l. absurd (omega arith);
      })
      p
