-- A counting loop by the states before its turns. Assumes nothing.
use Prim.Native.Nat.{ℕ, zero, suc, ◌+◌, ◌<◌}
use mathlib.Core.Path.{◌≡◌, refl, sym, ap, ◌∙◌}
use native.Mathlib.Decide.{dec_lt}
use native.Mathlib.Numerals.{add-one}
use native.Mathlib.Omega.{arith}
use Rattle.loops.specs.Run.{Turn, go, stop, run}
use Rattle.loops.specs.Before.{before}
use Rattle.loops.proofs.Laws.{Kept, run_carries}

module _ {S R : Type 0} (turn : ℕ → S → Turn S R) (x : S) where
  before_none : before turn x 0 ≡ x
  unfolding before
  before_none = refl

  pub before_goes : (n : ℕ) {y : S} → turn n (before turn x n) ≡ go y → before turn x (n + 1) ≡ y
  unfolding before
  before_goes n e = rw (add-one n, e)

  -- what is carried from each state to the next
  pub before_carries : (P : ℕ → S → Type 0) (n : ℕ) → P 0 x → ((g : ℕ) → g < n → P g (before turn x g) → P (g + 1) (before turn x (g + 1)))
      → P n (before turn x n)
  before_carries P zero p each = rw before_none p
  before_carries P (suc n) p each = rw (← add-one n) (each n (omega arith) (before_carries P n p (λ g l. each g (omega arith))))

  -- a loop none of whose n turns stops
  pub record Turns (end : S → R) (n : ℕ) : Type 0 where
    pub goes : (g : ℕ) → g < n → turn g (before turn x g) ≡ go (before turn x (g + 1))
    pub ends : run turn end n 0 x ≡ end (before turn x n)

  -- such is one that leaves what no stop leaves
  pub run_turns : (A : R → Type 0) (end : S → R) (n : ℕ) → ((g : ℕ) (r : R) → turn g (before turn x g) ≡ stop r → A r → ⊥) → A (run turn end n 0 x)
      → Turns end n
  run_turns A end n never a =
      let q =
      run_carries (λ g (y : S). (y ≡ before turn x g) × Gone g) Left turn end n (λ y q b. (q.1, ap end q.0))
      (λ g y l q. rw q.0 (step g q.1 (turn g (before turn x g)) refl)) n 0 x (omega arith) (sym before_none, λ g l. absurd (omega arith)) a in
      record { goes = q.0; ends = q.1 }
    where
      Gone : ℕ → Type 0
      Gone m = (g : ℕ) → g < m → turn g (before turn x g) ≡ go (before turn x (g + 1))

      Left : R → Type 0
      Left r = A r → Gone n × (r ≡ end (before turn x n))

      step : (g : ℕ) → Gone g → (u : Turn S R) → turn g (before turn x g) ≡ u → Kept (λ (y : S). (y ≡ before turn x (g + 1)) × Gone (g + 1)) Left u
      step g gone (go y) e = (sym (before_goes g e), λ m l. pick m l (dec_lt m g))
        where
          pick : (m : ℕ) → m < g + 1 → Dec (m < g) → turn m (before turn x m) ≡ go (before turn x (m + 1))
          pick m l (yes k) = gone m k
          pick m l (no k) =
              let same : m ≡ g = omega arith in
              rw same (e ∙ ap go (sym (before_goes g e)))
      step g gone (stop r) e = λ b. absurd (never g r e b)
