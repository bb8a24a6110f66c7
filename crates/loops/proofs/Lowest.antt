-- Laws of the lowest number that passes a test. Assumes nothing.
use Prim.Native.Nat.{ℕ, zero, suc, ◌+◌, ◌≤◌, ◌<◌}
use mathlib.Core.Path.{◌≡◌, refl, sym, ◌∙◌}
use mathlib.Core.Bool.{Bool, true, false, cond, false≢true}
use native.Mathlib.Decide.{dec_lt}
use native.Mathlib.Omega.{arith}
use borrow.Author.Tests.{lt-ltb, ltb-true}
use Rattle.loops.specs.Lowest.{lowest, some}

pub lowest_most : (f : ℕ → Bool) (n : ℕ) → lowest f n ≤ n
unfolding lowest
lowest_most f zero = omega arith
lowest_most f (suc n) = by (f 0) (lowest_most (λ k. f (suc k)) n)
  where
    by : (b : Bool) → lowest (λ k. f (suc k)) n ≤ n → cond b 0 (suc (lowest (λ k. f (suc k)) n)) ≤ suc n
    by true h = omega arith
    by false h = omega (arith, h)

-- where it is below the bound, it passes
pub lowest_passes : (f : ℕ → Bool) (n : ℕ) → lowest f n < n → f (lowest f n) ≡ true
unfolding lowest
lowest_passes f zero h = absurd (omega arith)
lowest_passes f (suc n) h = by (f 0) refl h (lowest_passes (λ k. f (suc k)) n)
  where
    by : (b : Bool) → f 0 ≡ b → cond b 0 (suc (lowest (λ k. f (suc k)) n)) < suc n
        → (lowest (λ k. f (suc k)) n < n → f (suc (lowest (λ k. f (suc k)) n)) ≡ true) → f (cond b 0 (suc (lowest (λ k. f (suc k)) n))) ≡ true
    by true e h later = e
    by false e h later = later (omega arith)

-- no lower number does
pub lower_fails : (f : ℕ → Bool) (n k : ℕ) → k < lowest f n → f k ≡ false
unfolding lowest
lower_fails f zero k h = absurd (omega arith)
lower_fails f (suc n) k h = by (f 0) refl k h (lower_fails (λ k. f (suc k)) n)
  where
    by : (b : Bool) → f 0 ≡ b → (k : ℕ) → k < cond b 0 (suc (lowest (λ k. f (suc k)) n))
        → ((j : ℕ) → j < lowest (λ k. f (suc k)) n → f (suc j) ≡ false) → f k ≡ false
    by true e k h later = absurd (omega arith)
    by false e zero h later = e
    by false e (suc k) h later = later k (omega arith)

-- so one that passes is no lower
pub passes_above : (f : ℕ → Bool) (n k : ℕ) → f k ≡ true → lowest f n ≤ k
passes_above f n k e = by (dec_lt k (lowest f n))
  where
    by : Dec (k < lowest f n) → lowest f n ≤ k
    by (yes l) = absurd (false≢true (sym (lower_fails f n k l) ∙ e))
    by (no l) = omega arith

-- a number that passes where it is below the bound, and below which none does, is the lowest
pub lowest_is : (f : ℕ → Bool) (n k : ℕ) → k ≤ n → ((j : ℕ) → j < k → f j ≡ false) → (k < n → f k ≡ true) → lowest f n ≡ k
lowest_is f n k h fails passes = by (dec_lt (lowest f n) k) (dec_lt k (lowest f n))
  where
    by : Dec (lowest f n < k) → Dec (k < lowest f n) → lowest f n ≡ k
    by (yes l) q = absurd (false≢true (sym (fails (lowest f n) l) ∙ lowest_passes f n (omega arith)))
    by (no l) (yes m) = absurd (false≢true (sym (lower_fails f n k m) ∙ passes (omega (arith, lowest_most f n))))
    by (no l) (no m) = omega arith

-- ---- some number passes

pub passes_some : (f : ℕ → Bool) (n k : ℕ) → k < n → f k ≡ true → some f n ≡ true
unfolding some
passes_some f n k h e = lt-ltb (lowest f n) n (omega (arith, passes_above f n k e))

pub some_below : (f : ℕ → Bool) (n : ℕ) → some f n ≡ true → lowest f n < n
unfolding some
some_below f n e = ltb-true (lowest f n) n e

-- ---- two tests: where the lowest that passes the wider one passes the other, it is the lowest of both
pub lowest_narrow : (f g : ℕ → Bool) (n : ℕ) → ((k : ℕ) → k < n → f k ≡ true → g k ≡ true) → f (lowest g n) ≡ true → lowest f n ≡ lowest g n
lowest_narrow f g n wider e = lowest_is f n (lowest g n) (lowest_most g n) (λ j l. by j l (f j) refl) (λ _. e)
  where
    by : (j : ℕ) → j < lowest g n → (b : Bool) → f j ≡ b → b ≡ false
    by j l true q = absurd (false≢true (sym (lower_fails g n j l) ∙ wider j (omega (arith, lowest_most g n)) q))
    by j l false q = refl

-- ---- a search from 0 on: no number below k has passed
pub record Passed (f : ℕ → Bool) (k : ℕ) : Type 0 where
  pub fails : (j : ℕ) → j < k → f j ≡ false

pub search_begins : {f : ℕ → Bool} → Passed f 0
search_begins = record { fails = λ j l. absurd (omega arith) }

module _ {f : ℕ → Bool} {k : ℕ} (inv : Passed f k) where
  pub search_next : f k ≡ false → Passed f (k + 1)
  search_next e = record { fails = λ j l. by j l (dec_lt j k) }
    where
      by : (j : ℕ) → j < k + 1 → Dec (j < k) → f j ≡ false
      by j l (yes m) = inv.fails j m
      by j l (no m) =
          let same : j ≡ k = omega arith in
          rw same e

  pub search_stops : {n : ℕ} → k < n → f k ≡ true → k ≡ lowest f n
  search_stops {n} l e = sym (lowest_is f n k (omega arith) inv.fails (λ _. e))

  pub search_ends : {m n : ℕ} → n ≤ k → m ≡ n → m ≡ lowest f n
  search_ends {m} {n} l e = e ∙ sym (lowest_is f n n (omega arith) (λ j h. inv.fails j (omega arith)) (λ h. absurd (omega arith)))
