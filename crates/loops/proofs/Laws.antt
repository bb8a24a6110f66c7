-- Laws of loops: one for each way through a turn, over the invariants `Going` (a loop that counts) and `Looping` (one that does not). Assumes nothing.
use Prim.Native.Nat.{ℕ, zero, suc, ◌+◌, ◌-◌, ◌≤◌, ◌<◌}
use mathlib.Core.Path.{◌≡◌, refl, ◌∙◌}
use native.Mathlib.Omega.{arith}
use native.Mathlib.Nat.{sub-zero}
use Rattle.loops.specs.Run.{Turn, go, stop, then, run, until}

-- ---- the turns that are left
module _ {S R : Type 0} (turn : ℕ → S → Turn S R) (end : S → R) (n g : ℕ) (x : S) where
  pub run_end : n ≤ g → run turn end (n - g) g x ≡ end x
  unfolding run
  run_end h =
      let e : n - g ≡ 0 = omega arith in
      rw e

  pub run_go : {y : S} → g < n → turn g x ≡ go y → run turn end (n - g) g x ≡ run turn end (n - (g + 1)) (g + 1) y
  unfolding run
  run_go h f =
      let e : n - g ≡ suc (n - (g + 1)) = omega arith in
      rw (e, f)

  pub run_stop : {r : R} → g < n → turn g x ≡ stop r → run turn end (n - g) g x ≡ r
  unfolding run
  run_stop h f =
      let e : n - g ≡ suc (n - (g + 1)) = omega arith in
      rw (e, f)

-- the invariant of such a loop: with turn g to come at the state x, what is left to do leaves what all n turns leave from x₀. It is a record so that
-- the laws find all of it from the invariant
pub record Going {S R : Type 0} (turn : ℕ → S → Turn S R) (end : S → R) (n : ℕ) (x₀ : S) (g : ℕ) (x : S) : Type 0 where
  pub same : run turn end n 0 x₀ ≡ run turn end (n - g) g x

pub begins : {S R : Type 0} {turn : ℕ → S → Turn S R} {end : S → R} {n : ℕ} {x : S} → Going turn end n x 0 x
begins = record { same = rw sub-zero }

module _ {S R : Type 0} {turn : ℕ → S → Turn S R} {end : S → R} {n g : ℕ} {x₀ x : S} where
  pub goes_on : {y : S} → Going turn end n x₀ g x → g < n → turn g x ≡ go y → Going turn end n x₀ (g + 1) y
  goes_on inv h f = record { same = inv.same ∙ run_go turn end n g x h f }

  pub stops : {r : R} → Going turn end n x₀ g x → g < n → turn g x ≡ stop r → run turn end n 0 x₀ ≡ r
  stops inv h f = inv.same ∙ run_stop turn end n g x h f

  pub ends : Going turn end n x₀ g x → n ≤ g → run turn end n 0 x₀ ≡ end x
  ends inv h = inv.same ∙ run_end turn end n g x h

-- ---- a counting loop as a whole: what each turn keeps, from turn to turn, the whole keeps
abbrev pub Kept : {S R : Type 0} → (S → Type 0) → (R → Type 0) → Turn S R → Type 0
Kept P Q (go y) = P y
Kept P Q (stop r) = Q r

pub run_carries : {S R : Type 0} (P : ℕ → S → Type 0) (Q : R → Type 0) (turn : ℕ → S → Turn S R) (end : S → R) (n : ℕ)
    → ((x : S) → P n x → Q (end x)) → ((g : ℕ) (x : S) → g < n → P g x → Kept (P (g + 1)) Q (turn g x))
    → (left g : ℕ) (x : S) → g + left ≡ n → P g x → Q (run turn end left g x)
unfolding run
run_carries P Q turn end n at_end each zero g x h p =
    let e : g ≡ n = omega arith in
    at_end x (rw e at p)
run_carries {S} {R} P Q turn end n at_end each (suc left) g x h p =
    pick (turn g x) (each g x (omega arith) p) (λ y. run_carries P Q turn end n at_end each left (g + 1) y (omega arith))
  where
    pick : (t : Turn S R) → Kept (P (g + 1)) Q t → ((y : S) → P (g + 1) y → Q (run turn end left (g + 1) y)) → Q (then t (λ y. run turn end left (g + 1) y) (λ r. r))
    pick (go y) h ih = ih y h
    pick (stop r) h ih = h

-- where that speaks of the state alone
pub run_keeps : {S R : Type 0} (P : S → Type 0) (Q : R → Type 0) (turn : ℕ → S → Turn S R) (end : S → R) (n : ℕ)
    → ((x : S) → P x → Q (end x)) → ((g : ℕ) (x : S) → g < n → P x → Kept P Q (turn g x))
    → (left g : ℕ) (x : S) → g + left ≤ n → P x → Q (run turn end left g x)
run_keeps P Q turn end n at_end each left g x h p = run_carries (λ _. P) Q turn end (g + left) at_end (λ i y l. each i y (omega arith)) left g x refl p

-- ---- a loop that does not count: the fuel left is more than the measure of the state
pub record Looping {S R : Type 0} (measure : S → ℕ) (turn : S → Turn S R) (dead : R) (fuel : ℕ) (x₀ x : S) : Type 0 where
  pub left : ℕ
  pub enough : measure x < left
  pub same : until turn dead fuel x₀ ≡ until turn dead left x

pub loop_begins : {S R : Type 0} {measure : S → ℕ} {turn : S → Turn S R} {dead : R} {fuel : ℕ} {x : S} → measure x < fuel → Looping measure turn dead fuel x x
loop_begins {fuel = fuel} h = record { left = fuel; enough = h; same = refl }

module _ {S R : Type 0} (turn : S → Turn S R) (dead : R) (x : S) where
  unroll : (l : ℕ) {y : S} → 0 < l → turn x ≡ go y → until turn dead l x ≡ until turn dead (l - 1) y
  unfolding until
  unroll zero h f = absurd (omega arith)
  unroll (suc l) h f =
      let e : suc l - 1 ≡ l = omega arith in
      rw (f, e)

  last : (l : ℕ) {r : R} → 0 < l → turn x ≡ stop r → until turn dead l x ≡ r
  unfolding until
  last zero h f = absurd (omega arith)
  last (suc l) h f = rw f

module _ {S R : Type 0} {measure : S → ℕ} {turn : S → Turn S R} {dead : R} {fuel : ℕ} {x₀ x : S} where
  pub loop_goes_on : {y : S} → Looping measure turn dead fuel x₀ x → turn x ≡ go y → measure y < measure x → Looping measure turn dead fuel x₀ y
  loop_goes_on inv f h =
      record { left = inv.left - 1; enough = omega (arith, inv.enough); same = inv.same ∙ unroll turn dead x inv.left (omega (arith, inv.enough)) f }

  pub loop_stops : {r : R} → Looping measure turn dead fuel x₀ x → turn x ≡ stop r → until turn dead fuel x₀ ≡ r
  loop_stops inv f = inv.same ∙ last turn dead x inv.left (omega (arith, inv.enough)) f

-- ---- such a loop as a whole

-- a turn that goes on lessens the measure
abbrev pub Falls : {S R : Type 0} → (S → ℕ) → ℕ → Turn S R → Type 0
Falls measure m (go y) = measure y < m
Falls measure m (stop r) = Unit {0}

-- a loop whose measure falls does not come to its bound: what stands there makes no difference
pub until_free : {S R : Type 0} (measure : S → ℕ) (turn : S → Turn S R) → ((x : S) → Falls measure (measure x) (turn x))
    → (d e : R) (fuel : ℕ) (x : S) → measure x < fuel → until turn d fuel x ≡ until turn e fuel x
unfolding until
until_free measure turn falls d e zero x h = absurd (omega arith)
until_free {S} {R} measure turn falls d e (suc fuel) x h = pick (turn x) (falls x) (until_free measure turn falls d e fuel)
  where
    pick : (t : Turn S R) → Falls measure (measure x) t → ((y : S) → measure y < fuel → until turn d fuel y ≡ until turn e fuel y)
        → then t (λ y. until turn d fuel y) (λ r. r) ≡ then t (λ y. until turn e fuel y) (λ r. r)
    pick (go y) f later = later y (omega arith)
    pick (stop r) f later = refl

-- what each turn keeps, the whole keeps
pub until_keeps : {S R : Type 0} (P : S → Type 0) (Q : R → Type 0) (turn : S → Turn S R) (dead : R) → Q dead → ((x : S) → P x → Kept P Q (turn x))
    → (fuel : ℕ) (x : S) → P x → Q (until turn dead fuel x)
unfolding until
until_keeps P Q turn dead q each zero x p = q
until_keeps {S} {R} P Q turn dead q each (suc fuel) x p = pick (turn x) (each x p) (until_keeps P Q turn dead q each fuel)
  where
    pick : (t : Turn S R) → Kept P Q t → ((y : S) → P y → Q (until turn dead fuel y)) → Q (then t (λ y. until turn dead fuel y) (λ r. r))
    pick (go y) k later = later y k
    pick (stop r) k later = k
