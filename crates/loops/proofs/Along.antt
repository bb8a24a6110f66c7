-- A counting loop by what it says. Assumes nothing.
use Prim.Native.Nat.{ℕ, zero, suc, ◌+◌}
use mathlib.Core.List.{List, [], ◌∷◌, ◌++◌, append-nil}
use mathlib.Core.Path.{◌≡◌, refl, sym, ap, ◌∙◌}
use Rattle.loops.specs.Run.{Turn, go, stop, then, run}
use Rattle.loops.specs.Along.{along}

-- What is said is judged, and what is judged `fine` is passed over. A turn that goes on is fine; one that stops has the value of its result. Where what
-- each turn says gives its value, and what the end says that of the end, what is said along the loop gives the loop's
module _ {S R A W : Type 0} (judge : List A → W) (fine : W) (passes : (a b : List A) → judge a ≡ fine → judge (a ++ b) ≡ judge b)
    (value : R → W) where
  pub run_tells : (turn : ℕ → S → Turn S R) (end : S → R) (says : ℕ → S → List A) (last : S → List A)
      → ((x : S) → value (end x) ≡ judge (last x)) → ((g : ℕ) (x : S) → then (turn g x) (λ y. fine) value ≡ judge (says g x))
      → (left g : ℕ) (x : S) → value (run turn end left g x) ≡ judge (along turn says last left g x)
  unfolding run along
  run_tells turn end says last at_end each zero g x = at_end x
  run_tells turn end says last at_end each (suc left) g x = pick (turn g x) (each g x) (run_tells turn end says last at_end each left (g + 1))
    where
      pick : (t : Turn S R) → then t (λ y. fine) value ≡ judge (says g x)
          → ((y : S) → value (run turn end left (g + 1) y) ≡ judge (along turn says last left (g + 1) y))
          → value (then t (λ y. run turn end left (g + 1) y) (λ r. r))
          ≡ judge (says g x ++ then t (λ y. along turn says last left (g + 1) y) (λ r. []))
      pick (go y) e later = later y ∙ sym (passes (says g x) (along turn says last left (g + 1) y) (sym e))
      pick (stop r) e later = e ∙ sym (ap judge (append-nil (says g x)))

-- ---- what holds of all that is said

abbrev pub Each : {A : Type 0} → (A → Type 0) → List A → Type 0
Each P [] = Unit {0}
Each P (a ∷ l) = P a × Each P l

module _ {A : Type 0} (P : A → Type 0) where
  each_append : (l m : List A) → Each P l → Each P m → Each P (l ++ m)
  each_append [] m p q = q
  each_append (a ∷ l) m p q = (p.0, each_append l m p.1 q)

  -- where it holds of what each turn says, and of what the end says, it holds of what is said along the loop
  module _ {S R : Type 0} (turn : ℕ → S → Turn S R) (says : ℕ → S → List A) (last : S → List A)
      (each : (g : ℕ) (x : S) → Each P (says g x)) (ends : (x : S) → Each P (last x)) where
    pub each_along : (left g : ℕ) (x : S) → Each P (along turn says last left g x)
    unfolding along
    each_along zero g x = ends x
    each_along (suc left) g x = each_append (says g x) _ (each g x) (pick (turn g x) (each_along left (g + 1)))
      where
        pick : (t : Turn S R) → ((y : S) → Each P (along turn says last left (g + 1) y)) → Each P (then t (λ y. along turn says last left (g + 1) y) (λ r. []))
        pick (go y) later = later y
        pick (stop r) later = tt

-- ---- two loops

-- a loop whose result is fine, and another whose turns go on as its turns do and say the same there: the same is said along both
module _ {S R A : Type 0} (fine : R → Type 0) (turn turn' : ℕ → S → Turn S R) (end : S → R) (says says' : ℕ → S → List A) (last : S → List A)
    (goes : (g : ℕ) (x y : S) → turn g x ≡ go y → (turn' g x ≡ go y) × (says' g x ≡ says g x))
    (stops : (g : ℕ) (x : S) (r : R) → turn g x ≡ stop r → fine r → ⊥) where
  pub along_follows : (left g : ℕ) (x : S) → fine (run turn end left g x) → along turn' says' last left g x ≡ along turn says last left g x
  unfolding run along
  along_follows zero g x f = refl
  along_follows (suc left) g x f = pick (turn g x) refl (along_follows left (g + 1)) f
    where
      pick : (t : Turn S R) → turn g x ≡ t
          → ((y : S) → fine (run turn end left (g + 1) y) → along turn' says' last left (g + 1) y ≡ along turn says last left (g + 1) y)
          → fine (then t (λ y. run turn end left (g + 1) y) (λ r. r))
          → says' g x ++ then (turn' g x) (λ y. along turn' says' last left (g + 1) y) (λ r. [])
          ≡ says g x ++ then t (λ y. along turn says last left (g + 1) y) (λ r. [])
      pick (go y) e later f =
          let same = goes g x y e in
          (λ i. same.1 i ++ then (same.0 i) (λ y. along turn' says' last left (g + 1) y) (λ r. [])) ∙ (λ i. says g x ++ later y f i)
      pick (stop r) e later f = absurd (stops g x r e f)
