-- Two counting loops side by side: one that follows the other's way to a result, and two whose states stay related. Assumes nothing.
use Prim.Native.Nat.{ℕ, zero, suc, ◌+◌, ◌≤◌, ◌<◌}
use mathlib.Core.Path.{◌≡◌, refl, ◌∙◌}
use native.Mathlib.Omega.{arith}
use Rattle.loops.specs.Run.{Turn, go, stop, then, run}

-- ---- a turn is one that goes on or one that stops

pub go_same : {S R : Type 0} {x y : S} → ◌≡◌ {A = Turn S R} (go x) (go y) → x ≡ y
go_same {S} {R} {x} e = λ i. out (e i)
  where
    out : Turn S R → S
    out (go y) = y
    out (stop r) = x

pub stop_same : {S R : Type 0} {x y : R} → ◌≡◌ {A = Turn S R} (stop x) (stop y) → x ≡ y
stop_same {S} {R} {x} e = λ i. out (e i)
  where
    out : Turn S R → R
    out (go y) = x
    out (stop r) = r

abbrev Goes : {S R : Type 0} → Turn S R → Type 0
Goes (go y) = Unit {0}
Goes (stop r) = ⊥

pub go_stop : {S R A : Type 0} {x : S} {r : R} → ◌≡◌ {A = Turn S R} (go x) (stop r) → A
go_stop e = absurd (coe 0 1 (i. Goes (e i)) tt)

-- ---- two loops

-- A loop that comes to r, and another whose turns do what its turns do on the way there: it comes to r too. P is what the way to r keeps
pub run_follows : {S R : Type 0} (P : S → Type 0) (r : R) (turn turn' : ℕ → S → Turn S R) (end end' : S → R) (n : ℕ)
    → ((x : S) → P x → end x ≡ r → end' x ≡ r)
    → ((g : ℕ) (x : S) → g < n → P x → turn g x ≡ stop r → turn' g x ≡ stop r)
    → ((g left : ℕ) (x y : S) → g + suc left ≡ n → P x → turn g x ≡ go y → run turn end left (g + 1) y ≡ r → (turn' g x ≡ go y) × P y)
    → (left g : ℕ) (x : S) → g + left ≡ n → P x → run turn end left g x ≡ r → run turn' end' left g x ≡ r
unfolding run
run_follows P r turn turn' end end' n at_end at_stop each zero g x h p e = at_end x p e
run_follows {S} {R} P r turn turn' end end' n at_end at_stop each (suc left) g x h p e =
    pick (turn g x) refl e (λ y. run_follows P r turn turn' end end' n at_end at_stop each left (g + 1) y (omega arith))
  where
    pick : (t : Turn S R) → turn g x ≡ t → then t (λ y. run turn end left (g + 1) y) (λ z. z) ≡ r
        → ((y : S) → P y → run turn end left (g + 1) y ≡ r → run turn' end' left (g + 1) y ≡ r)
        → then (turn' g x) (λ y. run turn' end' left (g + 1) y) (λ z. z) ≡ r
    pick (go y) f e later =
        let next = each g left x y (omega arith) p f e in
        (λ i. then (next.0 i) (λ y. run turn' end' left (g + 1) y) (λ z. z)) ∙ later y next.1 e
    pick (stop z) f e later =
        let same = at_stop g x (omega arith) p (f ∙ (λ i. stop (e i))) in
        λ i. then (same i) (λ y. run turn' end' left (g + 1) y) (λ z. z)

-- two turns that both go on, to states that are related, or both stop, with results that are
abbrev pub Both : {S R : Type 0} → (S → S → Type 0) → (R → R → Type 0) → Turn S R → Turn S R → Type 0
Both P Q (go x) (go y) = P x y
Both P Q (go x) (stop r) = ⊥
Both P Q (stop r) (go y) = ⊥
Both P Q (stop r) (stop z) = Q r z

-- loops whose turns keep their states related have results that are
pub run_both : {S R : Type 0} (P : S → S → Type 0) (Q : R → R → Type 0) (turn turn' : ℕ → S → Turn S R) (end end' : S → R) (n : ℕ)
    → ((x y : S) → P x y → Q (end x) (end' y)) → ((g : ℕ) (x y : S) → g < n → P x y → Both P Q (turn g x) (turn' g y))
    → (left g : ℕ) (x y : S) → g + left ≤ n → P x y → Q (run turn end left g x) (run turn' end' left g y)
unfolding run
run_both P Q turn turn' end end' n at_end each zero g x y h p = at_end x y p
run_both {S} {R} P Q turn turn' end end' n at_end each (suc left) g x y h p =
    pick (turn g x) (turn' g y) (each g x y (omega arith) p) (λ a b. run_both P Q turn turn' end end' n at_end each left (g + 1) a b (omega arith))
  where
    pick : (t u : Turn S R) → Both P Q t u → ((a b : S) → P a b → Q (run turn end left (g + 1) a) (run turn' end' left (g + 1) b))
        → Q (then t (λ y. run turn end left (g + 1) y) (λ r. r)) (then u (λ y. run turn' end' left (g + 1) y) (λ r. r))
    pick (go a) (go b) k later = later a b k
    pick (go a) (stop z) k later = absurd k
    pick (stop r) (go b) k later = absurd k
    pick (stop r) (stop z) k later = k
