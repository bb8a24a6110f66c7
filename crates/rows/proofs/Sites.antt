-- Where a refusal stands: no place is past n, where every check to which a reading comes stands at most there. Assumes nothing.
use Rattle.std.specs.Prelude.{Ok, Err}
use Prim.Native.Nat.{ℕ, zero, suc, ◌≤◌, ◌<◌}
use mathlib.Core.Bool.{Bool, true, false, ◌||◌, cond}
use mathlib.Core.List.{List, [], ◌∷◌, ◌++◌}
use mathlib.Core.Path.{◌≡◌, refl, ◌∙◌}
use native.Mathlib.Omega.{arith}
use borrow.Author.Tests.{le-ltb}
use Rattle.rows.specs.Rows.{broken, first, then, each, Fine, Refused, Verdict}
use Rattle.rows.specs.Tables.{Holds}
use Rattle.rows.specs.declared.Check.{Check}
use Rattle.rows.proofs.Tables.{held}

-- a verdict whose place, where it has one, is at most n
abbrev pub Inside : ℕ → Verdict → Type 0
Inside n (Ok _) = Unit {0}
Inside n (Err c) = c.1 ≤ n

-- as far as a reading comes, every check of the table stands at most at n
abbrev pub Sited : ℕ → List Check → Type 0
Sited n [] = Unit {0}
Sited n (c ∷ cs) = (c.1 ≤ n) × (Holds c → Sited n cs)

pub sited : (n : ℕ) (t : List Check) → Sited n t → Inside n (first t)
sited n [] h = tt
sited n (c ∷ cs) h = pick (broken c) refl (λ k. sited n cs (h.1 k))
  where
    pick : (b : Bool) → b ≡ broken c → (Holds c → Inside n (first cs)) → Inside n (cond b (Refused c) (first cs))
    pick true e later = h.0
    pick false e later = later (held (c ∷ []) (rw (← e))).0

-- one verdict, or one table, after another
pub inside_then : (n : ℕ) (v w : Verdict) → Inside n v → (v ≡ Fine → Inside n w) → Inside n (then v w)
inside_then n (Ok _) w h k = k refl
inside_then n (Err c) w h k = h

unbroken : (c : Check) → Holds c → broken c ≡ false
unbroken c h = λ i. le-ltb c.3 c.4 h.least i || le-ltb c.5 c.3 h.most i

pub sited_append : (n : ℕ) (xs ys : List Check) → Sited n xs → (first xs ≡ Fine → Sited n ys) → Sited n (xs ++ ys)
sited_append n [] ys h k = k refl
sited_append n (c ∷ cs) ys h k =
    (h.0, λ holds. sited_append n cs ys (h.1 holds) (λ e. k ((λ i. cond (unbroken c holds i) (Refused c) (first cs)) ∙ e)))

pub sited_each : (n m : ℕ) (f : ℕ → List Check) → ((k : ℕ) → k < m → Sited n (f k)) → Sited n (each m f)
unfolding each
sited_each n zero f h = tt
sited_each n (suc m) f h = sited_append n (each m f) (f m) (sited_each n m f (λ k l. h k (omega arith))) (λ _. h m (omega arith))

-- a table of which every check stands at most at n, held or not
abbrev pub Standing : ℕ → List Check → Type 0
Standing n [] = Unit {0}
Standing n (c ∷ cs) = (c.1 ≤ n) × Standing n cs

pub standing : (n : ℕ) (t : List Check) → Standing n t → Sited n t
standing n [] h = tt
standing n (c ∷ cs) h = (h.0, λ _. standing n cs h.1)

pub standing_then : (n : ℕ) (xs ys : List Check) → Standing n xs → Sited n ys → Sited n (xs ++ ys)
standing_then n xs ys h k = sited_append n xs ys (standing n xs h) (λ _. k)
