-- An array that a loop fills with the numbers of an index. Assumes nothing.
use Prim.Native.Nat.{ℕ, zero, suc, ◌+◌, ◌≤◌, ◌<◌}
use mathlib.Core.List.{List, [], ◌∷◌, ◌++◌}
use mathlib.Core.Path.{◌≡◌, refl, sym, ◌∙◌}
use native.Mathlib.Decide.{dec_lt}
use native.Mathlib.Numerals.{add-one}
use native.Mathlib.Omega.{arith}
use lib.ListN.{length, take, get_or, set, replicate, length-set, length-append, length-replicate, get_or-replicate, get_or-append, get_or-eq_default}
use lib.Seq.{take_all, take-suc-set, get_or-append_seam, ext_get_or}
use Rattle.whole.specs.Cells.{listed}

-- the first b of n elements are those of f
pub record Filled {A : Type 0} (n b : ℕ) (f : ℕ → A) (xs : List A) : Type 0 where
  pub long : length xs ≡ n
  pub same : take b xs ≡ listed b f

pub filled_none : {A : Type 0} {n : ℕ} {f : ℕ → A} {xs : List A} → length xs ≡ n → Filled n 0 f xs
unfolding listed
filled_none e = record { long = e; same = refl }

pub filled_more : {A : Type 0} {n b : ℕ} {v : A} {f : ℕ → A} {xs : List A} → Filled n b f xs → b < n → v ≡ f b → Filled n (b + 1) f (set xs b v)
unfolding listed
filled_more {A} {n} {b} {v} {f} {xs} x h e =
    let l : b < length xs = omega (arith, x.long) in
    record { long = simp length-set x.long; same = rw (add-one, take-suc-set xs b v l, x.same, e) }

pub filled_all : {A : Type 0} {n b : ℕ} {f : ℕ → A} {xs : List A} → Filled n b f xs → b ≡ n → xs ≡ listed n f
filled_all {A} {n} {b} {f} {xs} x e =
    let l : length xs ≤ b = omega (arith, x.long) in
    sym (take_all b xs l) ∙ x.same ∙ (λ i. listed (e i) f)

-- ---- its elements

pub listed_length : {A : Type 0} (n : ℕ) (f : ℕ → A) → length (listed n f) ≡ n
unfolding listed
listed_length zero f = refl
listed_length (suc n) f = simp (length-append, listed_length n f) (omega arith)

pub listed_at : {A : Type 0} (n : ℕ) (f : ℕ → A) (d : A) (b : ℕ) → b < n → get_or (listed n f) b d ≡ f b
unfolding listed
listed_at zero f d b h = absurd (omega arith)
listed_at (suc n) f d b h = pick (dec_lt b n) (listed_at n f d b)
  where
    pick : Dec (b < n) → (b < n → get_or (listed n f) b d ≡ f b) → get_or (listed n f ++ (f n ∷ [])) b d ≡ f b
    pick (yes l) before = get_or-append (listed n f) (f n ∷ []) d b (omega (arith, listed_length n f)) ∙ before l
    pick (no l) before =
        let q : b ≡ length (listed n f) = omega (arith, listed_length n f) in
        let r : n ≡ b = omega arith in
        (λ i. get_or (listed n f ++ (f n ∷ [])) (q i) d) ∙ get_or-append_seam (listed n f) (f n) [] d ∙ (λ i. f (r i))

pub listed_past : {A : Type 0} (n : ℕ) (f : ℕ → A) (d : A) (b : ℕ) → n ≤ b → get_or (listed n f) b d ≡ d
listed_past n f d b h = get_or-eq_default (listed n f) d (omega (arith, listed_length n f))

-- a list of n elements is that of its own
pub listed_self : {A : Type 0} (n : ℕ) (xs : List A) (d : A) → length xs ≡ n → xs ≡ listed n (λ b. get_or xs b d)
listed_self n xs d e =
    ext_get_or d xs (listed n (λ b. get_or xs b d)) (e ∙ sym (listed_length n (λ b. get_or xs b d)))
    (λ b h. sym (listed_at n (λ b. get_or xs b d) d b (omega arith)))

pub listed_same : {A : Type 0} (n : ℕ) (f g : ℕ → A) → ((b : ℕ) → b < n → f b ≡ g b) → listed n f ≡ listed n g
unfolding listed
listed_same zero f g same = refl
listed_same (suc n) f g same = λ i. listed_same n f g (λ b h. same b (omega arith)) i ++ (same n (omega arith) i ∷ [])

-- ---- one element throughout, and past the end too

pub replicated : {A : Type 0} (n b : ℕ) (v : A) → get_or (replicate n v) b v ≡ v
replicated n b v = by (dec_lt b n)
  where
    by : Dec (b < n) → get_or (replicate n v) b v ≡ v
    by (yes l) = get_or-replicate n b v v l
    by (no l) = get_or-eq_default (replicate n v) v (omega (arith, length-replicate n v))
