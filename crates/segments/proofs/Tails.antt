-- A.4.7's rule on Sd: `full_tail` is the most that it may be. Assumes nothing.
use Prim.Native.Nat.{ℕ, zero, suc, ◌+◌, ◌-◌, ◌≤◌, ◌<◌, zero-le}
use mathlib.Core.Bool.{Bool, true, false, ◌&&◌, cond}
use mathlib.Core.List.{List}
use mathlib.Core.Path.{◌≡◌, refl, sym, subst}
use native.Mathlib.Decide.{dec_lt}
use native.Mathlib.Omega.{arith}
use borrow.Author.Tests.{eqb-true, eq-eqb}
use lib.Dec.{eqb}
use Rattle.segments.specs.Components.{sx_at, sy_at}
use Rattle.segments.specs.Segments.{full_tail}

module _ (s : List ℕ) (cdt : ℕ) where
  -- component c is sampled at every grid point
  abbrev pub Full : ℕ → Type 0
  Full c = (sx_at s cdt c ≡ 1) × (sy_at s cdt c ≡ 1)

  -- the last d of the first n components are
  abbrev pub LastFull : ℕ → ℕ → Type 0
  LastFull n d = (c : ℕ) → n ≤ c + d → c < n → Full c

  tail_last : (n d : ℕ) → d ≤ full_tail s cdt n → LastFull n d
  unfolding full_tail
  tail_last zero d l c from below = absurd (omega arith)
  tail_last (suc n) d l c from below = pick (eqb (sx_at s cdt n) 1) (eqb (sy_at s cdt n) 1) refl refl l (tail_last n (d - 1))
    where
      last : Full n → Dec (c < n) → (c < n → Full c) → Full c
      last f (yes b) before = before b
      last f (no b) before =
          let e : n ≡ c = omega arith in
          subst Full e f

      pick : (x y : Bool) → x ≡ eqb (sx_at s cdt n) 1 → y ≡ eqb (sy_at s cdt n) 1 → d ≤ cond (x && y) (full_tail s cdt n + 1) 0
          → (d - 1 ≤ full_tail s cdt n → LastFull n (d - 1)) → Full c
      pick true true p q l before =
          last (eqb-true (sx_at s cdt n) 1 (sym p), eqb-true (sy_at s cdt n) 1 (sym q)) (dec_lt c n) (λ b. before (omega arith) c (omega arith) b)
      pick true false p q l before = absurd (omega arith)
      pick false y p q l before = absurd (omega arith)

  last_tail : (n d : ℕ) → d ≤ n → LastFull n d → d ≤ full_tail s cdt n
  unfolding full_tail
  last_tail zero d l f = omega arith
  last_tail (suc n) zero l f = zero-le
  last_tail (suc n) (suc d) l f =
      let here = f n (omega arith) (omega arith) in
      let before = last_tail n d (omega arith) (λ c from below. f c (omega arith) (omega arith)) in
      rw (eq-eqb (sx_at s cdt n) 1 here.0, eq-eqb (sy_at s cdt n) 1 here.1) (omega (arith, before))

-- Sd = d is no more than `full_tail` exactly where the last d of n components are sampled at every grid point
pub full_tail_lem : (s : List ℕ) (cdt n d : ℕ) → d ≤ n → (d ≤ full_tail s cdt n → LastFull s cdt n d) × (LastFull s cdt n d → d ≤ full_tail s cdt n)
full_tail_lem s cdt n d l = (tail_last s cdt n d, last_tail s cdt n d l)
