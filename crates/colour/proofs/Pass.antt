-- The pass over a picture, pixel by pixel: what three stores leave, what x turns leave, and that the contract leaves no choice. Assumes nothing.
use mathlib.Core.Path.{◌≡◌, sym, ap, ◌∙◌}
use mathlib.Core.Logic.{◌≢◌}
use mathlib.Core.List.{List}
use Prim.Native.Nat.{ℕ, ◌+◌, ◌-◌, ◌≤◌, ◌<◌}
use native.Mathlib.Decide.{ℕ_discrete, dec_le, dec_lt}
use native.Mathlib.Omega.{arith}
use lib.IntN.{ℤ, pos}
use lib.ListN.{length, set, length-set}
use lib.Seq.{get_or-set_same, get_or-set_other, ext_get_or}
use Rattle.whole.specs.Cells.{cell}
use Rattle.colour.specs.Pass.{pixel, put, Stretches, TransformedBy}
use Rattle.colour.specs.declared.Pixel.{Pixel}

-- ---- a pixel is put at p, q and r
module _ (l : List ℤ) (p q r : ℕ) (o : Pixel ℤ) where
  put_off : (j : ℕ) → (j ≢ p) × (j ≢ q) × (j ≢ r) → cell (put l p q r o) j ≡ cell l j
  put_off j h =
      get_or-set_other (set (set l p o.c0) q o.c1) r j o.c2 (pos 0) h.2
      ∙ get_or-set_other (set l p o.c0) q j o.c1 (pos 0) h.1
      ∙ get_or-set_other l p j o.c0 (pos 0) h.0

  put_on : (p < length l) × (q < length l) × (r < length l) → (p ≢ q) × (p ≢ r) × (q ≢ r) → pixel (put l p q r o) p q r ≡ o
  put_on h d = rw (at_p, at_q, at_r)
    where
      at_p : cell (put l p q r o) p ≡ o.c0
      at_p =
          get_or-set_other (set (set l p o.c0) q o.c1) r p o.c2 (pos 0) d.1
          ∙ get_or-set_other (set l p o.c0) q p o.c1 (pos 0) d.0
          ∙ get_or-set_same l p o.c0 (pos 0) h.0

      at_q : cell (put l p q r o) q ≡ o.c1
      at_q =
          get_or-set_other (set (set l p o.c0) q o.c1) r q o.c2 (pos 0) d.2
          ∙ get_or-set_same (set l p o.c0) q o.c1 (pos 0) (simp length-set h.1)

      at_r : cell (put l p q r o) r ≡ o.c2
      at_r = get_or-set_same (set (set l p o.c0) q o.c1) r o.c2 (pos 0) (simp length-set h.2)

-- ---- the pass

module _ {f : Pixel ℤ → Pixel ℤ} {first second third n x : ℕ} {l l' : List ℤ} (s : Stretches first second third n l) (t : TransformedBy f first second third x l l') (b : x < n) where
  -- the turn's pixel is as it was
  pub pass_here : pixel l' (first + x) (second + x) (third + x) ≡ pixel l (first + x) (second + x) (third + x)
  pass_here =
      rw (
        t.off (first + x) (λ y h. omega (arith, s.apart x y b (omega arith))),
        t.off (second + x) (λ y h. omega (arith, (s.apart y x (omega arith) b).0, (s.apart x y b (omega arith)).2)),
        t.off (third + x) (λ y h. omega (arith, s.apart y x (omega arith) b)),
      )

  -- a turn
  pub pass_goes_on : TransformedBy f first second third (x + 1) l (put l' (first + x) (second + x) (third + x) (f (pixel l' (first + x) (second + x) (third + x))))
  pass_goes_on = record {
    same = simp length-set t.same;
    on = λ y h. on' y h (ℕ_discrete y x);
    off = λ j h. other j (h x (omega arith)) ∙ t.off j (λ y k. h y (omega arith));
  }
    where
      o : Pixel ℤ
      o = f (pixel l' (first + x) (second + x) (third + x))

      m : List ℤ
      m = put l' (first + x) (second + x) (third + x) o

      other : (j : ℕ) → (j ≢ first + x) × (j ≢ second + x) × (j ≢ third + x) → cell m j ≡ cell l' j
      other = put_off l' (first + x) (second + x) (third + x) o

      on' : (y : ℕ) → y < x + 1 → Dec (y ≡ x) → pixel m (first + y) (second + y) (third + y) ≡ f (pixel l (first + y) (second + y) (third + y))
      on' y h (yes e) =
          rw e (put_on l' (first + x) (second + x) (third + x) o (omega (arith, s.inside, t.same)) (s.apart x x b b) ∙ ap f pass_here)
      on' y h (no e) =
          let k : y < n = omega arith in
          rw (
            other (first + y) (omega (arith, s.apart y x k b)),
            other (second + y) (omega (arith, (s.apart x y b k).0, (s.apart y x k b).2)),
            other (third + y) (omega (arith, s.apart x y b k)),
          )
          (t.on y (omega arith))

-- ---- the contract determines every cell

-- a cell is one of a stretch's, or none of them
data Place (base n j : ℕ) : Type 0 where
  within : (x : ℕ) → x < n → j ≡ base + x → Place base n j
  outside : ((x : ℕ) → x < n → j ≢ base + x) → Place base n j

place : (base n j : ℕ) → Place base n j
place base n j = pick (dec_le base j) (dec_lt j (base + n))
  where
    pick : Dec (base ≤ j) → Dec (j < base + n) → Place base n j
    pick (yes p) (yes q) = within (j - base) (omega arith) (omega arith)
    pick (yes p) (no q) = outside (λ x h e. q (omega arith))
    pick (no p) q = outside (λ x h e. p (omega arith))

pub pass_unique : {f : Pixel ℤ → Pixel ℤ} {first second third n : ℕ} {l l' l'' : List ℤ} → TransformedBy f first second third n l l' → TransformedBy f first second third n l l'' → l' ≡ l''
pass_unique {f} {first} {second} {third} {n} {l} {l'} {l''} t u =
    ext_get_or (pos 0) l' l'' (t.same ∙ sym u.same) (λ j h. at j (place first n j) (place second n j) (place third n j))
  where
    both : (x : ℕ) → x < n → pixel l' (first + x) (second + x) (third + x) ≡ pixel l'' (first + x) (second + x) (third + x)
    both x h = t.on x h ∙ sym (u.on x h)

    at : (j : ℕ) → Place first n j → Place second n j → Place third n j → cell l' j ≡ cell l'' j
    at j (within x h e) q r = rw e (ap (λ (p : Pixel ℤ). p.c0) (both x h))
    at j (outside g) (within x h e) r = rw e (ap (λ (p : Pixel ℤ). p.c1) (both x h))
    at j (outside g) (outside k) (within x h e) = rw e (ap (λ (p : Pixel ℤ). p.c2) (both x h))
    at j (outside g) (outside k) (outside m) =
        t.off j (λ x h. (g x h, k x h, m x h)) ∙ sym (u.off j (λ x h. (g x h, k x h, m x h)))
