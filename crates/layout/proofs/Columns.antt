-- Columns of precincts: how wide and how many they are. Assumes nothing.
use mathlib.Core.Path.{◌≡◌, refl, sym, ap, ◌∙◌}
use Prim.Native.Nat.{ℕ, zero, suc, ◌+◌, ◌*◌, ◌^◌, ◌≤◌, ◌<◌, max}
use native.Mathlib.Nat.{mul-le-mul, max-zero}
use native.Mathlib.Decide.{dec_le, dec_lt}
use native.Mathlib.Numerals.{add-one}
use native.Mathlib.Omega.{arith}
use borrow.Author.Tests.{lt-ltb, le-ltb}
use lib.Pow.{pow_pos, pow_mono}
use Rattle.wavelet.proofs.Halves.{below_size}
use Rattle.layout.specs.declared.Shape.{Shape}
use Rattle.layout.specs.Bands.{sx}
use Rattle.layout.specs.Precincts.{largest, Cs, Npx, Npy, slices}
use Rattle.layout.specs.Built.{Built}
use Rattle.layout.proofs.Sizes.{ceil_most, ceil_some}

-- ---- the largest sampling factor

-- places where f is 0 add nothing
pub largest_past : (f : ℕ → ℕ) (n m : ℕ) → n ≤ m → ((i : ℕ) → n ≤ i → f i ≡ 0) → largest f m ≡ largest f n
unfolding largest
largest_past f n zero h z =
    let e : n ≡ 0 = omega arith in
    rw e
largest_past f n (suc m) h z = pick (dec_le n m) (λ l. largest_past f n m l z)
  where
    pick : Dec (n ≤ m) → (n ≤ m → largest f m ≡ largest f n) → max (largest f m) (f m) ≡ largest f n
    pick (yes l) ih = ap (λ (k : ℕ). max (largest f m) k) (z m l) ∙ max-zero (largest f m) ∙ ih l
    pick (no k) ih =
        let e : n ≡ suc m = omega arith in
        rw e

pub largest_most : (f : ℕ → ℕ) (n B : ℕ) → ((i : ℕ) → i < n → f i ≤ B) → largest f n ≤ B
unfolding largest
largest_most f zero B h = omega arith
largest_most f (suc n) B h = omega (arith, largest_most f n B (λ i l. h i (omega arith)), h n (omega arith))

pub largest_of_lem : (f : ℕ → ℕ) (n i : ℕ) → i < n → f i ≤ largest f n
unfolding largest
largest_of_lem f zero i h = absurd (omega arith)
largest_of_lem f (suc n) i h = pick (dec_lt i n) (λ l. largest_of_lem f n i l)
  where
    pick : Dec (i < n) → (i < n → f i ≤ largest f n) → f i ≤ max (largest f n) (f n)
    pick (yes l) ih = omega (arith, ih l)
    pick (no k) ih =
        let e : i ≡ n = omega arith in
        rw e (omega arith)

pub largest_next : (f : ℕ → ℕ) (n : ℕ) {m k : ℕ} → m ≡ largest f n → k ≡ f n → max m k ≡ largest f (n + 1)
unfolding largest
largest_next f n e g = rw (add-one n, e, g)

pub largest_same : (f g : ℕ → ℕ) (n : ℕ) → ((k : ℕ) → k < n → f k ≡ g k) → largest f n ≡ largest g n
unfolding largest
largest_same f g zero same = refl
largest_same f g (suc n) same = λ i. max (largest_same f g n (λ k l. same k (omega arith)) i) (same n (omega arith) i)

-- one that is above 0 is one of the numbers
pub record Reaches (f : ℕ → ℕ) (n : ℕ) : Type 0 where
  pub k : ℕ
  pub below : k < n
  pub is : f k ≡ largest f n

pub largest_reached : (f : ℕ → ℕ) (n : ℕ) → 0 < largest f n → Reaches f n
unfolding largest
largest_reached f zero h = absurd (omega arith)
largest_reached f (suc n) h = by (dec_lt (largest f n) (f n)) (largest_reached f n)
  where
    by : Dec (largest f n < f n) → (0 < largest f n → Reaches f n) → Reaches f (suc n)
    by (yes l) before = record { k = n; below = omega arith; is = omega arith }
    by (no l) before =
        let r = before (omega arith) in
        record { k = r.k; below = omega (arith, r.below); is = r.is ∙ omega arith }

module _ (s : Shape) (built : Built s) where
  pub largest_two : largest (sx s) s.nc ≤ 2
  largest_two = largest_most (sx s) s.nc 2 (λ i h. (built.sampled i h).across_two)

  pub largest_one : 1 ≤ largest (sx s) s.nc
  largest_one = omega (arith, largest_of_lem (sx s) s.nc 0 built.some, (built.sampled 0 built.some).across)

  pub largest_four : largest (sx s) s.nc ≡ max (max (max (sx s 0) (sx s 1)) (sx s 2)) (sx s 3)
  unfolding largest
  largest_four =
      sym (largest_past (sx s) s.nc 4 built.few (λ i h. (built.absent i h).0))
      ∙ ap (λ (a : ℕ). max (max (max a (sx s 1)) (sx s 2)) (sx s 3)) (omega arith)

  -- ---- the width of a column

  pub Cs_columns : 0 < s.cw → Cs s ≡ 8 * s.cw * largest (sx s) s.nc * 2 ^ s.nlx
  unfolding Cs
  Cs_columns h = rw (lt-ltb 0 s.cw h)

  pub Cs_whole : s.cw ≤ 0 → Cs s ≡ s.wf
  unfolding Cs
  Cs_whole h = rw (le-ltb 0 s.cw h)

  -- 8 Cw times the largest factor, and that times 2^NLx
  pub wide_most : 8 * s.cw * largest (sx s) s.nc ≤ 2 ^ 20
  wide_most = omega (arith, mul-le-mul {n₁ = 8 * s.cw} {m₁ = largest (sx s) s.nc} {n₂ = 2 ^ 19} {m₂ = 2} (omega (arith, built.column)) largest_two)

  pub Cs_range : (0 < Cs s) × (Cs s < 2 ^ 26)
  Cs_range = by (dec_lt 0 s.cw)
    where
      by : Dec (0 < s.cw) → (0 < Cs s) × (Cs s < 2 ^ 26)
      by (no n) = rw (Cs_whole (omega arith)) (built.wide, omega (arith, built.narrow))
      by (yes h) =
          let a = mul-le-mul {n₁ = 1} {m₁ = 1} {n₂ = 8 * s.cw} {m₂ = largest (sx s) s.nc} (omega arith) largest_one in
          let b = mul-le-mul {n₁ = 1} {m₁ = 1} {n₂ = 8 * s.cw * largest (sx s) s.nc} {m₂ = 2 ^ s.nlx} (omega (arith, a)) (pow_pos s.nlx) in
          let d = mul-le-mul {n₁ = 8 * s.cw * largest (sx s) s.nc} {m₁ = 2 ^ s.nlx} {n₂ = 2 ^ 20} {m₂ = 2 ^ 5} wide_most (pow_mono {i = s.nlx} {j = 5} built.levels) in
          rw (Cs_columns h) (omega (arith, b), omega (arith, d))

  -- ---- how many precincts

  pub Npx_most : Npx s ≤ 16384
  unfolding Npx
  Npx_most = omega (arith, ceil_most s.wf (Cs s) Cs_range.0, built.narrow)

  pub Npx_some : 1 ≤ Npx s
  unfolding Npx
  Npx_some = ceil_some s.wf (Cs s) built.wide Cs_range.0

  pub Npy_most : Npy s ≤ 16384
  unfolding Npy
  Npy_most = omega (arith, ceil_most s.hf (2 ^ s.nly) (pow_pos s.nly), built.low)

  pub slices_most : slices s ≤ 16384
  unfolding slices
  slices_most = omega (arith, ceil_most (Npy s) s.hsl built.slice, Npy_most)

  -- a column starts inside the picture
  pub column_inside : (column : ℕ) → column < Npx s → column * Cs s < s.wf
  unfolding Npx
  column_inside column h = below_size Cs_range.0 s.wf column h
