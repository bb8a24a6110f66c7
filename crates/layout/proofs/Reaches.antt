-- The lines and columns of a band in a precinct, as the code computes them. Assumes nothing.
use mathlib.Core.Path.{◌≡◌, refl, sym, ap, ◌∙◌}
use mathlib.Core.Bool.{Bool, true, false, ◌&&◌}
use Prim.Native.Nat.{ℕ, zero, suc, ◌+◌, ◌*◌, ◌-◌, ◌/◌, ◌%◌, ◌^◌, ◌≤◌, ◌<◌, min}
use native.Mathlib.Nat.{div-div-eq-div-mul, add-mul-div_left, mul-suc, one-mul, pow-suc, mod-one, zero-mod, mul-zero, add-mod-mod, div-add-mod', mul-lt-mul_of_pos_right, lt_of_mul-lt-mul_right}
use native.Mathlib.Decide.{dec_le, dec_lt}
use native.Mathlib.Omega.{arith}
use borrow.Author.Tests.{lt-ltb, le-ltb, eqb-true}
use lib.Dec.{eqb, ltb}
use lib.Pow.{pow_pos}
use Rattle.whole.specs.Numbers.{ceil_div}
use Rattle.wavelet.specs.Transform.{Kind, LL, HL, LH, HH, low_size, high_size}
use Rattle.wavelet.specs.Bands.{τx, τy, columns, rows}
use Rattle.layout.specs.declared.Shape.{Shape}
use Rattle.layout.specs.Bands.{sx, sy, Hc, N'y, kind, dx, dy, depth, Hb, exists}
use Rattle.layout.specs.Precincts.{Npy, Wp, by_letter, Wpb, first_y, most_lines, lines, L0, L1}
use Rattle.layout.specs.Packets.{included}
use Rattle.layout.specs.Built.{Built}
use Rattle.layout.proofs.Filters.{τy_most}
use Rattle.layout.proofs.Shapes.{dy_most}

-- ---- sizes by letter

pub columns_letter : (W : ℕ) (k : Kind) (d : ℕ) → columns W k d ≡ by_letter (τx k) (low_size W d) (high_size W d)
columns_letter W LL d = refl
columns_letter W HL d = refl
columns_letter W LH d = refl
columns_letter W HH d = refl

pub rows_letter : (H : ℕ) (k : Kind) (d : ℕ) → rows H k d ≡ by_letter (τy k) (low_size H d) (high_size H d)
rows_letter H LL d = refl
rows_letter H HL d = refl
rows_letter H LH d = refl
rows_letter H HH d = refl

-- a ceiling of a ceiling
pub ceil_ceil : (e m n : ℕ) → 0 < m → 0 < n → ceil_div (ceil_div e m) n ≡ ceil_div e (m * n)
ceil_ceil e m n h k =
    ap (λ (a : ℕ). a / n) (sym (add-mul-div_left (e + (m - 1)) (n - 1) h))
    ∙ div-div-eq-div-mul (e + (m - 1) + m * (n - 1)) m n
    ∙ ap (λ (a : ℕ). a / (m * n)) (inner n k)
  where
    inner : (n : ℕ) → 0 < n → e + (m - 1) + m * (n - 1) ≡ e + (m * n - 1)
    inner zero k = absurd (omega arith)
    inner (suc n) k =
        let z : suc n - 1 ≡ n = omega arith in
        rw z (omega (arith, mul-suc m n))

-- the width of a band in a column of precincts is the size of a band of as many samples
pub Wpb_size : (s : Shape) (column β i : ℕ) → 0 < sx s i
    → by_letter (τx (kind s β)) (low_size (ceil_div (Wp s column) (sx s i)) (dx s β)) (high_size (ceil_div (Wp s column) (sx s i)) (dx s β)) ≡ Wpb s column β i
unfolding Wpb
Wpb_size s column β i h =
    λ j.
    by_letter (τx (kind s β)) (ceil_ceil (Wp s column) (sx s i) (2 ^ dx s β) h (pow_pos (dx s β)) j)
    (ceil_ceil (Wp s column) (sx s i) (2 ^ (dx s β - 1)) h (pow_pos (dx s β - 1)) j / 2)

-- ---- the tests of Table B.4

pub ltb_same : (a b c d : ℕ) → (a < b → c < d) → (c < d → a < b) → ltb a b ≡ ltb c d
ltb_same a b c d f g = pick (dec_lt a b)
  where
    pick : Dec (a < b) → ltb a b ≡ ltb c d
    pick (yes h) = lt-ltb a b h ∙ sym (lt-ltb c d (f h))
    pick (no n) = le-ltb a b (omega arith) ∙ sym (le-ltb c d (other (dec_lt c d)))
      where
        other : Dec (c < d) → d ≤ c
        other (yes h) = absurd (n (g h))
        other (no m) = omega arith

pub double : (n : ℕ) → 0 < n → 2 ^ n ≡ 2 * 2 ^ (n - 1)
double zero h = absurd (omega arith)
double (suc n) h =
    let e : suc n - 1 ≡ n = omega arith in
    rw e (omega (arith, pow-suc 2 n))

-- three tests in a row, where the second and third agree as far as the tests before them hold
and_same : (x a b c d : Bool) → (x ≡ true → a ≡ c) → (x ≡ true → c ≡ true → b ≡ d) → (x && a && b) ≡ (x && c && d)
and_same false a b c d f g = refl
and_same true a b false d f g = ap (λ (y : Bool). y && b) (f refl)
and_same true a b true d f g = λ j. f refl j && g refl refl j

module _ (s : Shape) (β i : ℕ) (built : Built s) (h : i < s.nc) where
  two : sy s i ≤ 2
  two = omega (arith, (built.sampled i h).down_less, (built.sampled i h).across_two)

  -- a component with all of its rows has all the depth of a filter type, and one with half of them all but the last level's
  pub depth_full : sy s i ≡ 1 → depth s β i ≡ dy s β
  unfolding depth
  depth_full e = rw e (omega (arith, dy_most s β))

  pub depth_half : sy s i ≡ 2 → dy s β < s.nly → depth s β i ≡ dy s β
  unfolding depth
  depth_half e l = rw e (omega arith)

  pub depth_last : sy s i ≡ 2 → dy s β ≡ s.nly → depth s β i ≡ s.nly - 1
  unfolding depth
  depth_last e l = rw (e, l) (omega arith)

  -- an existing band's first line is a line of its component
  pub first_divides : exists s β i ≡ true → L0 s β i % sy s i ≡ 0
  unfolding exists L0
  first_divides e = by (dec_le (sy s i) 1)
    where
      there : 2 ^ (s.nly - dy s β) * τy (kind s β) % sy s i ≡ 0
      there = eqb-true (2 ^ (s.nly - dy s β) * τy (kind s β) % sy s i) 0 e

      high : sy s i ≡ 2 → s.nly - dy s β ≡ 0 → τy (kind s β) ≡ 1 → ⊥
      high a b d =
          let z : 2 ^ 0 * 1 % 2 ≡ 0 = (λ j. 2 ^ sym b j * sym d j % sym a j) ∙ there in
          omega (arith, z)

      half : sy s i ≡ 2 → Dec (dy s β < s.nly) → (t : ℕ) → τy (kind s β) ≡ t → 2 ^ (s.nly - depth s β i) * τy (kind s β) % sy s i ≡ 0
      half a (yes l) t z = ap (λ (d : ℕ). 2 ^ (s.nly - d) * τy (kind s β) % sy s i) (depth_half a l) ∙ there
      half a (no n) zero z = rw (z, mul-zero) (zero-mod (sy s i))
      half a (no n) (suc t) z = absurd (high a (omega arith) (omega (arith, τy_most (kind s β))))

      by : Dec (sy s i ≤ 1) → 2 ^ (s.nly - depth s β i) * τy (kind s β) % sy s i ≡ 0
      by (yes l) =
          let one : sy s i ≡ 1 = omega (arith, (built.sampled i h).down) in
          rw one (mod-one (2 ^ (s.nly - depth s β i) * τy (kind s β)))
      by (no n) = half (omega (arith, two)) (dec_lt (dy s β) s.nly) (τy (kind s β)) refl

  -- a line that a packet can name is one that the band can have
  pub line_fits : (l : ℕ) → l < 2 ^ (s.nly - dy s β) → l / sy s i < most_lines s β i
  line_fits l k = by (dec_le (sy s i) 1)
    where
      half : sy s i ≡ 2 → Dec (dy s β < s.nly) → l / sy s i < most_lines s β i
      half a (yes m) =
          rw (a, depth_half a m)
          (let d = double (s.nly - dy s β) (omega arith) in
          let e : s.nly - 1 - dy s β ≡ s.nly - dy s β - 1 = omega arith in
          rw e (omega (arith, d)))
      half a (no n) =
          let z : s.nly - dy s β ≡ 0 = omega (arith, dy_most s β) in
          let b : l ≡ 0 = omega (arith, rw z at k) in
          rw (a, b) (pow_pos _)

      by : Dec (sy s i ≤ 1) → l / sy s i < most_lines s β i
      by (yes m) =
          let one : sy s i ≡ 1 = omega (arith, (built.sampled i h).down) in
          let e : s.nly - 1 / 2 ≡ s.nly = omega arith in
          rw (one, depth_full one) (rw e (omega (arith, k)))
      by (no n) = half (omega (arith, two)) (dec_lt (dy s β) s.nly)

  pub line_same : (l : ℕ) → exists s β i ≡ true → l % sy s i ≡ (l + L0 s β i) % sy s i
  line_same l e =
      let z : l ≡ l + 0 = omega arith in
      ap (λ (m : ℕ). m % sy s i) z ∙ ap (λ (m : ℕ). (l + m) % sy s i) (sym (first_divides e)) ∙ add-mod-mod l (L0 s β i) (sy s i)

  below_same : (row l : ℕ) → l < 2 ^ (s.nly - dy s β) → l % sy s i ≡ 0 → ltb (first_y s row β i + l / sy s i) (Hb s β i) ≡ ltb (l + L0 s β i) (L1 s row β i)
  unfolding L1 lines
  below_same row l k z =
      ltb_same (first_y s row β i + l / sy s i) (Hb s β i) (l + L0 s β i) (L0 s β i + min (Hb s β i - first_y s row β i) (most_lines s β i) * sy s i)
      (λ a.
      omega (
        arith,
        whole,
        mul-lt-mul_of_pos_right {m = l / sy s i} {n = min (Hb s β i - first_y s row β i) (most_lines s β i)} {k = sy s i} (omega (arith, line_fits l k)) (built.sampled i h).down,
      ))
      (λ a.
      let q = lt_of_mul-lt-mul_right (sy s i) {m = l / sy s i} {n = min (Hb s β i - first_y s row β i) (most_lines s β i)} (omega (arith, whole)) in
      omega (arith, q))
    where
      whole : l / sy s i * sy s i ≡ l
      whole = omega (arith, div-add-mod' l (sy s i), z)

  -- Table B.4's three tests: the band exists, the line is one of its component's, and it is not below the band
  pub included_is : (row l : ℕ) → l < 2 ^ (s.nly - dy s β)
      → (exists s β i && eqb (l % sy s i) 0 && ltb (first_y s row β i + l / sy s i) (Hb s β i)) ≡ included s row β i l
  unfolding included
  included_is row l k =
      and_same (exists s β i) (eqb (l % sy s i) 0) (ltb (first_y s row β i + l / sy s i) (Hb s β i)) (eqb ((l + L0 s β i) % sy s i) 0)
      (ltb (l + L0 s β i) (L1 s row β i)) (λ e. ap (λ (m : ℕ). eqb m 0) (line_same l e))
      (λ e t. below_same row l k (line_same l e ∙ eqb-true ((l + L0 s β i) % sy s i) 0 t))

  -- the same as the code has it
  pub Hb_letter : by_letter (τy (kind s β)) (low_size (Hc s i) (depth s β i)) (high_size (Hc s i) (depth s β i)) ≡ Hb s β i
  unfolding Hb
  Hb_letter = sym (rows_letter (Hc s i) (kind s β) (depth s β i))

-- ---- rows of precincts and rows of a component

module _ (s : Shape) (i : ℕ) (built : Built s) (h : i < s.nc) where
  -- the rows of the grid that a row of a component's lowest band takes
  pub scale : sy s i * 2 ^ N'y s i ≡ 2 ^ s.nly
  scale = by (dec_le (sy s i) 1)
    where
      by : Dec (sy s i ≤ 1) → sy s i * 2 ^ N'y s i ≡ 2 ^ s.nly
      by (yes m) =
          let one : sy s i ≡ 1 = omega (arith, (built.sampled i h).down) in
          let e : s.nly - 1 / 2 ≡ s.nly = omega arith in
          rw one (rw e (one-mul (2 ^ s.nly)))
      by (no n) =
          let t : sy s i ≡ 2 = omega (arith, (built.sampled i h).down_less, (built.sampled i h).across_two) in
          let e : s.nly - 2 / 2 ≡ s.nly - 1 = omega arith in
          let u : 0 < s.nly = omega (arith, rw t at (built.sampled i h).enough) in
          rw t (rw e (sym (double s.nly u)))

  -- the lowest rows of a component are as many as the rows of precincts
  pub rows_low : low_size (Hc s i) (N'y s i) ≡ Npy s
  unfolding Hc Npy
  rows_low = ceil_ceil s.hf (sy s i) (2 ^ N'y s i) (built.sampled i h).down (pow_pos (N'y s i)) ∙ ap (ceil_div s.hf) scale
