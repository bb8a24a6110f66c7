-- The fewest decimal digits that hold a number are those of its text. Assumes nothing.
use Prim.Native.Nat.{ℕ, zero, suc, ◌*◌, ◌-◌, ◌/◌, ◌%◌, ◌^◌, ◌≤◌, ◌<◌}
use mathlib.Core.Bool.{Bool, cond}
use mathlib.Core.List.{List, [], ◌∷◌, ◌++◌}
use mathlib.Core.Path.{◌≡◌, sym, ap, ◌∙◌}
use native.Mathlib.Nat.{le-div_iff_mul-le, div-lt_iff_lt-mul, one-le-pow, pow-le-pow_right, pow-suc}
use native.Mathlib.Decide.{dec_lt}
use native.Mathlib.Omega.{arith}
use borrow.Author.Tests.{lt-ltb, le-ltb}
use Rattle.io.specs.Digits.{last_digits, hex_digit_ascii, IsDigitCount}
use Rattle.show.specs.Text.{digits_of}

module _ (most : ℕ) (n : ℕ) where
  last_digit : n < 10 → digits_of (suc most) n ≡ hex_digit_ascii (n % 10) ∷ []
  unfolding digits_of
  last_digit h = ap (λ (t : Bool). cond t [] (digits_of most (n / 10)) ++ (hex_digit_ascii (n % 10) ∷ [])) (lt-ltb n 10 h)

  more_digits : 10 ≤ n → digits_of (suc most) n ≡ digits_of most (n / 10) ++ (hex_digit_ascii (n % 10) ∷ [])
  unfolding digits_of
  more_digits h = ap (λ (t : Bool). cond t [] (digits_of most (n / 10)) ++ (hex_digit_ascii (n % 10) ∷ [])) (le-ltb n 10 h)

pub spelt : (most n k : ℕ) → k ≤ most → IsDigitCount 10 1 n k → last_digits 10 k n ≡ digits_of most n
spelt most n zero l h = absurd (omega (arith, h.0))
spelt zero n (suc k) l h = absurd (omega arith)
spelt (suc most) n (suc zero) l h = sym (last_digit most n h.1)
spelt (suc most) n (suc (suc k)) l h =
    ap (λ (t : List ℕ). t ++ (hex_digit_ascii (n % 10) ∷ [])) (spelt most (n / 10) (suc k) (omega arith) (omega arith, less, most_so))
    ∙ sym (more_digits most n ten)
  where
    power : 10 ^ suc k ≡ 10 ^ k * 10
    power = pow-suc 10 k

    enough : 10 ^ suc k ≤ n
    enough =
        let e : suc (suc k) - 1 ≡ suc k = omega arith in
        (rw e at (h.2 (omega arith)))

    some : 0 < 10 ^ k
    some = one-le-pow k 10 (omega arith)

    ten : 10 ≤ n
    ten = omega (arith, enough, power, some)

    less : n / 10 < 10 ^ suc k
    less = (div-lt_iff_lt-mul {k = 10} {x = n} {y = 10 ^ suc k} (omega arith)).1 (rw (pow-suc 10 (suc k)) at h.1)

    most_so : 1 < suc k → 10 ^ (suc k - 1) ≤ n / 10
    most_so _ =
        let e : suc k - 1 ≡ k = omega arith in
        rw e ((le-div_iff_mul-le {k = 10} {x = 10 ^ k} {y = n} (omega arith)).1 (rw power at enough))

-- a number below 2^64 has at most 20
pub few : (n k : ℕ) → n < 2 ^ 64 → IsDigitCount 10 1 n k → k ≤ 20
few n k h f = pick (dec_lt 20 k)
  where
    pick : Dec (20 < k) → k ≤ 20
    pick (no q) = omega arith
    pick (yes q) = absurd (omega (arith, f.2 (omega arith), pow-le-pow_right {n = 10} (omega arith) {i = 20} {j = k - 1} (omega arith)))
