-- Laws of request C-19's text: four digits of a code, the forms of a range, and the lines of a page that is read. Assumes nothing.
use Prim.Native.Nat.{ℕ, ◌+◌, ◌-◌, ◌/◌, ◌%◌, ◌≤◌, ◌<◌}
use mathlib.Core.Bool.{Bool}
use mathlib.Core.List.{List, [], ◌∷◌, ◌++◌}
use mathlib.Core.Path.{◌≡◌, ap, ◌∙◌}
use native.Mathlib.Decide.{dec_lt}
use native.Mathlib.Nat.{pow-le-pow_right}
use native.Mathlib.Numerals.{add-one}
use native.Mathlib.Omega.{arith}
use borrow.Author.Tests.{lt-ltb, le-ltb, eq-eqb, ne_eqb}
use Rattle.io.specs.Digits.{last_digits, hex_digit_ascii, IsDigitCount}
use Rattle.rows.specs.Rows.{ample}
use Rattle.fields.specs.Letters.{ascii}
use Rattle.reasons.specs.declared.Why.{Why}
use Rattle.show.specs.Buffer.{Put}
use Rattle.show.specs.Why.{numeral, expected, coarsest_line, coarsest_of, coarsest_lines}
use Rattle.show.proofs.Puts.{put_none, put_both}

-- ---- codes

-- sixteen bits have four digits, where at least four are asked for
four : (n k : ℕ) → n < 65536 → IsDigitCount 16 4 n k → k ≡ 4
four n k h f = pick (dec_lt 4 k)
  where
    pick : Dec (4 < k) → k ≡ 4
    pick (no q) = omega (arith, f.0)
    pick (yes q) = absurd (omega (arith, f.2 q, pow-le-pow_right {n = 16} (omega arith) {i = 4} {j = k - 1} (omega arith)))

-- the last four digits of a number are those of its last sixteen bits
last_four : (n : ℕ) → last_digits 16 4 (n % 65536) ≡ last_digits 16 4 n
last_four n =
    let a : n % 65536 / 16 / 16 / 16 % 16 ≡ n / 16 / 16 / 16 % 16 = omega arith in
    let b : n % 65536 / 16 / 16 % 16 ≡ n / 16 / 16 % 16 = omega arith in
    let c : n % 65536 / 16 % 16 ≡ n / 16 % 16 = omega arith in
    let d : n % 65536 % 16 ≡ n % 16 = omega arith in
    λ i. hex_digit_ascii (a i) ∷ hex_digit_ascii (b i) ∷ hex_digit_ascii (c i) ∷ hex_digit_ascii (d i) ∷ []

pub code_digits : (n k : ℕ) → IsDigitCount 16 4 (n % 65536) k → last_digits 16 k (n % 65536) ≡ last_digits 16 4 n
code_digits n k f =
    let below : n % 65536 < 65536 = omega arith in
    ap (λ (j : ℕ). last_digits 16 j (n % 65536)) (four (n % 65536) k below f) ∙ last_four n

-- ---- ranges

module _ {at r : ℕ} {o o' : List ℕ} (code : Bool) (least most : ℕ) where
  pub one_value : least ≡ most → Put (numeral code least) at o r o' → Put (expected code least most) at o r o'
  one_value e p = rw (eq-eqb least most e) p

  pub no_most : (least ≡ most → ⊥) → most ≡ ample → Put (ascii "at least " ++ numeral code least) at o r o' → Put (expected code least most) at o r o'
  no_most n e p = rw (ne_eqb least most n, eq-eqb most ample e) p

  pub both_ends : (least ≡ most → ⊥) → (most ≡ ample → ⊥) → Put (numeral code least ++ (ascii " to " ++ numeral code most)) at o r o'
      → Put (expected code least most) at o r o'
  both_ends n m p = rw (ne_eqb least most n, ne_eqb most ample m) p

-- ---- a page that is read

module _ (w : Why) where
  -- a component that the page has not
  pub no_line : (i at : ℕ) (o : List ℕ) → w.components ≤ i → Put (coarsest_of w i) at o at o
  no_line i at o h = rw (le-ltb i w.components h) (put_none at o)

  module _ {at r : ℕ} {o o' : List ℕ} where
    pub one_line : (i : ℕ) → i < w.components → Put (coarsest_line w i) at o r o' → Put (coarsest_of w i) at o r o'
    one_line i h p = rw (lt-ltb i w.components h) p

    -- one component more
    pub next_line : {r' : ℕ} {o'' : List ℕ} (i : ℕ) → Put (coarsest_lines w i) at o r o' → Put (coarsest_of w i) r o' r' o'' → Put (coarsest_lines w (i + 1)) at o r' o''
    unfolding coarsest_lines
    next_line i p q = rw add-one (put_both p q)
