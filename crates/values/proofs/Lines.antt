-- A line, group after group. Assumes nothing.
use mathlib.Core.Bool.{Bool, false}
use mathlib.Core.List.{List}
use mathlib.Core.Path.{◌≡◌, refl, sym, ap, ◌∙◌}
use Prim.Native.Nat.{ℕ, zero, suc, ◌+◌, ◌-◌, ◌*◌, ◌/◌, ◌%◌, ◌≤◌, ◌<◌, min}
use native.Mathlib.Numerals.{add-one}
use native.Mathlib.Nat.{add-mul}
use native.Mathlib.Omega.{arith}
use lib.IntN.{ℤ}
use lib.ListN.{length}
use Rattle.whole.specs.Cells.{cell}
use Rattle.bits.specs.Groups.{Ncg, nibbles_of, held_m}
use Rattle.bits.proofs.Groups.{nibbles_le}
use Rattle.values.specs.Group.{sign_bits_of}
use Rattle.values.specs.Line.{place, count_place, Fit, M, behind, group_at, placed, index_at, value_at, line_values}
use Rattle.values.specs.Steps.{GroupFit, value, group_values, group_of}
use Rattle.values.specs.declared.Coding.{Coding}
use Rattle.values.specs.declared.Line.{Line}
use Rattle.values.specs.declared.Next.{Next}
use Rattle.values.proofs.Places.{Placing, placing, starts, placed_same, placed_join, placed_other}
use Rattle.values.proofs.Groups.{sign_bits_of_le}

-- ---- counts

pub count_le : (z : ℤ) → held_m z ≤ 31
count_le z = omega arith

module _ (l : Line) (cells : List ℤ) where
  pub M_le : (g : ℕ) → M l cells g ≤ 31
  unfolding M
  M_le g = count_le (cell cells (count_place l g))

  -- the nibbles of the first g groups
  unfoldable pub nibbles : Bool → ℕ → ℕ
  nibbles fs zero = 0
  nibbles fs (suc g) = nibbles fs g + nibbles_of (M l cells g) l.t fs

  pub nibbles_most : (fs : Bool) (g : ℕ) → nibbles fs g ≤ 32 * g
  unfolding nibbles
  nibbles_most fs zero = omega arith
  nibbles_most fs (suc g) = omega (arith, nibbles_most fs g, nibbles_le (M l cells g) l.t fs (M_le g))

-- ---- the state before group g

pub record Reached (dat sgn : List ℕ) (how : Coding) (l : Line) (from : Next) (g : ℕ) (cells₀ : List ℤ) (next : Next) (cells : List ℤ) : Type 0 where
  pub at : next.at ≡ (group_at dat how l from cells₀ g).at
  pub sign : next.sign ≡ (group_at dat how l from cells₀ g).sign
  pub written : Placing l.first l.stride (value_at dat sgn how l from cells₀) (min (4 * g) l.width) cells₀ cells

module _ (dat sgn : List ℕ) (how : Coding) (l : Line) (from : Next) (cells₀ : List ℤ) where
  pub nibble_at : (g : ℕ) → (group_at dat how l from cells₀ g).at ≡ from.at + nibbles l cells₀ how.fs g
  unfolding behind nibbles
  nibble_at zero = omega arith
  nibble_at (suc g) = omega (arith, nibble_at g)

  nibble_at_most : (g : ℕ) → (group_at dat how l from cells₀ g).at ≤ from.at + 32 * g
  nibble_at_most g = omega (arith, nibble_at g, nibbles_most l cells₀ how.fs g)

  pub sign_at_most : (g : ℕ) → (group_at dat how l from cells₀ g).sign ≤ from.sign + 4 * g
  unfolding behind
  sign_at_most zero = omega arith
  sign_at_most (suc g) = omega (arith, sign_at_most g, sign_bits_of_le dat how.fs (M l cells₀ g) l.t (group_at dat how l from cells₀ g).at)

  pub sign_at_least : (g : ℕ) → from.sign ≤ (group_at dat how l from cells₀ g).sign
  unfolding behind
  sign_at_least zero = omega arith
  sign_at_least (suc g) = omega (arith, sign_at_least g)

  -- none where Fs is 0
  pub sign_at_none : how.fs ≡ false → (g : ℕ) → (group_at dat how l from cells₀ g).sign ≡ from.sign
  unfolding behind sign_bits_of
  sign_at_none f zero = refl
  sign_at_none f (suc g) =
      let none : sign_bits_of dat how.fs (M l cells₀ g) l.t (group_at dat how l from cells₀ g).at ≡ 0 = rw f in
      omega (arith, sign_at_none f g, none)

  pub reached_first : Reached dat sgn how l from 0 cells₀ from cells₀
  unfolding behind
  reached_first =
      let e : min 0 l.width ≡ 0 = omega arith in
      record { at = refl; sign = refl; written = rw e starts }

  -- ---- group g, with its four coefficients from 4 g on

  module _ (g : ℕ) {next : Next} {cells : List ℤ} (some : 4 * g < l.width) (fit : Fit how l from (length cells₀)) (r : Reached dat sgn how l from g cells₀ next cells) where
    -- the cell of its count has not been written
    same_count : M l cells g ≡ M l cells₀ g
    unfolding M
    same_count =
        ap held_m
        (ap (λ (c : List ℤ). cell c (count_place l g)) r.written.same
        ∙ placed_other l.first l.stride (value_at dat sgn how l from cells₀) (min (4 * g) l.width) cells₀ (count_place l g)
        (λ x h e. omega (arith, fit.apart x (omega arith))))

    value_same : (k : ℕ) → k < 4 → value_at dat sgn how l from cells₀ (4 * g + k) ≡ value dat sgn how (group_of l cells g) next k
    unfolding value_at index_at value group_of
    value_same k h =
        let q : (4 * g + k) / 4 ≡ g = omega arith in
        let m : (4 * g + k) % 4 ≡ k = omega arith in
        rw (q, m, same_count, r.at, r.sign)

    pub fits_group : GroupFit how (group_of l cells g) next (length cells)
    unfolding group_of
    fits_group = record {
      inside = record { each = λ k h. omega (arith, fit.inside (4 * g + k) (omega arith), add-mul (4 * g) k l.stride, r.written.long) };
      count = omega arith;
      m = M_le l cells g;
      at = omega (arith, r.at, nibble_at_most g, fit.at, fit.width);
      sign = omega (arith, r.sign, sign_at_most g, fit.sign, fit.width);
      fq = fit.fq;
    }

    pub reached_next : {next' : Next} {cells' : List ℤ} → group_values dat sgn how (group_of l cells g) next cells ≡ (next', cells') → Reached dat sgn how l from (g + 1) cells₀ next' cells'
    unfolding group_values group_of behind
    reached_next e =
        let all : min (4 * (g + 1)) l.width ≡ 4 * g + min 4 (l.width - 4 * g) = omega arith in
        let done : min (4 * g) l.width ≡ 4 * g = omega arith in
        let f = value_at dat sgn how l from cells₀ in
        record {
          at = sym (ap (λ (x : Next × List ℤ). x.0.at) e) ∙ rw (add-one g, same_count, r.at);
          sign = sym (ap (λ (x : Next × List ℤ). x.0.sign) e) ∙ rw (add-one g, same_count, r.sign, r.at);
          written = rw all (placing
              (sym (ap (λ (x : Next × List ℤ). x.1) e)
              ∙ sym (placed_same (place l (4 * g)) l.stride (λ k. f (4 * g + k)) (value dat sgn how (group_of l cells g) next) (min 4 (l.width - 4 * g)) cells (λ k h. value_same k (omega arith)))
              ∙ ap (placed (place l (4 * g)) l.stride (λ k. f (4 * g + k)) (min 4 (l.width - 4 * g))) (rw done at r.written.same)
              ∙ sym (placed_join l.first l.stride f (4 * g) (min 4 (l.width - 4 * g)) cells₀)));
        }

  -- past the last group the line is done
  pub reached_last : {g : ℕ} {next : Next} {cells : List ℤ} → g ≡ Ncg l.width → Reached dat sgn how l from g cells₀ next cells
      → line_values dat sgn how l from cells₀ ≡ (next, cells)
  unfolding line_values
  reached_last {g} e r =
      let all : min (4 * Ncg l.width) l.width ≡ l.width = omega arith in
      let q = rw e at r in
      let w = rw all at q.written.same in
      rw (← q.at, ← q.sign, ← w)
