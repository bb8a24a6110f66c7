-- What the layers above use of a line. Assumes nothing.
use mathlib.Core.Bool.{Bool, false}
use mathlib.Core.List.{List}
use mathlib.Core.Path.{◌≡◌, refl, sym, ap, ◌∙◌}
use Prim.Native.Nat.{ℕ, zero, suc, ◌+◌, ◌*◌, ◌/◌, ◌%◌, ◌^◌, ◌≤◌, ◌<◌}
use native.Mathlib.Omega.{arith}
use lib.IntN.{ℤ, nat_abs}
use lib.ListN.{length}
use Rattle.whole.specs.Cells.{cell}
use Rattle.bits.specs.Groups.{Ncg, held_m}
use Rattle.quantiser.specs.Inverse.{coefficient_of, scaled, Carried}
use Rattle.quantiser.proofs.Laws.{carried_scaled}
use Rattle.values.specs.Line.{place, count_place, Fit, M, behind, group_at, placed, index_at, value_at, line_values}
use Rattle.values.specs.declared.Coding.{Coding}
use Rattle.values.specs.declared.Line.{Line}
use Rattle.values.specs.declared.Next.{Next}
use Rattle.values.proofs.Places.{placed_length, placed_other, placed_at}
use Rattle.values.proofs.Groups.{index_lt}
use Rattle.values.proofs.Lines.{M_le, nibbles, nibble_at, sign_at_most, sign_at_least, sign_at_none}

-- ---- indices and coefficients, one by one

module _ (dat sgn : List ℕ) (how : Coding) (l : Line) (from : Next) (cells : List ℤ) where
  -- M - T planes carry the index
  pub index_carried : (x : ℕ) → Carried (M l cells (x / 4)) l.t (nat_abs (index_at dat sgn how l from cells x))
  unfolding index_at
  index_carried x = record { count = M_le l cells (x / 4); below = index_lt dat how.fs (M l cells (x / 4)) l.t _ sgn _ (x % 4) }

  pub value_small : (x : ℕ) {F : ℕ} → how.fq ≤ F → nat_abs (value_at dat sgn how l from cells x) < 2 ^ (31 + F)
  unfolding value_at
  value_small x h = carried_scaled how.uniform (index_at dat sgn how l from cells x) (index_carried x) h

  -- ---- the line's answer and its cells

  module _ {next : Next} {after : List ℤ} (e : line_values dat sgn how l from cells ≡ (next, after)) where
    after_is : after ≡ placed l.first l.stride (value_at dat sgn how l from cells) l.width cells
    unfolding line_values
    after_is = sym (ap (λ (x : Next × List ℤ). x.1) e)

    pub line_length : length after ≡ length cells
    line_length = rw after_is (placed_length l.first l.stride _ l.width cells)

    -- each coefficient cell
    pub line_at : 0 < l.stride → (x : ℕ) → x < l.width → place l x < length cells → cell after (place l x) ≡ value_at dat sgn how l from cells x
    line_at s x h i = rw after_is (placed_at l.first l.stride (value_at dat sgn how l from cells) l.width cells x s h i)

    pub line_coefficient : 0 < l.stride → (x : ℕ) → x < l.width → place l x < length cells
        → cell after (place l x) ≡ scaled how.fq (coefficient_of how.uniform (M l cells (x / 4)) l.t (index_at dat sgn how l from cells x))
    unfolding value_at
    line_coefficient s x h i = line_at s x h i

    -- any other cell
    pub line_other : (p : ℕ) → ((x : ℕ) → x < l.width → p ≡ place l x → ⊥) → cell after p ≡ cell cells p
    line_other p h = rw after_is (placed_other l.first l.stride (value_at dat sgn how l from cells) l.width cells p h)

    -- the line's own counts
    pub line_counts : {n : ℕ} → Fit how l from n → (g : ℕ) → M l after g ≡ M l cells g
    unfolding M
    line_counts fit g = ap held_m (line_other (count_place l g) (λ x h e. omega (arith, fit.apart x h)))

    -- what it takes of each subpacket
    pub line_nibbles : next.at ≡ from.at + nibbles l cells how.fs (Ncg l.width)
    unfolding line_values
    line_nibbles = sym (ap (λ (x : Next × List ℤ). x.0.at) e) ∙ nibble_at dat sgn how l from cells (Ncg l.width)

    next_sign : next.sign ≡ (group_at dat how l from cells (Ncg l.width)).sign
    unfolding line_values
    next_sign = sym (ap (λ (x : Next × List ℤ). x.0.sign) e)

    pub line_signs : (from.sign ≤ next.sign) × (next.sign ≤ from.sign + 4 * Ncg l.width)
    line_signs = omega (arith, next_sign, sign_at_least dat sgn how l from cells (Ncg l.width), sign_at_most dat sgn how l from cells (Ncg l.width))

    -- with Fs = 0 there is no sign subpacket
    pub line_unsigned : how.fs ≡ false → next.sign ≡ from.sign
    line_unsigned f = next_sign ∙ sign_at_none dat sgn how l from cells f (Ncg l.width)

-- ---- what the groups of a line take, by their counts alone

pub behind_same : (dat : List ℕ) (fs : Bool) (T : ℕ) (from : Next) (f h : ℕ → ℕ) (n : ℕ) → ((g : ℕ) → g < n → f g ≡ h g) → behind dat fs T f from n ≡ behind dat fs T h from n
unfolding behind
behind_same dat fs T from f h zero same = refl
behind_same dat fs T from f h (suc n) same = rw (behind_same dat fs T from f h n (λ g k. same g (omega arith)), same n (omega arith))

module _ (l : Line) (cells cells' : List ℤ) where
  pub nibbles_same : (fs : Bool) (n : ℕ) → ((g : ℕ) → g < n → M l cells g ≡ M l cells' g) → nibbles l cells fs n ≡ nibbles l cells' fs n
  unfolding nibbles
  nibbles_same fs zero h = refl
  nibbles_same fs (suc n) h = rw (nibbles_same fs n (λ g k. h g (omega arith)), h n (omega arith))
