-- The precincts of a page, counted through all slices: which of its slice's each is. Assumes nothing.
use Prim.Native.Nat.{ℕ, ◌+◌, ◌*◌, ◌-◌, ◌/◌, ◌%◌, ◌≤◌, ◌<◌}
use mathlib.Core.Path.{◌≡◌, sym, ap, ◌∙◌}
use native.Mathlib.Nat.{mul_comm, mul_assoc, add-mul, one-mul, mul-le-mul, mul-le-mul_right, mod-lt, mod-eq_of_lt, div-eq_of_lt, div-add-mod', div-lt_iff_lt-mul, div-div-eq-div-mul, mul-add-div_right, mul-add-mod_self_right}
use native.Mathlib.Omega.{arith}
use Rattle.layout.specs.declared.Shape.{Shape}
use Rattle.layout.specs.Built.{Built}
use Rattle.layout.specs.Precincts.{Npx, Npy, Np, slices, slice_top}
use Rattle.layout.proofs.Columns.{Npx_some}
use Rattle.slices.proofs.SliceLaws.{row_inside, numbered}
use Rattle.reasons.specs.Coarsest.{per_slice, all}

module _ (s : Shape) (built : Built s) where
  pub per_slice_some : 0 < per_slice s
  per_slice_some = omega (arith, mul-le-mul {n₁ = 1} {m₁ = 1} (Npx_some s built) built.slice)

  -- ---- precinct p of the page is precinct p mod perSlice of slice p / perSlice

  module _ (p : ℕ) (h : p < all s) where
    abbrev row : ℕ
    row = p / Npx s

    abbrev t : ℕ
    t = row / s.hsl

    slice_is : t ≡ p / per_slice s
    slice_is = div-div-eq-div-mul p (Npx s) s.hsl

    row_below : row < Npy s
    row_below = (div-lt_iff_lt-mul (Npx_some s built)).1 (omega (arith, mul_comm (Npx s) (Npy s)))

    number_is : (row - slice_top s t) * Npx s + p % Npx s ≡ p % per_slice s
    number_is =
        let top : t * per_slice s ≡ slice_top s t * Npx s = ap (λ (n : ℕ). t * n) (mul_comm (Npx s) s.hsl) ∙ sym (mul_assoc t s.hsl (Npx s)) in
        let all_of : t * per_slice s + p % per_slice s ≡ p = ap (λ (n : ℕ). n * per_slice s + p % per_slice s) slice_is ∙ div-add-mod' p (per_slice s) in
        let down : slice_top s t + (row - slice_top s t) ≡ row = omega (arith, div-add-mod' row s.hsl) in
        let parts : slice_top s t * Npx s + (row - slice_top s t) * Npx s ≡ row * Npx s = sym (add-mul (slice_top s t) (row - slice_top s t) (Npx s)) ∙ ap (λ (n : ℕ). n * Npx s) down in
        omega (arith, top, all_of, parts, div-add-mod' p (Npx s))

    pub slice_below : p / per_slice s < slices s
    slice_below = omega (arith, slice_is, (numbered s built row_below (mod-lt p (Npx_some s built))).slice)

    pub number_below : p % per_slice s < Np s (p / per_slice s)
    number_below =
        let k = (numbered s built row_below (mod-lt p (Npx_some s built))).precinct in
        rw (← slice_is, ← number_is) k

  -- ---- and precinct n of slice t is one of the page

  module _ (t : ℕ) (l : t < slices s) (n : ℕ) (k : n < Np s t) where
    -- it is one of those of a slice that has all its rows
    pub number_fits : n < per_slice s
    number_fits =
        let inside = row_inside s built t l n k in
        let low : n / Npx s < s.hsl = omega (arith, div-add-mod' (slice_top s t + n / Npx s) s.hsl, inside.1, mod-lt (slice_top s t + n / Npx s) built.slice, ap (λ (m : ℕ). m * s.hsl) inside.1) in
        omega (arith, (div-lt_iff_lt-mul (Npx_some s built)).0 low, mul_comm (Npx s) s.hsl)

    pub page_slice : (t * per_slice s + n) / per_slice s ≡ t
    page_slice = mul-add-div_right per_slice_some t n ∙ omega (arith, div-eq_of_lt number_fits)

    pub page_number : (t * per_slice s + n) % per_slice s ≡ n
    page_number = mul-add-mod_self_right t (per_slice s) n ∙ mod-eq_of_lt number_fits

    pub page_below : t * per_slice s + n < all s
    page_below =
        let inside = (row_inside s built t l n k).0 in
        let row = slice_top s t + n / Npx s in
        let top : t * per_slice s ≡ slice_top s t * Npx s = ap (λ (m : ℕ). t * m) (mul_comm (Npx s) s.hsl) ∙ sym (mul_assoc t s.hsl (Npx s)) in
        let rows : (row + 1) * Npx s ≤ Npy s * Npx s = mul-le-mul_right (Npx s) (omega (arith, inside)) in
        omega (arith, top, rows, add-mul row 1 (Npx s), add-mul (slice_top s t) (n / Npx s) (Npx s), one-mul (Npx s), div-add-mod' n (Npx s), mod-lt n (Npx_some s built), mul_comm (Npx s) (Npy s))
