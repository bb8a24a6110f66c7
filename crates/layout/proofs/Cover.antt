-- A band's lines over all rows of precincts are its lines, each once, and its columns over all columns of precincts likewise: what a precinct holds by B.5's
-- rule is the part that the definitions count. Assumes nothing.
use mathlib.Core.Path.{◌≡◌, refl, sym, ap, ◌∙◌}
use mathlib.Core.Bool.{cond}
use Prim.Native.Nat.{ℕ, zero, suc, ◌+◌, ◌*◌, ◌-◌, ◌/◌, ◌%◌, ◌^◌, ◌≤◌, ◌<◌}
use native.Mathlib.Nat.{mul_assoc, mul_comm, mul_left_comm, mul-div-mul_right, mul-le-mul, mul-le-mul_right, le_of_mul-le-mul_right, lt_of_mul-lt-mul_right, div-eq_of_lt-le, div-mul-le_self, lt-div-mul-add, div-add-mod', mod-lt, mod-eq_of_lt, suc-mul, add-mul, one-mul, zero-mul, add-mul-div_right, mul-add-mod_self_right, mod-le, div-eq_of_lt, mul-mul-mul_comm}
use native.Mathlib.Decide.{dec_le, dec_lt}
use native.Mathlib.Omega.{arith}
use borrow.Author.Tests.{lt-ltb, le-ltb}
use lib.Dec.{ltb}
use lib.Pow.{pow_pos, pow-add, pow_mono}
use Rattle.whole.specs.Numbers.{ceil_div}
use Rattle.wavelet.specs.Transform.{low_size, high_size}
use Rattle.wavelet.specs.Bands.{τx, τy}
use Rattle.wavelet.proofs.Halves.{low_half, below_size, size_above}
use Rattle.layout.specs.declared.Shape.{Shape}
use Rattle.layout.specs.Bands.{sx, sy, Wc, Hc, N'y, Nβ, kind, dx, depth, Wb, Hb}
use Rattle.layout.specs.Built.{Built}
use Rattle.layout.specs.Precincts.{largest, Cs, Npx, Npy, Wp, by_letter, Wpb, first_x, first_y, most_lines, lines, slice_rows, slice_top, slices}
use Rattle.layout.proofs.Shapes.{depth_own, dx_most}
use Rattle.layout.proofs.Filters.{τx_most}
use Rattle.layout.proofs.Columns.{largest_of_lem, largest_two, Cs_columns, Cs_whole, Cs_range, column_inside}
use Rattle.layout.proofs.Existing.{high_deep}
use Rattle.layout.proofs.Reaches.{columns_letter, Hb_letter, ceil_ceil, scale, rows_low, double}

-- ---- lines

high_fewer : (n d : ℕ) → high_size n d ≤ low_size n d
high_fewer n zero = omega arith
high_fewer n (suc d) =
    let e : suc d - 1 ≡ d = omega arith in
    omega (arith, low_half n (suc d) (omega arith), ap (λ (k : ℕ). ceil_div n (2 ^ k) / 2) e, ap (λ (k : ℕ). ceil_div (ceil_div n (2 ^ k)) 2) e)

letter_most : (t n d : ℕ) → by_letter t (low_size n d) (high_size n d) ≤ low_size n d
letter_most zero n d = omega arith
letter_most (suc t) n d = high_fewer n d

module _ (s : Shape) (built : Built s) (β i : ℕ) (h : i < s.nc) where
  -- a row of precincts is this many lines of the band
  row_scale : most_lines s β i * (sy s i * 2 ^ depth s β i) ≡ 2 ^ s.nly
  row_scale =
      mul_left_comm (most_lines s β i) (sy s i) (2 ^ depth s β i)
      ∙ ap (λ (p : ℕ). sy s i * p) (sym (pow-add 2 (N'y s i - depth s β i) (depth s β i)) ∙ ap (λ (d : ℕ). 2 ^ d) (whole (N'y s i) (depth s β i) (depth_own s β i)))
      ∙ scale s i built h
    where
      whole : (n d : ℕ) → d ≤ n → n - d + d ≡ n
      whole n d l = omega arith

  -- B.5's rule down
  pub row_of_lem : (y : ℕ) → y * sy s i * 2 ^ depth s β i / 2 ^ s.nly ≡ y / most_lines s β i
  row_of_lem y =
      (λ j. mul_assoc y (sy s i) (2 ^ depth s β i) j / sym row_scale j)
      ∙ mul-div-mul_right y (most_lines s β i) (omega (arith, mul-le-mul {n₁ = 1} {m₁ = 1} (built.sampled i h).down (pow_pos (depth s β i))))

  -- every line of the band is in a row of precincts
  pub row_below : (y : ℕ) → y < Hb s β i → y / most_lines s β i < Npy s
  row_below y l =
      let most = pow_pos (N'y s i - depth s β i) in
      let low : y / most_lines s β i * most_lines s β i < low_size (Hc s i) (depth s β i) =
      omega (arith, div-mul-le_self y (most_lines s β i), Hb_letter s β i built h, letter_most (τy (kind s β)) (Hc s i) (depth s β i))
      in
      let e : ceil_div (low_size (Hc s i) (depth s β i)) (most_lines s β i) ≡ Npy s =
      ceil_ceil (Hc s i) (2 ^ depth s β i) (most_lines s β i) (pow_pos (depth s β i)) most
      ∙ ap (ceil_div (Hc s i)) (sym (pow-add 2 (depth s β i) (N'y s i - depth s β i)) ∙ ap (λ (d : ℕ). 2 ^ d) (whole (N'y s i) (depth s β i) (depth_own s β i)))
      ∙ rows_low s i built h
      in
      omega (arith, e, size_above most (low_size (Hc s i) (depth s β i)) (y / most_lines s β i) low)
    where
      whole : (n d : ℕ) → d ≤ n → d + (n - d) ≡ n
      whole n d l = omega arith

  -- it is one of the lines that are counted there
  pub member_line : (y : ℕ) → y < Hb s β i → (first_y s (y / most_lines s β i) β i ≤ y) × (y < first_y s (y / most_lines s β i) β i + lines s (y / most_lines s β i) β i)
  unfolding lines
  member_line y l =
      let a = div-mul-le_self y (most_lines s β i) in
      let b = lt-div-mul-add {a = y} {b = most_lines s β i} (pow_pos (N'y s i - depth s β i)) in
      (a, omega (arith, a, b))

  -- and a line that is counted in a row of precincts is a line of the band in that row
  pub line_member : (row y : ℕ) → first_y s row β i ≤ y → y < first_y s row β i + lines s row β i → (y < Hb s β i) × (y / most_lines s β i ≡ row)
  unfolding lines
  line_member row y a b =
      (omega arith, div-eq_of_lt-le (most_lines s β i) a (omega (arith, add-mul row 1 (most_lines s β i), one-mul (most_lines s β i))))

-- ---- columns

-- how many x have x u + t v below n, where u is 2 v if t is 1
letter_below : (t n u v x : ℕ) → t ≤ 1 → 0 < u → 0 < v → (t ≡ 1 → u ≡ v * 2) → x < by_letter t (ceil_div n u) (ceil_div n v / 2) → x * u + t * v < n
letter_below zero n u v x h a b e l = omega (arith, below_size a n x l)
letter_below (suc zero) n u v x h a b e l =
    let m = below_size b n (x * 2 + 1) (omega arith) in
    let d : x * u ≡ x * 2 * v = ap (λ (k : ℕ). x * k) (e refl ∙ mul_comm v 2) ∙ sym (mul_assoc x 2 v) in
    omega (arith, m, d, add-mul (x * 2) 1 v)
letter_below (suc (suc t)) n u v x h a b e l = absurd (omega arith)

letter_above : (t n u v x : ℕ) → t ≤ 1 → 0 < u → 0 < v → (t ≡ 1 → u ≡ v * 2) → x * u + t * v < n → x < by_letter t (ceil_div n u) (ceil_div n v / 2)
letter_above zero n u v x h a b e l = size_above a n x (omega arith)
letter_above (suc zero) n u v x h a b e l =
    let d : x * u ≡ x * 2 * v = ap (λ (k : ℕ). x * k) (e refl ∙ mul_comm v 2) ∙ sym (mul_assoc x 2 v) in
    let m = size_above b n (x * 2 + 1) (omega (arith, l, d, add-mul (x * 2) 1 v)) in
    omega (arith, m)
letter_above (suc (suc t)) n u v x h a b e l = absurd (omega arith)

module _ (s : Shape) (built : Built s) where
  -- a column of precincts that is not the last is Cs wide, and the last one is what is left
  pub inner_column : (column : ℕ) → column < Npx s - 1 → (Wp s column ≡ Cs s) × (column * Cs s + Cs s < s.wf)
  unfolding Wp
  inner_column column h = (
    rw (lt-ltb column (Npx s - 1) h),
    omega (arith, column_inside s built (column + 1) (omega arith), add-mul column 1 (Cs s), one-mul (Cs s)),
  )

  pub last_column : (column : ℕ) → column < Npx s → Npx s - 1 ≤ column → (column * Cs s + Wp s column ≡ s.wf) × (Wp s column ≤ Cs s)
  unfolding Wp Npx
  last_column column h l =
      let some = (Cs_range s built).0 in
      let n : ceil_div s.wf (Cs s) ≡ (s.wf - 1) / Cs s + 1 =
      ap (λ (k : ℕ). k / Cs s) (turned s.wf (Cs s) built.wide some) ∙ add-mul-div_right (s.wf - 1) 1 some
      in
      let c : column ≡ (s.wf - 1) / Cs s = omega (arith, n) in
      rw (le-ltb column (ceil_div s.wf (Cs s) - 1) l) (
        omega (arith, ap (λ (k : ℕ). k * Cs s) c, div-add-mod' (s.wf - 1) (Cs s), built.wide),
        omega (arith, mod-lt (s.wf - 1) some),
      )
    where
      turned : (w c : ℕ) → 1 ≤ w → 0 < c → w + (c - 1) ≡ w - 1 + 1 * c
      turned w c a b = omega arith

  module _ (β i : ℕ) (type : β < Nβ s) (h : i < s.nc) where
    -- the sampling grid's columns that one column of the band takes, and half of them
    abbrev u : ℕ
    u = sx s i * 2 ^ dx s β

    abbrev v : ℕ
    v = sx s i * 2 ^ (dx s β - 1)

    u_some : 0 < u
    u_some = omega (arith, mul-le-mul {n₁ = 1} {m₁ = 1} (built.sampled i h).across (pow_pos (dx s β)))

    v_some : 0 < v
    v_some = omega (arith, mul-le-mul {n₁ = 1} {m₁ = 1} (built.sampled i h).across (pow_pos (dx s β - 1)))

    u_twice : τx (kind s β) ≡ 1 → u ≡ v * 2
    u_twice e = ap (λ (p : ℕ). sx s i * p) (double (dx s β) (high_deep s built β type e) ∙ mul_comm 2 (2 ^ (dx s β - 1))) ∙ sym (mul_assoc (sx s i) (2 ^ (dx s β - 1)) 2)

    half_less : (t : ℕ) → t ≤ 1 → (t ≡ 1 → u ≡ v * 2) → t * v < u
    half_less zero a e = omega (arith, u_some)
    half_less (suc zero) a e = omega (arith, e refl, v_some)
    half_less (suc (suc t)) a e = absurd (omega arith)

    -- the band's columns by the grid
    Wb_grid : by_letter (τx (kind s β)) (ceil_div s.wf u) (ceil_div s.wf v / 2) ≡ Wb s β i
    unfolding Wb Wc
    Wb_grid =
        (λ j.
        by_letter (τx (kind s β)) (sym (ceil_ceil s.wf (sx s i) (2 ^ dx s β) (built.sampled i h).across (pow_pos (dx s β))) j)
        (sym (ceil_ceil s.wf (sx s i) (2 ^ (dx s β - 1)) (built.sampled i h).across (pow_pos (dx s β - 1))) j / 2))
        ∙ sym (columns_letter (ceil_div s.wf (sx s i)) (kind s β) (dx s β))

    pub band_column : (x : ℕ) → x < Wb s β i → x * u + τx (kind s β) * v < s.wf
    band_column x l = letter_below (τx (kind s β)) s.wf u v x (τx_most (kind s β)) u_some v_some u_twice (omega (arith, Wb_grid))

    -- a sampling factor divides the largest
    factor : sx s i * (largest (sx s) s.nc / sx s i) ≡ largest (sx s) s.nc
    factor = by (dec_le (sx s i) 1)
      where
        by : Dec (sx s i ≤ 1) → sx s i * (largest (sx s) s.nc / sx s i) ≡ largest (sx s) s.nc
        by (yes l) =
            let one : sx s i ≡ 1 = omega (arith, (built.sampled i h).across) in
            rw one (omega arith)
        by (no n) =
            let two : sx s i ≡ 2 = omega (arith, (built.sampled i h).across_two) in
            let most : largest (sx s) s.nc ≡ 2 = omega (arith, largest_of_lem (sx s) s.nc i h, largest_two s built, two) in
            rw (two, most)

    -- so a column of precincts is a whole number of the band's columns, where there are columns
    times : ℕ
    times = 8 * s.cw * (largest (sx s) s.nc / sx s i) * 2 ^ (s.nlx - dx s β)

    Cs_multiple : 0 < s.cw → Cs s ≡ times * u
    unfolding times
    Cs_multiple c =
        Cs_columns s built c
        ∙ (λ j. 8 * s.cw * (sym factor ∙ mul_comm (sx s i) (largest (sx s) s.nc / sx s i)) j * (ap (λ (d : ℕ). 2 ^ d) (whole s.nlx (dx s β) (dx_most s β built)) ∙ pow-add 2 (s.nlx - dx s β) (dx s β)) j)
        ∙ ap (λ (p : ℕ). p * (2 ^ (s.nlx - dx s β) * 2 ^ dx s β)) (sym (mul_assoc (8 * s.cw) (largest (sx s) s.nc / sx s i) (sx s i)))
        ∙ mul-mul-mul_comm (8 * s.cw * (largest (sx s) s.nc / sx s i)) (sx s i) (2 ^ (s.nlx - dx s β)) (2 ^ dx s β)
      where
        whole : (n d : ℕ) → d ≤ n → n ≡ n - d + d
        whole n d l = omega arith

    -- the columns of precincts are one where Cw is 0
    one_column : s.cw ≤ 0 → Npx s ≡ 1
    unfolding Npx
    one_column c =
        ap (ceil_div s.wf) (Cs_whole s built c)
        ∙ ap (λ (k : ℕ). k / s.wf) (sum s.wf built.wide)
        ∙ add-mul-div_right (s.wf - 1) 1 built.wide
        ∙ ap (λ (k : ℕ). k + 1) (div-eq_of_lt {n = s.wf - 1} {m = s.wf} (omega (arith, built.wide)))
      where
        sum : (w : ℕ) → 1 ≤ w → w + (w - 1) ≡ w - 1 + 1 * w
        sum w l = omega arith

    ceil_exact : (k : ℕ) → ceil_div (k * u) u ≡ k
    ceil_exact k =
        ap (λ (n : ℕ). n / u) (swap (k * u) (u - 1))
        ∙ add-mul-div_right (u - 1) k u_some
        ∙ ap (λ (n : ℕ). n + k) (div-eq_of_lt {n = u - 1} {m = u} (omega (arith, u_some)))
        ∙ omega arith
      where
        swap : (a b : ℕ) → a + b ≡ b + a
        swap a b = omega arith

    -- a column of precincts starts at the band's column first-x
    pub start_exact : (column : ℕ) → column < Npx s → first_x s column β i * u ≡ column * Cs s
    unfolding first_x
    start_exact column l = by (dec_lt 0 s.cw)
      where
        by : Dec (0 < s.cw) → ceil_div (column * Cs s) u * u ≡ column * Cs s
        by (yes c) =
            let e : column * Cs s ≡ column * times * u = ap (λ (k : ℕ). column * k) (Cs_multiple c) ∙ sym (mul_assoc column times u) in
            rw e (ap (λ (k : ℕ). k * u) (ceil_exact (column * times)))
        by (no n) =
            let z : column ≡ 0 = omega (arith, one_column (omega arith)) in
            let e : column * Cs s ≡ 0 * u = ap (λ (k : ℕ). k * Cs s) z ∙ zero-mul (Cs s) ∙ sym (zero-mul u) in
            rw e (ap (λ (k : ℕ). k * u) (ceil_exact 0))

    -- B.5's rule across
    pub column_of : (x : ℕ) → x * sx s i * 2 ^ dx s β / Cs s ≡ x * u / Cs s
    column_of x = ap (λ (k : ℕ). k / Cs s) (mul_assoc x (sx s i) (2 ^ dx s β))

    -- every column of the band is in a column of precincts
    pub column_below : (x : ℕ) → x < Wb s β i → x * u / Cs s < Npx s
    unfolding Npx
    column_below x l =
        size_above (Cs_range s built).0 s.wf (x * u / Cs s) (omega (arith, div-mul-le_self (x * u) (Cs s), band_column x l))

    -- the band's columns end, in a column of precincts, where that ends; in the last one, where the band does
    inner_end : (column x : ℕ) → column < Npx s - 1 → x * u < column * Cs s + Cs s → x * u + τx (kind s β) * v < column * Cs s + Cs s
    inner_end column x l k = by (dec_lt 0 s.cw)
      where
        by : Dec (0 < s.cw) → x * u + τx (kind s β) * v < column * Cs s + Cs s
        by (no n) = absurd (omega (arith, one_column (omega arith)))
        by (yes c) =
            let e : column * Cs s + Cs s ≡ (column + 1) * times * u =
            omega (arith, add-mul column 1 (Cs s), one-mul (Cs s), ap (λ (k : ℕ). (column + 1) * k) (Cs_multiple c), mul_assoc (column + 1) times u)
            in
            let below : x < (column + 1) * times = lt_of_mul-lt-mul_right u (omega (arith, e, k)) in
            omega (arith, e, mul-le-mul_right u below, suc-mul x u, half_less (τx (kind s β)) (τx_most (kind s β)) u_twice)

    width_end : (column x : ℕ) → column < Npx s → x < Wb s β i → x * u < column * Cs s + Cs s → x * u + τx (kind s β) * v < column * Cs s + Wp s column
    width_end column x l b k = by (dec_lt column (Npx s - 1))
      where
        by : Dec (column < Npx s - 1) → x * u + τx (kind s β) * v < column * Cs s + Wp s column
        by (yes m) = omega (arith, inner_end column x m k, (inner_column column m).0)
        by (no n) = omega (arith, (last_column column l (omega arith)).0, band_column x b)

    column_ends : (column : ℕ) → column < Npx s → (column * Cs s + Wp s column ≤ s.wf) × (Wp s column ≤ Cs s)
    column_ends column l = by (dec_lt column (Npx s - 1))
      where
        by : Dec (column < Npx s - 1) → (column * Cs s + Wp s column ≤ s.wf) × (Wp s column ≤ Cs s)
        by (yes m) = (omega (arith, inner_column column m), omega (arith, (inner_column column m).0))
        by (no n) = (omega (arith, (last_column column l (omega arith)).0), (last_column column l (omega arith)).1)

    -- from the first column on
    shifted : (column x w : ℕ) → column < Npx s → x ≡ first_x s column β i + w → x * u ≡ column * Cs s + w * u
    shifted column x w l e = ap (λ (k : ℕ). k * u) e ∙ add-mul (first_x s column β i) w u ∙ ap (λ (k : ℕ). k + w * u) (start_exact column l)

    -- a column of the band that belongs to a column of precincts is one of those that are counted there
    pub member_column : (x : ℕ) → x < Wb s β i
        → (first_x s (x * u / Cs s) β i ≤ x) × (x < first_x s (x * u / Cs s) β i + Wpb s (x * u / Cs s) β i)
    unfolding Wpb
    member_column x b =
        let c = x * u / Cs s in
        let l = column_below x b in
        let from : first_x s (x * u / Cs s) β i ≤ x = le_of_mul-le-mul_right {k = u} (omega (arith, start_exact (x * u / Cs s) l, div-mul-le_self (x * u) (Cs s))) u_some in
        let e = shifted (x * u / Cs s) x (x - first_x s (x * u / Cs s) β i) l (omega arith) in
        let end = width_end (x * u / Cs s) x l b (lt-div-mul-add {a = x * u} {b = Cs s} (Cs_range s built).0) in
        let w : x - first_x s (x * u / Cs s) β i < Wpb s (x * u / Cs s) β i =
        letter_above (τx (kind s β)) (Wp s (x * u / Cs s)) u v (x - first_x s (x * u / Cs s) β i) (τx_most (kind s β)) u_some v_some u_twice (omega (arith, e, end))
        in
        (from, omega (arith, w))

    -- Table E.2's ξ is its place among them
    pub place_of : (x : ℕ) → x < Wb s β i → x - first_x s (x * u / Cs s) β i ≡ x % ceil_div (Cs s) u
    unfolding first_x
    place_of x b = by (dec_lt 0 s.cw)
      where
        rest : (n : ℕ) → x - x / n * n ≡ x % n
        rest n = omega (arith, div-add-mod' x n)

        whole : x - 0 ≡ x
        whole = omega arith

        by : Dec (0 < s.cw) → x - ceil_div (x * u / Cs s * Cs s) u ≡ x % ceil_div (Cs s) u
        by (yes c) =
            let column : x * u / Cs s ≡ x / times = ap (λ (k : ℕ). x * u / k) (Cs_multiple c) ∙ mul-div-mul_right x times u_some in
            let start : ceil_div (x * u / Cs s * Cs s) u ≡ x / times * times =
            (λ j. ceil_div (column j * Cs_multiple c j) u) ∙ ap (λ (k : ℕ). ceil_div k u) (sym (mul_assoc (x / times) times u)) ∙ ceil_exact (x / times * times) in
            let wide : ceil_div (Cs s) u ≡ times = ap (λ (k : ℕ). ceil_div k u) (Cs_multiple c) ∙ ceil_exact times in
            ap (λ (k : ℕ). x - k) start ∙ rest times ∙ ap (λ (k : ℕ). x % k) (sym wide)
        by (no n) =
            let column : x * u / Cs s ≡ 0 = omega (arith, column_below x b, one_column (omega arith)) in
            let start : ceil_div (x * u / Cs s * Cs s) u ≡ 0 =
            (λ j. ceil_div (column j * Cs s) u) ∙ ap (λ (k : ℕ). ceil_div k u) (zero-mul (Cs s) ∙ sym (zero-mul u)) ∙ ceil_exact 0 in
            let below : x < ceil_div (Cs s) u = size_above u_some (Cs s) x (omega (arith, band_column x b, Cs_whole s built (omega arith))) in
            ap (λ (k : ℕ). x - k) start ∙ whole ∙ sym (mod-eq_of_lt below)

    -- and one that is counted in a column of precincts is a column of the band that belongs to it
    pub column_member : (column x : ℕ) → column < Npx s → first_x s column β i ≤ x → x < first_x s column β i + Wpb s column β i
        → (x < Wb s β i) × (x * u / Cs s ≡ column)
    unfolding Wpb
    column_member column x l a b =
        let e = shifted column x (x - first_x s column β i) l (omega arith) in
        let w : (x - first_x s column β i) * u + τx (kind s β) * v < Wp s column =
        letter_below (τx (kind s β)) (Wp s column) u v (x - first_x s column β i) (τx_most (kind s β)) u_some v_some u_twice (omega arith)
        in
        let ends = column_ends column l in
        let band : x < by_letter (τx (kind s β)) (ceil_div s.wf u) (ceil_div s.wf v / 2) =
        letter_above (τx (kind s β)) s.wf u v x (τx_most (kind s β)) u_some v_some u_twice (omega (arith, e, w, ends))
        in (
          omega (arith, Wb_grid, band),
          div-eq_of_lt-le (Cs s) (omega (arith, e)) (omega (arith, e, w, ends, add-mul column 1 (Cs s), one-mul (Cs s))),
        )

    -- what is below a component's width is, times its sampling factor, below the picture's
    across_below : (n : ℕ) → n < Wc s i → n * sx s i < s.wf
    unfolding Wc
    across_below n l = below_size (built.sampled i h).across s.wf n l

    -- a band has a column in every column of precincts: what the rules on Cw and on the least sizes are for
    pub width_some : (column : ℕ) → column < Npx s → 1 ≤ Wpb s column β i
    unfolding Wpb
    width_some column l =
        letter_above (τx (kind s β)) (Wp s column) u v 0 (τx_most (kind s β)) u_some v_some u_twice (omega (arith, half (dec_lt 0 s.cw)))
      where
        -- no column of precincts is narrower than a column of the band
        step_most : 0 < s.cw → u ≤ largest (sx s) s.nc * 2 ^ s.nlx
        step_most c = mul-le-mul (largest_of_lem (sx s) s.nc i h) (pow_mono {i = dx s β} {j = s.nlx} (dx_most s β built))

        rest : 0 < s.cw → Npx s - 1 ≤ column → u ≤ Wp s column
        rest c m =
            let e = last_column column l m in
            let r : s.wf % Cs s ≤ Wp s column =
            omega (arith, mod_le_of s.wf (Cs s) column (Wp s column) e.0 e.1 (Cs_range s built).0)
            in
            omega (arith, step_most c, built.last_column c, ap (λ (k : ℕ). s.wf % k) (Cs_columns s built c), r)
          where
            mod_le_of : (w c q r : ℕ) → q * c + r ≡ w → r ≤ c → 0 < c → w % c ≤ r
            mod_le_of w c q r e b z = rw (sym e) (omega (arith, mul-add-mod_self_right q c r, mod-le r c))

        half : Dec (0 < s.cw) → τx (kind s β) * v < Wp s column
        half (yes c) = by (dec_lt column (Npx s - 1))
          where
            less : τx (kind s β) * v < u
            less = half_less (τx (kind s β)) (τx_most (kind s β)) u_twice

            by : Dec (column < Npx s - 1) → τx (kind s β) * v < Wp s column
            by (no n) = omega (arith, less, rest c (omega arith))
            by (yes m) =
                let a = mul-le-mul_right u (times_some times u (Cs_range s built).0 (Cs_multiple c)) in
                omega (arith, less, (inner_column column m).0, Cs_multiple c, a, one-mul u)
              where
                times_some : (t u : ℕ) → 0 < Cs s → Cs s ≡ t * u → 1 ≤ t
                times_some zero u a e = absurd (omega (arith, e, zero-mul u))
                times_some (suc t) u a e = omega arith
        half (no n) = whole (τx (kind s β)) refl
          where
            all : Wp s column ≡ s.wf
            all =
                let z : column ≡ 0 = omega (arith, one_column (omega arith)) in
                omega (arith, (last_column column l (omega (arith, one_column (omega arith)))).0, ap (λ (k : ℕ). k * Cs s) z, zero-mul (Cs s))

            deep : 0 < dx s β → v < s.wf
            deep k =
                let a = below_size (pow_pos (dx s β - 1)) (Wc s i) 1 ((built.sampled i h).parts.two_across (dx s β - 1) (omega (arith, dx_most s β built))) in
                omega (arith, across_below (2 ^ (dx s β - 1)) (omega (arith, a)), mul_comm (sx s i) (2 ^ (dx s β - 1)))

            whole : (t : ℕ) → τx (kind s β) ≡ t → τx (kind s β) * v < Wp s column
            whole zero e = rw (e, all) (omega (arith, zero-mul v, built.wide))
            whole (suc t) e =
                let one : τx (kind s β) ≡ 1 = omega (arith, τx_most (kind s β)) in
                rw (one, all) (omega (arith, one-mul v, deep (high_deep s built β type one)))

-- ---- slices

module _ (s : Shape) (built : Built s) where
  -- a row of precincts is in the slice that its number names, and in no other
  pub row_slice : (row : ℕ) → row < Npy s → (row / s.hsl < slices s) × (slice_top s (row / s.hsl) ≤ row) × (row < slice_top s (row / s.hsl) + slice_rows s (row / s.hsl))
  unfolding slices slice_rows
  row_slice row h =
      let a = div-mul-le_self row s.hsl in
      let b = lt-div-mul-add {a = row} {b = s.hsl} built.slice in
      (size_above built.slice (Npy s) (row / s.hsl) (omega (arith, a)), a, by (dec_lt (Npy s) ((row / s.hsl + 1) * s.hsl)) b)
    where
      by : Dec (Npy s < (row / s.hsl + 1) * s.hsl) → row < row / s.hsl * s.hsl + s.hsl
          → row < row / s.hsl * s.hsl + cond (ltb (Npy s) ((row / s.hsl + 1) * s.hsl)) (Npy s % s.hsl) s.hsl
      by (no n) b = rw (le-ltb (Npy s) ((row / s.hsl + 1) * s.hsl) (omega arith)) b
      by (yes l) b =
          let q : Npy s / s.hsl ≡ row / s.hsl = div-eq_of_lt-le s.hsl (omega (arith, div-mul-le_self row s.hsl)) l in
          rw (lt-ltb (Npy s) ((row / s.hsl + 1) * s.hsl) l) (omega (arith, ap (λ (k : ℕ). k * s.hsl) q, div-add-mod' (Npy s) s.hsl))

  -- and the rows that a slice counts are rows of the picture
  pub slice_row : (t row : ℕ) → t < slices s → slice_top s t ≤ row → row < slice_top s t + slice_rows s t → (row < Npy s) × (row / s.hsl ≡ t)
  unfolding slices slice_rows
  slice_row t row h a b = by (dec_lt (Npy s) ((t + 1) * s.hsl)) b
    where
      top : t * s.hsl < Npy s
      top = below_size built.slice (Npy s) t h

      by : Dec (Npy s < (t + 1) * s.hsl) → row < t * s.hsl + cond (ltb (Npy s) ((t + 1) * s.hsl)) (Npy s % s.hsl) s.hsl → (row < Npy s) × (row / s.hsl ≡ t)
      by (no n) b =
          let c : row < t * s.hsl + s.hsl = rw (le-ltb (Npy s) ((t + 1) * s.hsl) (omega arith)) at b in
          let e : (t + 1) * s.hsl ≡ t * s.hsl + s.hsl = omega (arith, add-mul t 1 s.hsl, one-mul s.hsl) in
          (omega (arith, c, e), div-eq_of_lt-le s.hsl a (omega (arith, c, e)))
      by (yes l) b =
          let c : row < t * s.hsl + Npy s % s.hsl = rw (lt-ltb (Npy s) ((t + 1) * s.hsl) l) at b in
          let q : Npy s / s.hsl ≡ t = div-eq_of_lt-le s.hsl (omega (arith, top)) l in
          let e : t * s.hsl + Npy s % s.hsl ≡ Npy s = ap (λ (k : ℕ). k * s.hsl + Npy s % s.hsl) (sym q) ∙ div-add-mod' (Npy s) s.hsl in
          (omega (arith, c, e), div-eq_of_lt-le s.hsl a (omega (arith, c, e, l)))
