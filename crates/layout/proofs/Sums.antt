-- Counts and sums over the bands and the components. Assumes nothing.
use mathlib.Core.Path.{◌≡◌, refl, sym, ap, ◌∙◌}
use mathlib.Core.Bool.{Bool, true, false, cond}
use Prim.Native.Nat.{ℕ, zero, suc, ◌+◌, ◌*◌, ◌/◌, ◌%◌, ◌^◌, ◌≤◌, ◌<◌, min}
use native.Mathlib.Decide.{dec_lt}
use native.Mathlib.Nat.{mul-le-mul, mul_comm, div-lt_iff_lt-mul, mod-lt}
use native.Mathlib.Numerals.{add-one}
use native.Mathlib.Omega.{arith}
use borrow.Author.Tests.{lt-ltb, le-ltb}
use lib.ListN.{get_or}
use Rattle.std.specs.List.{sum_by, count_by, range_with_len}
use Rattle.std.proofs.lemmas.List.{map-id}
use Rattle.std.proofs.lemmas.List.FromFn.{sum_by-map-range_with_len_more}
use Rattle.whole.proofs.Lists.{listed_at}
use Rattle.layout.specs.declared.Shape.{Shape}
use Rattle.layout.specs.Bands.{Wc, Hc, Nβ, NL, band_exists}
use Rattle.layout.specs.Built.{Built}
use Rattle.layout.specs.Headers.{modes, mode_bit, mode_bits, header_bytes_of}
use Rattle.layout.specs.Cells.{area, samples}
use Rattle.layout.specs.Sizes.{component_of, mode_width}
use Rattle.layout.proofs.Filters.{filters_is}
use Rattle.layout.proofs.Shapes.{component_small}

pub one_most : (t : Bool) → cond t 1 0 ≤ 1
one_most true = omega arith
one_most false = omega arith

-- ---- bands

-- they are counted in a row
pub modes_counted : (s : Shape) (b : ℕ) → count_by (λ k. band_exists s k) (range_with_len 0 b) ≡ modes s b
unfolding modes
modes_counted s zero = refl
modes_counted s (suc b) =
    let one : ℕ → ℕ = λ k. cond (band_exists s k) 1 0 in
    ap (sum_by one) (sym (map-id (range_with_len 0 (suc b))))
    ∙ rw add-one at (sum_by-map-range_with_len_more one (λ k. k) 0 b b (omega arith))
    ∙ ap (λ (n : ℕ). n + one b) (ap (sum_by one) (map-id (range_with_len 0 b)) ∙ modes_counted s b)

pub modes_next : (s : Shape) (b : ℕ) → modes s (b + 1) ≡ modes s b + cond (band_exists s b) 1 0
unfolding modes
modes_next s b = rw add-one

pub modes_most : (s : Shape) (b : ℕ) → modes s b ≤ b
unfolding modes
modes_most s zero = omega arith
modes_most s (suc b) = omega (arith, modes_most s b, one_most (band_exists s b))

-- the bit where a band's field begins, and the next one's behind it
module _ (s : Shape) (b : ℕ) where
  pub width_most : mode_width s b ≤ 2
  width_most = by (dec_lt b (NL s)) (one_most (band_exists s b))
    where
      by : Dec (b < NL s) → cond (band_exists s b) 1 0 ≤ 1 → mode_width s b ≤ 2
      by (yes l) most = rw (lt-ltb b (NL s) l) (omega arith)
      by (no n) most = rw (le-ltb b (NL s) (omega arith)) (omega arith)

  pub mode_bit_next : mode_bit s (min b (NL s)) + mode_width s b ≡ mode_bit s (min (b + 1) (NL s))
  mode_bit_next = by (dec_lt b (NL s))
    where
      by : Dec (b < NL s) → mode_bit s (min b (NL s)) + mode_width s b ≡ mode_bit s (min (b + 1) (NL s))
      by (yes l) =
          let e : min b (NL s) ≡ b = omega arith in
          let f : min (b + 1) (NL s) ≡ b + 1 = omega arith in
          rw (e, f, lt-ltb b (NL s) l) (omega (arith, modes_next s b))
      by (no n) =
          let e : min b (NL s) ≡ min (b + 1) (NL s) = omega arith in
          rw (e, le-ltb b (NL s) (omega arith)) (omega arith)

-- the field of an existing band is one of those below any later band
pub modes_past : (s : Shape) (b n : ℕ) → b < n → band_exists s b ≡ true → modes s b + 1 ≤ modes s n
unfolding modes
modes_past s b zero l e = absurd (omega arith)
modes_past s b (suc n) l e = pick (dec_lt b n) (modes_past s b n)
  where
    pick : Dec (b < n) → (b < n → band_exists s b ≡ true → modes s b + 1 ≤ modes s n) → modes s b + 1 ≤ modes s n + cond (band_exists s n) 1 0
    pick (yes k) before = omega (arith, before k e)
    pick (no k) before =
        let last : n ≡ b = omega arith in
        rw (last, e) (omega arith)

-- the filter types, and a band's β and i
pub types_most : (s : Shape) → Built s → Nβ s ≤ 10
types_most s b = omega (arith, filters_is s.nlx s.nly b.no_more, b.levels, b.down_levels, b.no_more)

module _ (s : Shape) (built : Built s) where
  pub bands_most : NL s ≤ 40
  bands_most = mul-le-mul {n₁ = s.nc} {m₁ = Nβ s} {n₂ = 4} {m₂ = 10} built.few (types_most s built)

  pub band_type : (b : ℕ) → b < NL s → b / s.nc < Nβ s
  band_type b h = (div-lt_iff_lt-mul built.some).1 (omega (arith, mul_comm s.nc (Nβ s)))

  pub band_component : (b : ℕ) → b % s.nc < s.nc
  band_component b = mod-lt b built.some

  pub header_most : header_bytes_of s ≤ 15
  header_most = omega (arith, modes_most s (NL s), bands_most)

  -- the first bits of all bands hold each band's
  pub mode_bits_at : (b : ℕ) → b < NL s → get_or (mode_bits s) b 0 ≡ mode_bit s b
  mode_bits_at b l =
      let e : min b (NL s) ≡ b = omega arith in
      listed_at 40 (λ b. mode_bit s (min b (NL s))) 0 b (omega (arith, bands_most)) ∙ ap (mode_bit s) e

  -- ---- samples

  pub area_most : (i : ℕ) → i < s.nc → area s i ≤ 2 ^ 28
  unfolding area
  area_most i h =
      let p = component_small s i (component_of s i) built h refl in
      mul-le-mul {n₁ = Wc s i} {m₁ = Hc s i} {n₂ = 2 ^ 14} {m₂ = 2 ^ 14} p.narrow p.low

  pub samples_next : (i : ℕ) → samples s (i + 1) ≡ samples s i + area s i
  unfolding samples
  samples_next i = rw add-one

  pub samples_most : (i : ℕ) → i ≤ s.nc → samples s i ≤ 2 ^ 28 * i
  unfolding samples
  samples_most zero h = omega arith
  samples_most (suc i) h = omega (arith, samples_most i (omega arith), area_most i h)
