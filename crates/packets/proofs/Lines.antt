-- The lines of a slot: where they lie. Assumes nothing.
use mathlib.Core.Path.{◌≡◌, refl, ◌∙◌}
use mathlib.Core.Bool.{Bool, true, false, ◌&&◌}
use Prim.Native.Nat.{ℕ, suc, ◌+◌, ◌-◌, ◌*◌, ◌/◌, ◌%◌, ◌^◌, ◌≤◌, ◌<◌}
use native.Mathlib.Nat.{mod-lt, mod-eq_of_lt, div-eq_of_lt, mul-add-div, mul-add-mod_self_left, mul-le-mul_left, mul-suc}
use native.Mathlib.Decide.{dec_lt}
use native.Mathlib.Omega.{arith}
use lib.Dec.{eqb, ltb}
use lib.Pow.{pow_pos}
use Rattle.layout.specs.declared.Shape.{Shape}
use Rattle.layout.specs.declared.Line.{Line}
use Rattle.layout.specs.Bands.{sy, Wc, NL, Nβ, dx, dy, depth, N'y, exists, band, band_exists}
use Rattle.layout.specs.Built.{Built}
use Rattle.layout.specs.Precincts.{Npx, Wpb, L0, L1, first_x, first_y}
use Rattle.layout.specs.Packets.{included}
use Rattle.layout.specs.Cells.{area, inner}
use Rattle.layout.specs.Slots.{slot_type, slot_line, candidates, line as line_of, line_at}
use Rattle.layout.proofs.Sums.{area_most}
use Rattle.layout.proofs.Slots.{slot_fits}
use Rattle.layout.proofs.Cells.{starts_up, line_above}
use Rattle.layout.proofs.Present.{line_inside}
use Rattle.packets.specs.declared.Setting.{Setting}
use Rattle.packets.specs.declared.Precinct.{Precinct}
use Rattle.packets.specs.Passes.{line}
use Rattle.packets.specs.Ready.{Slotted}
use Rattle.packets.specs.Steps.{Lies}
use Rattle.packets.proofs.Addresses.{There}

first_true : (a b c : Bool) → a && b && c ≡ true → a ≡ true
first_true true b c e = refl
first_true false b c e = let z : ◌≡◌ {A = ℕ} 0 1 = cc in absurd (omega arith)

-- ---- the index of a band

module _ (s : Shape) (β i : ℕ) (h : i < s.nc) where
  pub band_below : β < Nβ s → band s β i < NL s
  band_below type = omega (arith, mul-suc s.nc β, mul-le-mul_left {m = suc β} {n = Nβ s} s.nc type)

  -- it tells the filter type and the component
  pub band_parts : (band s β i / s.nc ≡ β) × (band s β i % s.nc ≡ i)
  band_parts = (mul-add-div (omega arith) β i ∙ omega (arith, div-eq_of_lt h), mul-add-mod_self_left s.nc β i ∙ mod-eq_of_lt h)

-- ---- where a line lies

module _ (s : Shape) (built : Built s) (row column β i l : ℕ) (type : β < Nβ s) (h : i < s.nc) where
  own_exists : exists s β i ≡ true → band_exists s (band s β i) ≡ true
  own_exists e =
      let parts = band_parts s β i h in
      rw (parts.0, parts.1) e

  -- the line above lies before it
  own_above : 0 < row → 2 ^ depth s β i * Wc s i ≤ inner s β i (first_x s column β i) (first_y s row β i + l / sy s i)
  own_above up =
      let k = N'y s i - depth s β i in
      let many : row * 1 ≤ row * 2 ^ k = mul-le-mul_left {m = 1} {n = 2 ^ k} row (pow_pos k) in
      let y = first_y s row β i + l / sy s i in
      let e : y ≡ suc (y - 1) = omega (arith, many) in
      rw e (omega (arith, line_above s β i (first_x s column β i) (y - 1)))

  module _ (fits : l < 2 ^ (s.nly - dy s β)) (c : column < Npx s) (there : included s row β i l ≡ true) where
    apart : (x : ℕ) → x < Wpb s column β i → x * 2 ^ dx s β < area s i
    apart x k = omega (arith, (line_inside s built row column β i l type h fits c there x k).1)

    narrow : Wpb s column β i ≤ 2 ^ 28
    narrow = pick (dec_lt 0 (Wpb s column β i))
      where
        pick : Dec (0 < Wpb s column β i) → Wpb s column β i ≤ 2 ^ 28
        pick (yes some) =
            let x = Wpb s column β i - 1 in
            let wide : x * 1 ≤ x * 2 ^ dx s β = mul-le-mul_left {m = 1} {n = 2 ^ dx s β} x (pow_pos (dx s β)) in
            omega (arith, wide, apart x (omega arith), area_most s built i h)
        pick (no none) = omega arith

    pub line_lies : Lies s row (line_of s row column β i l)
    unfolding line_of included
    line_lies = record {
      inside = λ x k. omega (arith, (line_inside s built row column β i l type h fits c there x k).1, starts_up s i s.nc h);
      apart = apart;
      narrow = omega (arith, narrow);
      few = omega (arith, narrow);
      band = band_below s β i h type;
      exists = own_exists (first_true (exists s β i) (eqb ((l + L0 s β i) % sy s i) 0) (ltb (l + L0 s β i) (L1 s row β i)) there);
      above = λ up. omega (arith, own_above up);
    }

-- a line that the precinct has
pub lies : (c : Setting) (p : Precinct) (slot j : ℕ) → Slotted c p slot → j < candidates c.shape slot → (line c p slot j).present ≡ true
    → Lies c.shape p.row (line c p slot j)
unfolding line_at line_of
lies c p slot j h k e =
    let s = c.shape in
    let built = h.settled.shape in
    let fits = slot_fits s built slot j h.which k in
    line_lies s built p.row p.column (slot_type s slot + j / s.nc) (j % s.nc) (slot_line slot) fits.0 (mod-lt j built.some) fits.2 h.column e

-- its address
pub there_in : {c : Setting} {p : Precinct} {slot j : ℕ} → Slotted c p slot → j < candidates c.shape slot → (line c p slot j).present ≡ true
    → There c.shape p.row p.column slot j
there_in h k e = record { across = h.column; which = h.which; candidate = k; present = e }

pub stride_some : (c : Setting) (p : Precinct) (slot j : ℕ) → 0 < (line c p slot j).stride
unfolding line_at line_of
stride_some c p slot j = pow_pos (dx c.shape (slot_type c.shape slot + j / c.shape.nc))

-- the same, as the code has it
pub lies_read : {c : Setting} {p : Precinct} {slot j : ℕ} {l : Line} → Slotted c p slot → j < candidates c.shape slot → l ≡ line c p slot j
    → l.present ≡ true → Lies c.shape p.row l
lies_read {c} {p} {slot} {j} h k e f = rw e (lies c p slot j h k (rw e at f))

-- the same of one of n candidates, which are the slot's
pub lies_among : {c : Setting} {p : Precinct} {slot n j : ℕ} {l : Line} → Slotted c p slot → n ≡ candidates c.shape slot → j < n → l ≡ line c p slot j
    → l.present ≡ true → Lies c.shape p.row l
lies_among h m k e = lies_read h (omega (arith, m)) e
