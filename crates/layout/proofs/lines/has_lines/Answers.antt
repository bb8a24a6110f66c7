-- `layout::lines::has_lines` meets its contract. Assumes nothing.
use mathlib.Core.Path.{◌≡◌, refl, ◌∙◌}
use mathlib.Core.Bool.{Bool, true, false, ◌&&◌}
use Prim.Native.Nat.{ℕ, ◌+◌, ◌-◌, ◌/◌, ◌%◌, ◌<◌, min}
use native.Mathlib.Nat.{zero-mod, zero-div, add-zero}
use native.Mathlib.Omega.{arith}
use lib.Dec.{eqb, ltb, lit<}
use lib.Pow.{pow_pos}
use Rattle.layout.specs.Bands.{sy, N'y, Hb, exists, depth}
use Rattle.layout.specs.Precincts.{first_y, most_lines, lines}
use Rattle.layout.specs.Sizes.{reach_of}
use Rattle.layout.proofs.Columns.{Npy_most}
use Rattle.layout.proofs.Sums.{band_component}
use Rattle.layout.proofs.Reaches.{ltb_same, Hb_letter}
use Rattle.layout.proofs.lines.has_lines.Goals as goal

-- a band's first line in the row is above the band's height where there is a line at all
some_line : (e : Bool) (y h k m : ℕ) → 0 < k → (e && eqb (0 % m) 0 && ltb (y + 0 / m) h) ≡ (e && ltb 0 (min (h - y) k))
some_line true y h k m p = rw (zero-mod, zero-div, add-zero) (ltb_same y h 0 (min (h - y) k) (λ l. omega arith) (λ l. omega arith))
some_line false y h k m p = refl

pub reach_of-requires : goal.reach_of-requires
reach_of-requires c =
    (c.band_of-band.ensures.small, omega (arith, c.requires.1, Npy_most c.args.s c.requires.0), lit< tt)

pub returns : goal.returns
unfolding lines
returns c =
    let a = c.args in
    let s = a.s in
    let β = a.b / s.nc in
    let i = a.b % s.nc in
    let height = Hb_letter s β i c.requires.0 (band_component s c.requires.0 a.b) in
    (λ j. (c.reach_of.ensures.is j).present)
    ∙ (λ j. (reach_of (c.band_of-band.ensures.is j) a.row 0).present)
    ∙ (λ j. exists s β i && eqb (0 % sy s i) 0 && ltb (first_y s a.row β i + 0 / sy s i) (height j))
    ∙ some_line (exists s β i) (first_y s a.row β i) (Hb s β i) (most_lines s β i) (sy s i) (pow_pos (N'y s i - depth s β i))
