-- F.3, the inverse reversible multiple component transformation (inverse RCT) of a pixel, document 01's distance rule for it, and what depends on what in it.
use Rattle.std.specs.Prelude.{Bool, ◌||◌, ℕ, ◌+◌, ◌^◌, ◌≤◌, ℤ, nat_abs, ◌+ℤ◌, ◌-ℤ◌}
use Rattle.std.specs.Int.Signed.{shr_z}
use Rattle.whole.specs.Numbers.{ceil_div, Within}
use Rattle.colour.specs.declared.Pixel.{Pixel}

-- Table F.2: the pixel o₀, o₁, o₂ (red, green, blue) from the pixel i₀, i₁, i₂
unfoldable pub inverse_rct : Pixel ℤ → Pixel ℤ
inverse_rct i =
    let o₁ : ℤ = i.c0 -ℤ shr_z (i.c1 +ℤ i.c2) (2 ^ 2) in
    record { c0 = o₁ +ℤ i.c2; c1 = o₁; c2 = o₁ +ℤ i.c1 }

-- document 01, distance rule 3: the numbers of red, green and blue from those of the three components. Red gets the number of i₂ and blue that of
-- i₁, which Table F.2 adds to them
unfoldable pub numbers_rct : Pixel ℕ → Pixel ℕ
numbers_rct e =
    let g : ℕ = e.c0 + ceil_div (e.c1 + e.c2) 4 in
    record { c0 = g + e.c2; c1 = g; c2 = g + e.c1 }

-- marks beside the components of a pixel: which of red, green and blue depend on a marked one, by the form of Table F.2: each on all that it is made of, even where the sum comes out the same
unfoldable pub marks_rct : Pixel Bool → Pixel Bool
marks_rct m =
    let g : Bool = m.c0 || (m.c1 || m.c2) in
    record { c0 = g || m.c2; c1 = g; c2 = g || m.c1 }

-- two pixels whose components differ by at most e's numbers
pub record PixelsWithin (e : Pixel ℕ) (p q : Pixel ℤ) : Type 0 where
  pub c0 : Within e.c0 p.c0 q.c0
  pub c1 : Within e.c1 p.c1 q.c1
  pub c2 : Within e.c2 p.c2 q.c2

-- a pixel whose components are at most B in size
pub record Small (B : ℕ) (p : Pixel ℤ) : Type 0 where
  pub c0 : nat_abs p.c0 ≤ B
  pub c1 : nat_abs p.c1 ≤ B
  pub c2 : nat_abs p.c2 ≤ B
