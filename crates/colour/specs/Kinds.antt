-- What F.3's code does with each kind of value. Numbers go through the cells as whole numbers that are not below 0.
use Rattle.std.specs.Prelude.{◌≡◌, ℕ, ℤ, pos, nat_abs}
use Rattle.whole.specs.declared.Kind.{Kind}
use Rattle.whole.specs.declared.Kind.TheVariants.{Samples, Numbers}
use Rattle.colour.specs.Rct.{inverse_rct, numbers_rct}
use Rattle.colour.specs.declared.Pixel.{Pixel}

-- numbers as a pixel holds them, and the numbers that a pixel holds
abbrev pub held : Pixel ℕ → Pixel ℤ
held e = record { c0 = pos e.c0; c1 = pos e.c1; c2 = pos e.c2 }

abbrev pub sizes : Pixel ℤ → Pixel ℕ
sizes p = record { c0 = nat_abs p.c0; c1 = nat_abs p.c1; c2 = nat_abs p.c2 }

-- it holds no other
abbrev pub Holds : Pixel ℤ → Type 0
Holds p = p ≡ held (sizes p)

-- document 01, distance rule 3, at such a pixel
unfoldable pub raised_rct : Pixel ℤ → Pixel ℤ
raised_rct p = held (numbers_rct (sizes p))

abbrev pub rct_of : Kind → Pixel ℤ → Pixel ℤ
rct_of Samples = inverse_rct
rct_of Numbers = raised_rct
