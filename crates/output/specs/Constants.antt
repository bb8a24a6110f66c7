-- Table G.2 with all that is the same for a component's values worked out beforehand, for the functions that run it.
use Rattle.std.specs.Prelude.{ℕ, ◌+◌, ◌-◌, ◌/◌, ◌^◌, ◌≤◌, ◌<◌, min, ℤ, pos, nat_abs, ◌+ℤ◌}
use Rattle.std.specs.Int.Signed.{shr_z}
use Rattle.whole.specs.Numbers.{ceil_div}
use Rattle.whole.specs.declared.Kind.{Kind}
use Rattle.whole.specs.declared.Kind.TheVariants.{Samples, Numbers}
use Rattle.output.specs.Linear.{clamp}
use Rattle.output.specs.declared.Scale.{Scale}

-- the two terms that are added, as one; ζ; m
abbrev pub scale_of : ℕ → ℕ → Scale
scale_of Bw B = record { lift = 2 ^ Bw / 2 + 2 ^ (Bw - B) / 2; shift = Bw - B; top = 2 ^ B - 1 }

-- the sample of v by these constants
abbrev pub by_scale : Scale → ℤ → ℕ
by_scale s v = clamp s.top (shr_z (v +ℤ pos s.lift) (2 ^ s.shift))

-- the distance of the number e by them
abbrev pub number_by_scale : Scale → ℕ → ℕ
number_by_scale s e = min (ceil_div e (2 ^ s.shift)) s.top

-- what a value of a kind is given as by them
abbrev pub output_by_scale : Kind → Scale → ℤ → ℕ
output_by_scale Samples s v = by_scale s v
output_by_scale Numbers s v = number_by_scale s (nat_abs v)

-- constants with which no step wraps
pub record Usable (s : Scale) : Type 0 where
  pub lift : s.lift ≤ 2 ^ 60
  pub shift : s.shift < 64
  pub top : s.top < 2 ^ 16
