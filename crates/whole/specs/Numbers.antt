-- Whole numbers. ℤ's `shr_z z m` is floor(z / m), toward minus infinity, for m above 0.
use Rattle.std.specs.Prelude.{Bool, true, false, ℕ, ◌+◌, ◌-◌, ◌/◌, ◌≤◌, ℤ, pos, negsuc, neg_ℤ, nat_abs, ◌-ℤ◌}

-- ceil(e / m), for m above 0
abbrev pub ceil_div : ℕ → ℕ → ℕ
ceil_div e m = (e + (m - 1)) / m

-- |a − b| of two naturals
abbrev pub gap : ℕ → ℕ → ℕ
gap a b = a - b + (b - a)

-- x and y differ by at most e
pub record Within (e : ℕ) (x y : ℤ) : Type 0 where
  pub within : nat_abs (x -ℤ y) ≤ e

-- the same of two naturals, such as samples
pub record Near (e a b : ℕ) : Type 0 where
  pub over : a ≤ b + e
  pub under : b ≤ a + e

-- the size n with the sign bit s: 0 whatever the bit where n is 0
abbrev pub signed : Bool → ℕ → ℤ
signed true n = neg_ℤ (pos n)
signed false n = pos n

-- the size n with the sign of z
abbrev pub with_sign : ℤ → ℕ → ℤ
with_sign (pos z) n = pos n
with_sign (negsuc z) n = neg_ℤ (pos n)

-- f at the size of z, with the sign of z: a rule on sizes, such as a quantiser, at a signed number
abbrev pub by_size : (ℕ → ℕ) → ℤ → ℤ
by_size f z = with_sign z (f (nat_abs z))
