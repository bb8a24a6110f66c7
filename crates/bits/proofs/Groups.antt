-- The nibbles of a code group. Assumes nothing.
use Prim.Native.Nat.{ℕ, ◌+◌, ◌-◌, ◌≤◌}
use mathlib.Core.Path.{◌≡◌}
use mathlib.Core.Bool.{Bool, true, false, cond}
use native.Mathlib.Omega.{arith}
use borrow.Author.Tests.{le-ltb}
use lib.Dec.{ltb}
use Rattle.bits.specs.Groups.{sign_nibbles, nibbles_of}

pub one_or_none : (b : Bool) → cond b 0 1 ≤ 1
one_or_none true = omega arith
one_or_none false = omega arith

-- at most a sign nibble and 31 planes
pub nibbles_le : (M T : ℕ) (fs : Bool) → M ≤ 31 → nibbles_of M T fs ≤ 32
unfolding nibbles_of
nibbles_le M T fs h = pick (ltb T M)
  where
    pick : (b : Bool) → cond b (sign_nibbles fs + (M - T)) 0 ≤ 32
    pick true = omega (arith, one_or_none fs)
    pick false = omega arith

pub nibbles_none : (M T : ℕ) (fs : Bool) → M ≤ T → nibbles_of M T fs ≡ 0
unfolding nibbles_of
nibbles_none M T fs h = rw (le-ltb T M h)
