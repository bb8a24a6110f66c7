-- What the code of the quantisers meets at an index that is not 0: in a word `a << k` is `(a * 2 ^ k) % 2 ^ 64`, which `omega` takes for `a * 2 ^ k`
-- once it has a bound on that. Assumes nothing.
use mathlib.Core.Path.{◌≡◌}
use Prim.Native.Nat.{ℕ, ◌+◌, ◌-◌, ◌*◌, ◌%◌, ◌^◌, ◌≤◌, ◌<◌}
use native.Mathlib.Nat.{lt_of_lt_of_le, lt_of_not-le, sub-eq-zero_of_le, mod-eq_of_lt}
use native.Mathlib.Omega.{arith}
use lib.Pow.{pow_mono, pow-lt, shl_lt}
use Rattle.whole.proofs.Machine.{one_shl}
use Rattle.quantiser.specs.Inverse.{Carried}

pub record Word (M T v : ℕ) : Type 0 where
  pub above : T < M
  pub few : M ≤ 31
  pub shifted : v * 2 ^ T < 2 ^ 31
  pub step : (1 * 2 ^ T) % 2 ^ 64 ≡ 2 ^ T
  pub base : 1 < 2 ^ (M - T + 1)
  -- what D.3's NOTE divides
  pub dividend : (v * 2 ^ (M + 1)) % 2 ^ 64 ≡ v * 2 ^ (M + 1)
  pub divisor : (1 * 2 ^ (M - T + 1)) % 2 ^ 64 ≡ 2 ^ (M - T + 1)

pub word : (M T v : ℕ) → Carried M T v → (v ≡ 0 → ⊥) → Word M T v
word M T v k n =
    let h : T < M = lt_of_not-le no_planes in
    record {
      above = h;
      few = k.count;
      shifted = lt_of_lt_of_le (shl_lt (M - T) T k.below) (pow_mono {j = 31} (omega arith));
      step = one_shl T (omega arith);
      base = pow-lt {i = 0} (omega arith);
      dividend = mod-eq_of_lt (lt_of_lt_of_le (shl_lt (M - T) (M + 1) k.below) (pow_mono {j = 64} (omega (arith, k.count))));
      divisor = one_shl (M - T + 1) (omega (arith, k.count));
    }
  where
    no_planes : M ≤ T → ⊥
    no_planes g = n (omega (arith, rw (sub-eq-zero_of_le g) at k.below))
