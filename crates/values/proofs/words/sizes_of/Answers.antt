-- `values::words::sizes_of` meets its contract: the mask is 2 ^ 4n. Assumes nothing.
use mathlib.Core.Path.{◌∙◌, ap}
use Prim.Native.Nat.{ℕ, ◌*◌, ◌%◌}
use native.Mathlib.Omega.{arith}
use lib.Pow.{pow_pos, pow_mono}
use Rattle.whole.proofs.Machine.{one_shl}
use Rattle.values.specs.Lanes.{spread}
use Rattle.values.proofs.words.sizes_of.Goals as goal

pub nonzero_rem-w : goal.nonzero_rem-w
nonzero_rem-w c = let i = 4 * c.args.n in omega (arith, pow_pos i, pow_mono {i = i} {j = 56} (omega arith))

pub returns : goal.returns
returns c = let a = c.args in c.sixteen_planes.ensures ∙ ap (λ (p : ℕ). spread 16 (a.w % p)) (one_shl (4 * a.n) (omega arith))
