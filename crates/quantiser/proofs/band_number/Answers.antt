-- `quantiser::band_number` meets its contract. Assumes nothing.
use mathlib.Core.Path.{◌≡◌, ap, ◌∙◌}
use Prim.Native.Nat.{ℕ, ◌-◌, ◌*◌, ◌%◌, ◌^◌}
use native.Mathlib.Omega.{arith}
use lib.Pow.{pow_pos, shl_exact, ones_lt}
use Rattle.whole.proofs.Machine.{one_shl}
use Rattle.quantiser.specs.Distance.{band_number}
use Rattle.quantiser.proofs.band_number.Goals.{Start}
use Rattle.quantiser.proofs.band_number.Goals as goal

one : (c : Start) → (1 * 2 ^ c.args.t) % 2 ^ 64 ≡ 2 ^ c.args.t
one c = one_shl c.args.t (omega arith)

pub overflow_shl-result : goal.overflow_shl-result
overflow_shl-result c = omega arith

pub overflow_sub-result : goal.overflow_sub-result
overflow_sub-result c = omega (arith, one (goal.at.overflow_sub-result c).Start, pow_pos c.args.t)

pub overflow_shl-result-2 : goal.overflow_shl-result-2
overflow_shl-result-2 c = omega arith

pub returns : goal.returns
unfolding band_number
returns c =
    let a = c.args in
    ap (λ (x : ℕ). ((x - 1) * 2 ^ a.fq) % 2 ^ 64) (one (goal.at.returns c).Start) ∙ shl_exact a.t a.fq 64 (ones_lt a.t) (omega arith)
