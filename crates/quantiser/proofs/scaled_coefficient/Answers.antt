-- `quantiser::scaled_coefficient` meets its contract. Assumes nothing.
use mathlib.Core.Path.{◌≡◌, ap, ap₂, ◌∙◌}
use Prim.Native.Nat.{◌*◌, ◌%◌, ◌<◌, ◌^◌}
use native.Mathlib.Omega.{arith}
use lib.IntN.{ℤ, ◌*ℤ◌}
use lib.Pow.{pow-lt}
use mir.Syntax.{w64}
use mir.Val.{SFits, to_z, of_z}
use mir.Facts.{to_z_pos}
use Rattle.whole.proofs.Machine.{back64, small_fits, one_shl}
use Rattle.quantiser.specs.Inverse.{coefficient_of, scaled}
use Rattle.quantiser.proofs.Laws.{carried_scaled}
use Rattle.quantiser.proofs.scaled_coefficient.Goals.{After-coefficient}
use Rattle.quantiser.proofs.scaled_coefficient.Goals as goal

module _ (c : After-coefficient) where
  p_is : (1 * 2 ^ c.args.fq) % 2 ^ 64 ≡ 2 ^ c.args.fq
  p_is = one_shl c.args.fq (omega (arith, c.requires.1))

  p_less : 2 ^ c.args.fq < 2 ^ 16
  p_less = pow-lt {j = 16} (omega (arith, c.requires.1))

  abbrev wanted : ℤ
  wanted = scaled c.args.fq (coefficient_of c.args.uniform c.args.m c.args.t c.args.index)

  -- the product as the machine has it
  made : to_z w64 (of_z w64 c.coefficient.result) *ℤ to_z w64 ((1 * 2 ^ c.args.fq) % 2 ^ 64) ≡ wanted
  unfolding scaled
  made =
      ap₂ ◌*ℤ◌
      (back64 _ c.coefficient.type_inv ∙ c.coefficient.ensures ∙ ap (coefficient_of c.args.uniform c.args.m c.args.t) (back64 _ c.ranges.index.sfits))
      (ap (to_z w64) p_is ∙ to_z_pos w64 (omega (arith, p_less)))

  fits : SFits w64 wanted
  fits = small_fits wanted (omega (arith, carried_scaled c.args.uniform c.args.index c.requires.0 {F = 15} c.requires.1))

pub coefficient-requires : goal.coefficient-requires
coefficient-requires c = rw (back64 _ c.ranges.index.sfits) c.requires.0

pub overflow_cast-result : goal.overflow_cast-result
overflow_cast-result c = record { sfits = omega (arith, p_is (goal.at.overflow_cast-result c).After-coefficient, p_less (goal.at.overflow_cast-result c).After-coefficient) }

pub overflow_mul-result : goal.overflow_mul-result
overflow_mul-result c = rw (made (goal.at.overflow_mul-result c).After-coefficient) (fits (goal.at.overflow_mul-result c).After-coefficient)

pub returns : goal.returns
returns c = ap (λ (z : ℤ). to_z w64 (of_z w64 z)) (made (goal.at.returns c).After-coefficient) ∙ back64 _ (fits (goal.at.returns c).After-coefficient).sfits
