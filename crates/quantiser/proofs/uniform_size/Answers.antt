-- `quantiser::uniform_size` meets its contract: the fraction of D.3's NOTE is Table D.2's sum (`uniform_division`), and no word of it wraps. Assumes nothing.
use mathlib.Core.Path.{sym, ap, ap₂, ◌∙◌}
use Prim.Native.Nat.{ℕ, ◌-◌, ◌*◌, ◌/◌, ◌%◌, ◌^◌}
use native.Mathlib.Omega.{arith}
use Rattle.quantiser.specs.Inverse.{uniform}
use Rattle.quantiser.proofs.Near.{uniform_zero, uniform_division}
use Rattle.quantiser.proofs.Words.{Word, word}
use Rattle.quantiser.proofs.uniform_size.Goals.{Else-v-eq0}
use Rattle.quantiser.proofs.uniform_size.Goals as goal

k : (c : Else-v-eq0) → let a = c.args in Word a.m a.t a.v
k c = word _ _ _ c.requires c.if-v-eq0.false

pub returns-then-v-eq0 : goal.returns-then-v-eq0
returns-then-v-eq0 c = let a = c.args in sym (ap (uniform a.m a.t) c.if-v-eq0.true ∙ uniform_zero a.m a.t)

pub overflow_add-result : goal.overflow_add-result
overflow_add-result c = omega (arith, k (goal.at.overflow_add-result c).Else-v-eq0)

pub overflow_shl-result : goal.overflow_shl-result
overflow_shl-result c = omega (arith, k (goal.at.overflow_shl-result c).Else-v-eq0)

pub overflow_sub-result : goal.overflow_sub-result
overflow_sub-result c = omega (arith, k (goal.at.overflow_sub-result c).Else-v-eq0)

pub overflow_add-result-2 : goal.overflow_add-result-2
overflow_add-result-2 c = omega (arith, k (goal.at.overflow_add-result-2 c).Else-v-eq0)

pub overflow_shl-result-2 : goal.overflow_shl-result-2
overflow_shl-result-2 c = omega (arith, k (goal.at.overflow_shl-result-2 c).Else-v-eq0)

pub overflow_sub-result-2 : goal.overflow_sub-result-2
overflow_sub-result-2 c = omega (arith, k (goal.at.overflow_sub-result-2 c).Else-v-eq0)

pub nonzero_div-result : goal.nonzero_div-result
nonzero_div-result c = omega (arith, k (goal.at.nonzero_div-result c).Else-v-eq0)

-- what is divided, and by what, in a word and as a number
pub returns : goal.returns
returns c =
    let a = c.args in
    let w = k (goal.at.returns c).Else-v-eq0 in
    ap₂
    ◌/◌
    (ap (λ (e : ℕ). a.v * 2 ^ e % 2 ^ 64) (omega arith) ∙ w.dividend)
    (ap₂ (λ (e d : ℕ). 1 * 2 ^ e % 2 ^ 64 - d) (omega arith) (omega arith) ∙ ap (λ (n : ℕ). n - 1) w.divisor)
    ∙ sym (uniform_division a.m a.t a.v w.above c.requires.below).size
