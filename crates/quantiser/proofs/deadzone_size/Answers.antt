-- `quantiser::deadzone_size` meets its contract. Assumes nothing.
use mathlib.Core.Path.{sym, ap, ◌∙◌}
use native.Mathlib.Omega.{arith}
use Rattle.quantiser.specs.Inverse.{deadzone}
use Rattle.quantiser.proofs.Near.{deadzone_zero, deadzone_on}
use Rattle.quantiser.proofs.Words.{Word, word}
use Rattle.quantiser.proofs.deadzone_size.Goals.{Else-v-eq0}
use Rattle.quantiser.proofs.deadzone_size.Goals as goal

k : (c : Else-v-eq0) → let a = c.args in Word a.m a.t a.v
k c = word _ _ _ c.requires c.if-v-eq0.false

pub returns-then-v-eq0 : goal.returns-then-v-eq0
returns-then-v-eq0 c = let a = c.args in sym (ap (deadzone a.m a.t) c.if-v-eq0.true ∙ deadzone_zero a.m a.t)

pub overflow_shl-result : goal.overflow_shl-result
overflow_shl-result c = omega (arith, k (goal.at.overflow_shl-result c).Else-v-eq0)

pub overflow_shl-result-2 : goal.overflow_shl-result-2
overflow_shl-result-2 c = omega (arith, k (goal.at.overflow_shl-result-2 c).Else-v-eq0)

pub overflow_add-result : goal.overflow_add-result
overflow_add-result c = omega (arith, k (goal.at.overflow_add-result c).Else-v-eq0)

pub returns : goal.returns
returns c =
    let a = c.args in
    omega (arith, k (goal.at.returns c).Else-v-eq0, deadzone_on a.m a.t a.v (k (goal.at.returns c).Else-v-eq0).above (omega (arith, c.if-v-eq0.false)))
