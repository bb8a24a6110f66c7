-- `counts::is_insignificant` meets its contract. Assumes nothing.
use Prim.Native.Nat.{ℕ}
use mathlib.Core.Path.{◌∙◌, ap}
use lib.Dec.{eqb}
use Rattle.bits.proofs.Laws.{field_one}
use Rattle.counts.proofs.is_insignificant.Goals as goal

pub returns-then-c : goal.returns-then-c
returns-then-c c = rw c.if-c.true (ap (λ (b : ℕ). eqb b 1) (c.bit.ensures.value ∙ field_one _ _))
