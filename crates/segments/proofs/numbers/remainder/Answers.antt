-- `segments::numbers::remainder`: and for b = 0 a law. Assumes nothing.
use mathlib.Core.Path.{sym}
use native.Mathlib.Nat.{mod-zero}
use Rattle.segments.proofs.numbers.remainder.Goals as goal

pub returns-then-b-eq0 : goal.returns-then-b-eq0
returns-then-b-eq0 c =
    rw c.if-b-eq0.true (sym (mod-zero _))
