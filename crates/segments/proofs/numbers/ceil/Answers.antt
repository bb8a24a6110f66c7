-- `segments::numbers::ceil` meets its contract. Assumes nothing.
use mathlib.Core.Path.{sym, ◌∙◌}
use native.Mathlib.Nat.{div-zero}
use native.Mathlib.Omega.{arith}
use Rattle.whole.proofs.Ceiling.{div_ceil_is}
use Rattle.segments.proofs.numbers.ceil.Goals as goal

pub returns-then-b-eq0 : goal.returns-then-b-eq0
returns-then-b-eq0 c =
    rw c.if-b-eq0.true (sym (div-zero _))

pub returns-else-b-eq0 : goal.returns-else-b-eq0
returns-else-b-eq0 c =
    c.div_ceil.ensures ∙ div_ceil_is c.args.a c.args.b (omega (arith, c.if-b-eq0.false))
