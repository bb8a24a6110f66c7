-- `counts::unpack::walk_code` meets its contract: each way through is a law. Assumes nothing.
use mathlib.Core.Path.{◌∙◌, sym, ap}
use Prim.Native.Nat.{◌+◌}
use lib.IntN.{ℤ}
use native.Mathlib.Omega.{arith}
use Rattle.counts.specs.Groups.{counted}
use Rattle.counts.proofs.Groups.{coded_past, coded_long, coded_cut, coded_count}
use Rattle.counts.proofs.unpack.walk_code.Goals as goal

pub returns-then-all-i : goal.returns-then-all-i
returns-then-all-i c = sym (coded_past _ _ _ _ _ c.if-all-i.true)

pub returns-then-limit-n : goal.returns-then-limit-n
returns-then-limit-n c = sym (coded_long _ _ _ _ _ c.too_many-limit.ensures.limit c.ones_from-n.ensures (omega arith))

pub returns-then-all-i-2 : goal.returns-then-all-i-2
returns-then-all-i-2 c =
    sym (coded_cut _ _ _ _ _ c.too_many-limit.ensures.limit c.ones_from-n.ensures (omega arith) (omega arith))

pub returns : goal.returns
returns c =
    let a = c.args in
    c.in_range.ensures ∙ ap (λ (z : ℤ). counted z (a.i + c.ones_from-n.result + 1)) c.moved.ensures
    ∙ sym (coded_count _ _ _ _ _ c.too_many-limit.ensures.limit c.ones_from-n.ensures (omega arith) (omega arith))
