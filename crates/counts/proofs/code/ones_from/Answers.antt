-- `counts::code::ones_from` meets its contract. Invariant: the n bits passed are 1-bits. Assumes nothing.
use Prim.Native.Nat.{◌+◌, ◌-◌, ◌%◌, ◌≤◌}
use mathlib.Core.Path.{sym, ◌∙◌}
use native.Mathlib.Omega.{arith}
use borrow.Author.Rules.{rules}
use Rattle.counts.proofs.Codes.{ones_none, ones_le, ones_cap, ones_full, ones_ended}
use Rattle.counts.proofs.code.ones_from.Goals.{After-ones_in_byte-k}
use Rattle.counts.proofs.code.ones_from.Goals as goal

-- a byte holds no more
few : (c : After-ones_in_byte-k) → c.ones_in_byte-k.result ≤ 8
few c =
    let a = c.args in
    let i = a.at + c.loop-n.n in
    omega (arith, c.ones_in_byte-k.ensures, ones_le a.s.now i (8 - i % 8))

pub loop-n-init : goal.loop-n-init
loop-n-init c = (search rules, ones_none _ _)

pub overflow_add-n : goal.overflow_add-n
overflow_add-n c = omega (arith, few (goal.at.overflow_add-n c).After-ones_in_byte-k)

pub returns-then-k-w : goal.returns-then-k-w
returns-then-k-w c = c.min.ensures ∙ sym (ones_ended _ _ _ _ _ c.loop-n.invariant.1 c.ones_in_byte-k.ensures _ c.if-k-w.true)

pub loop-n-preserved : goal.loop-n-preserved
loop-n-preserved c =
    let l = c.loop-n in
    (omega (arith, few (goal.at.loop-n-preserved c).After-ones_in_byte-k), ones_full _ _ _ _ _ l.invariant.1 c.ones_in_byte-k.ensures c.if-k-w.false)

pub returns : goal.returns
returns c =
    let l = c.loop-n in
    let a = c.args in
    omega (arith, l.invariant.1, ones_cap a.s.now a.at l.n a.limit (λ _. c.loop-n-test.false))
