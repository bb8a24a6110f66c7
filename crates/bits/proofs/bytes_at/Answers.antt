-- `bits::bytes_at` meets its contract. Invariant: v is the field of the k bytes passed. Assumes nothing.
use mathlib.Core.Path.{◌≡◌}
use native.Mathlib.Omega.{arith}
use Rattle.bits.proofs.Laws.{is_within, is_none, is_past, is_joined}
use Rattle.bits.proofs.bytes_at.Goals as goal

pub returns-then-s-at : goal.returns-then-s-at
returns-then-s-at c = is_past _ _ c.if-s-at.true

pub loop-k-init : goal.loop-k-init
loop-k-init c = is_none _

pub overflow_mul-v : goal.overflow_mul-v
overflow_mul-v c = omega (arith, is_within {m = 56} c.loop-k.invariant (omega arith))

pub overflow_add-v : goal.overflow_add-v
overflow_add-v c = omega (arith, is_within {m = 56} c.loop-k.invariant (omega arith))

pub loop-k-preserved : goal.loop-k-preserved
loop-k-preserved c = is_joined c.loop-k.invariant c.u8_at.ensures (omega arith) (omega arith)

pub returns : goal.returns
returns c =
    let e : c.args.n ≡ c.loop-k.k = omega arith in
    rw e c.loop-k.invariant
