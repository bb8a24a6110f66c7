-- `bits::u8_at` meets its contract. Assumes nothing.
use native.Mathlib.Omega.{arith}
use Rattle.bits.proofs.Laws.{is_byte, is_past}
use Rattle.bits.proofs.u8_at.Goals as goal

pub returns-then-at-s : goal.returns-then-at-s
returns-then-at-s c = is_byte c.args.at (omega (arith, c.type_inv.s c.args.at))

pub returns-else-at-s : goal.returns-else-at-s
returns-else-at-s c = is_past c.args.at 8 c.if-at-s.false
