-- `and` meets its contract: each sum is at most that of the nine. Assumes nothing.
use native.Mathlib.Omega.{arith}
use Rattle.pieces.proofs.Bytes.and.Goals as goal

pub overflow_add-result-7 : goal.overflow_add-result-7
overflow_add-result-7 c = record { fits = omega (arith, c.requires) }

pub overflow_add-result-8 : goal.overflow_add-result-8
overflow_add-result-8 c = record { fits = omega (arith, c.requires) }

pub overflow_add-result-9 : goal.overflow_add-result-9
overflow_add-result-9 c = record { fits = omega (arith, c.requires) }
