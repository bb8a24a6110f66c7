-- `counts::code::ones_ahead` meets its contract: a window at the word's top. Assumes nothing.
use native.Mathlib.Omega.{arith}
use Rattle.counts.proofs.Codes.{zeros_fit, ones_shifted}
use Rattle.counts.proofs.code.ones_ahead.Goals as goal

pub overflow_cast-result : goal.overflow_cast-result
overflow_cast-result c = zeros_fit _

pub returns : goal.returns
returns c = ones_shifted _ _ c.eight_at.ensures (omega arith)
