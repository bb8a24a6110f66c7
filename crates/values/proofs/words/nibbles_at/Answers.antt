-- `values::words::nibbles_at` meets its contract: the first bits of the word. Assumes nothing.
use native.Mathlib.Omega.{arith}
use Rattle.bits.proofs.Laws.{is_first}
use Rattle.values.proofs.words.nibbles_at.Goals as goal

pub returns : goal.returns
returns c = is_first _ c.eight_at.ensures (omega arith)
