-- `values::sign_bits` meets its contract. Assumes nothing.
use native.Mathlib.Omega.{arith}
use Rattle.values.specs.Group.{sign_bits}
use Rattle.values.proofs.sign_bits.Goals as goal

pub returns : goal.returns
unfolding sign_bits
returns c = record { value = omega arith; most = omega arith }
