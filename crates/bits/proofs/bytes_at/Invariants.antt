-- `bits::bytes_at` meets its contract. Invariant: v is the field of the k bytes passed. Assumes nothing.
use Prim.Native.Nat.{◌*◌}
use Rattle.bits.specs.Fields.{IsField}
use Rattle.bits.proofs.bytes_at.Given as goal

abbrev pub invariant-loop-k : goal.invariant-loop-k
invariant-loop-k l = IsField l.s (8 * l.at) (8 * l.k) l.v
