-- `counts::unpack::too_many` meets its contract. Assumes nothing.
use Prim.Native.Nat.{◌+◌}
use native.Mathlib.Omega.{arith}
use lib.Pow.{pow_mono}
use Rattle.whole.proofs.Machine.{one_shl}
use Rattle.counts.proofs.unpack.too_many.Goals as goal

pub returns : goal.returns
returns c =
    let e = one_shl (c.args.br + 1) (omega arith) in
    record { limit = e; most = rw e (pow_mono {j = 6} (omega arith)) }
