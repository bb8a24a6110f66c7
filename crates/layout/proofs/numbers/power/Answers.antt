-- `layout::numbers::power` meets its contract. Assumes nothing.
use native.Mathlib.Omega.{arith}
use lib.Pow.{pow_pos, pow_mono}
use Rattle.whole.proofs.Machine.{one_shl}
use Rattle.layout.proofs.numbers.power.Goals as goal

pub returns : goal.returns
returns c =
    let k = c.args.k in
    let e = one_shl k (omega arith) in
    record { is = e; some = omega (arith, e, pow_pos k); few = omega (arith, e, pow_mono {i = k} {j = 5} c.requires) }
