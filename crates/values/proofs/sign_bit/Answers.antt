-- `values::sign_bit` meets its contract. Assumes nothing.
use lib.Dec.{eqb}
use Rattle.values.proofs.Planes.{bit_is}
use Rattle.values.proofs.sign_bit.Goals as goal

pub returns : goal.returns
returns c =
    let b = bit_is (eqb c.args.v 0) c.from.ensures in
    record { value = b.0; most = b.1 }
