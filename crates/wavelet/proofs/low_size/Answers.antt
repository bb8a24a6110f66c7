-- `low_size` is ceil(n / 2 ^ d). Assumes nothing.
use mathlib.Core.Path.{◌∙◌}
use native.Mathlib.Omega.{arith}
use lib.Pow.{pow_pos}
use Rattle.whole.proofs.Ceiling.{div_ceil_is}
use Rattle.whole.proofs.Machine.{one_shl}
use Rattle.wavelet.proofs.low_size.Goals as goal

pub returns : goal.returns
returns c =
    (rw (one_shl c.args.d (omega arith)) at c.div_ceil.ensures) ∙ div_ceil_is c.args.n _ (pow_pos c.args.d)
