-- `colour::numbers_rct` meets its contract. Assumes nothing.
use mathlib.Core.Path.{◌≡◌}
use Prim.Native.Nat.{◌+◌}
use native.Mathlib.Omega.{arith}
use Rattle.whole.specs.Numbers.{ceil_div}
use Rattle.colour.specs.Rct.{numbers_rct}
use Rattle.colour.proofs.numbers_rct.Goals as goal

pub returns : goal.returns
unfolding numbers_rct
returns c =
    let quarter : c.div_ceil.result ≡ ceil_div (c.args.e.c1 + c.args.e.c2) 4 = omega (arith, c.div_ceil.ensures) in
    rw quarter
