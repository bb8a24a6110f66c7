-- `values::group_of` meets its contract. Assumes nothing.
use Prim.Native.Nat.{◌+◌, ◌-◌, ◌*◌, ◌^◌, ◌<◌, min}
use mathlib.Core.Path.{◌≡◌}
use native.Mathlib.Omega.{arith}
use lib.IntN.{pos}
use lib.ListN.{get_or}
use lib.Signed.{mag}
use Rattle.whole.proofs.Machine.{back64}
use Rattle.values.specs.Line.{M}
use Rattle.values.specs.Steps.{group_of}
use Rattle.values.proofs.group_of.Goals as goal

pub returns : goal.returns
unfolding group_of M
returns c =
    let l = c.args.line in
    let few : c.min.result ≡ min 4 (l.width - 4 * c.args.g) = omega arith in
    let fits : mag (get_or c.args.cells.now (l.first + 4 * c.args.g * l.stride + l.area) (pos 0)) < 2 ^ 63 = omega arith in
    rw (few, c.held.ensures, back64 _ fits)
