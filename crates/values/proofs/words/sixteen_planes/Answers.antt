-- `values::words::sixteen_planes` meets its contract: the planes above the last eight are the word above its last 32 bits. Assumes nothing.
use mathlib.Core.Path.{◌≡◌, ap}
use Prim.Native.Nat.{◌+◌, ◌*◌, ◌/◌, ◌^◌, ◌<◌}
use native.Mathlib.Omega.{arith}
use Rattle.values.specs.Lanes.{spread}
use Rattle.values.proofs.Lanes.{spread_most, spread_none, spread_eight}
use Rattle.values.proofs.words.sixteen_planes.Goals.{After-eight_planes}
use Rattle.values.proofs.words.sixteen_planes.Goals as goal

-- the sum
whole : (c : After-eight_planes) → c.eight_planes-low.result + 256 * c.eight_planes.result ≡ spread 16 c.args.w
whole c =
    let w = c.args.w in
    omega (arith, c.eight_planes-low.ensures, c.eight_planes.ensures, spread_eight 8 w)

most : (c : After-eight_planes) → c.eight_planes-low.result + 256 * c.eight_planes.result < 2 ^ 64
most c = omega (arith, whole c, spread_most 16 c.args.w)

pub returns-then-high-eq0 : goal.returns-then-high-eq0
returns-then-high-eq0 c =
    let w = c.args.w in
    let none : spread 8 (w / 2 ^ 32) ≡ spread 8 0 = ap (spread 8) c.if-high-eq0.true in
    omega (arith, c.eight_planes-low.ensures, spread_eight 8 w, none, spread_none 8)

pub overflow_mul-result : goal.overflow_mul-result
overflow_mul-result c = omega (arith, most (goal.at.overflow_mul-result c).After-eight_planes)

pub overflow_add-result : goal.overflow_add-result
overflow_add-result c = omega (arith, most (goal.at.overflow_add-result c).After-eight_planes)

pub returns : goal.returns
returns c = whole (goal.at.returns c).After-eight_planes
