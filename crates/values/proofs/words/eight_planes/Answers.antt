-- `values::words::eight_planes` meets its contract: each sum is at most the whole. Assumes nothing.
use Prim.Native.Nat.{◌+◌, ◌*◌, ◌/◌, ◌%◌, ◌^◌, ◌≤◌}
use native.Mathlib.Omega.{arith}
use lib.ListN.{get_or}
use Rattle.values.proofs.Lanes.{spread_most, eight_is}
use Rattle.values.proofs.words.eight_planes.Goals.{Start}
use Rattle.values.proofs.words.eight_planes.Goals as goal

-- the last sum
most : (c : Start) → let t = c.args.pairs.now in let w = c.args.w in
    get_or t (w % 256) 0 + 4 * get_or t (w / 2 ^ 8 % 256) 0 + 16 * get_or t (w / 2 ^ 16 % 256) 0 + 64 * get_or t (w / 2 ^ 24 % 256) 0 ≤ 255 * 281479271743489
most c = omega (arith, eight_is c.requires c.args.w, spread_most 8 c.args.w)

pub overflow_mul-result : goal.overflow_mul-result
overflow_mul-result c = omega (arith, most (goal.at.overflow_mul-result c).Start)

pub overflow_add-result : goal.overflow_add-result
overflow_add-result c = omega (arith, most (goal.at.overflow_add-result c).Start)

pub overflow_mul-result-2 : goal.overflow_mul-result-2
overflow_mul-result-2 c = omega (arith, most (goal.at.overflow_mul-result-2 c).Start)

pub overflow_add-result-2 : goal.overflow_add-result-2
overflow_add-result-2 c = omega (arith, most (goal.at.overflow_add-result-2 c).Start)

pub overflow_mul-result-3 : goal.overflow_mul-result-3
overflow_mul-result-3 c = omega (arith, most (goal.at.overflow_mul-result-3 c).Start)

pub overflow_add-result-3 : goal.overflow_add-result-3
overflow_add-result-3 c = omega (arith, most (goal.at.overflow_add-result-3 c).Start)

pub returns : goal.returns
returns c = omega (arith, eight_is c.requires c.args.w)
