-- `quantiser::signed` meets its contract. Assumes nothing.
use Prim.Native.Nat.{◌<◌, ◌^◌}
use lib.IntN.{pos, neg_ℤ, nat_abs}
use mir.Facts.{to_z_pos}
use mir.Syntax.{w64}
use Rattle.whole.proofs.Machine.{small_fits, read_small, size_neg, zero_less}
use Rattle.quantiser.proofs.signed.Goals.{Start}
use Rattle.quantiser.proofs.signed.Goals as goal

neg_small : (c : Start) → nat_abs (neg_ℤ (pos c.args.size)) < 2 ^ 63
neg_small c = rw (size_neg (pos c.args.size)) c.requires

pub overflow_sub-result : goal.overflow_sub-result
overflow_sub-result c =
    let n = c.args.size in
    rw (to_z_pos w64 c.requires, zero_less (pos n)) (small_fits (neg_ℤ (pos n)) (neg_small (goal.at.overflow_sub-result c).Start))

pub returns-then-negative : goal.returns-then-negative
returns-then-negative c =
    let n = c.args.size in
    rw (to_z_pos w64 c.requires, zero_less (pos n), read_small (neg_ℤ (pos n)) (neg_small (goal.at.returns-then-negative c).Start), c.if-negative.true)

pub returns-else-negative : goal.returns-else-negative
returns-else-negative c = rw (to_z_pos w64 c.requires, c.if-negative.false)
