-- `values::words::signs_apart` meets its contract: a sign is taken for each size that is not 0. Assumes nothing.
use mathlib.Core.Path.{◌≡◌, refl}
use Prim.Native.Nat.{◌+◌, ◌*◌, ◌%◌}
use native.Mathlib.Omega.{arith}
use Rattle.bits.proofs.Laws.{is_first}
use Rattle.values.specs.Group.{planes, sign_bits}
use Rattle.values.proofs.Lanes.{planes_read, lane_read, sign_count, sign_next, side_by_side}
use Rattle.values.proofs.words.signs_apart.Goals as goal

pub returns : goal.returns
unfolding sign_bits
returns c =
    let a = c.args in
    let f = planes a.dat.now (a.next.at + 0) a.n in
    let w = is_first {n = 4 * (a.next.at % 2) + 4 * a.n} 4 c.nibbles_at-w.ensures (omega arith) in
    let e = planes_read (a.next.at + 0) a.n (4 * (a.next.at % 2)) w (omega arith) (omega arith) (omega arith) c.sizes_of-sizes.ensures in
    let size = lane_read a.dat.now (a.next.at + 0) a.n (omega arith) e in
    let x = c.four_bits-four.ensures in
    let one : c.sign_bit-a.result ≡ sign_bits f 1 =
    omega (arith, sign_count f 0 refl c.sign_bit-a.ensures (omega (arith, size 0 (omega arith)))) in
    let two = sign_count f 1 one c.sign_bit.ensures (omega (arith, size 1 (omega arith))) in
    let three = sign_count f 2 two c.sign_bit-2.ensures (omega (arith, size 2 (omega arith))) in
    record {
      sizes = e;
      signs = side_by_side a.sgn.now (λ k. a.next.sign + sign_bits f k)
          (omega (arith, sign_next f 0 (omega arith) x refl, sign_next f 1 (omega arith) x one, sign_next f 2 (omega arith) x two, sign_next f 3 (omega arith) x three));
      taken = c.nibbles_of.ensures;
      used = omega (arith, sign_count f 3 three c.sign_bit-3.ensures (omega (arith, size 3 (omega arith))));
    }
