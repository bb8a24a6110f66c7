-- `values::words::signs_before` meets its contract: both are parts of the word. Assumes nothing.
use mathlib.Core.Path.{refl}
use Prim.Native.Nat.{◌+◌, ◌*◌, ◌%◌}
use native.Mathlib.Omega.{arith}
use Rattle.bits.proofs.Laws.{is_part}
use Rattle.values.proofs.Planes.{four_bit}
use Rattle.values.proofs.Lanes.{planes_read}
use Rattle.values.proofs.words.signs_before.Goals as goal

pub returns : goal.returns
returns c =
    let a = c.args in
    let w = c.nibbles_at-w.ensures in
    record {
      sizes = planes_read (a.at + 1) a.n (4 * (a.at % 2) + 4) w (omega arith) (omega arith) (omega arith) c.sizes_of-sizes.ensures;
      signs = λ k h. four_bit k (omega arith) (is_part {j = 4 * a.at} {n = 4} (4 * (a.at % 2)) (4 * a.n) w (omega arith) (omega arith));
      taken = c.nibbles_of.ensures;
      used = refl;
    }
