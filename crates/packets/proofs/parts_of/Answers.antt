-- `packets::parts_of` meets its contract. Assumes nothing.
use Prim.Native.Nat.{◌+◌, ◌<◌, ◌^◌}
use native.Mathlib.Omega.{arith}
use Rattle.packets.proofs.Stretches.{signs_most, parts_are}
use Rattle.packets.proofs.parts_of.Goals.{After-sign_length}
use Rattle.packets.proofs.parts_of.Goals as goal

-- no part stands far behind the header
near : (c : After-sign_length) →
    let a = c.args in
    a.at + c.bytes.result + c.bytes_of_bits.result + a.h.lcnt + a.h.ldat + c.sign_length.result < 2 ^ 40
near c =
    let a = c.args in
    let pre = c.requires in
    let widths = pre.0.slotted.settled.widths in
    omega (
      arith,
      pre.1,
      pre.0.end,
      pre.0.short,
      pre.2.cnt,
      pre.2.dat,
      pre.2.sgn,
      signs_most a.c a.h,
      c.sign_length.ensures,
      c.bytes_of_bits.ensures,
      c.all_marks.ensures.small,
      c.bytes.ensures,
      widths.dat,
      widths.cnt,
      widths.sgn,
    )

pub overflow_add-result : goal.overflow_add-result
overflow_add-result c = omega (arith, near c)

pub returns : goal.returns
returns c =
    let a = c.args in
    parts_are a.s.now a.c a.p a.slot a.at c.requires.2.header c.bytes.ensures
    c.all_marks.ensures.value c.bytes_of_bits.ensures c.sign_length.ensures (near c)
