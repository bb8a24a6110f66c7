-- `packets::passes::marks_of` meets its contract. Assumes nothing.
use native.Mathlib.Omega.{arith}
use Rattle.packets.proofs.LinePasses.{flags_raw, flags_absent, flags_there, flags_plain}
use Rattle.packets.proofs.passes.marks_of.Goals as goal

pub returns-then-raw : goal.returns-then-raw
returns-then-raw c =
    let a = c.args in
    record { value = flags_raw a.s.now a.c a.p a.l c.if-raw.true; small = omega arith }

pub mode_of-requires : goal.mode_of-requires
mode_of-requires c = (c.requires.0, c.requires.1, (c.requires.2 c.if-l.true).band)

pub returns-then-mode_of-eq1 : goal.returns-then-mode_of-eq1
returns-then-mode_of-eq1 c =
    let a = c.args in
    record { value = flags_there a.s.now a.c a.p a.l c.if-l.true c.if-raw.false c.mode_of.ensures.value c.if-mode_of-eq1.true; small = (c.requires.2 c.if-l.true).few }

pub returns-else-mode_of-eq1 : goal.returns-else-mode_of-eq1
returns-else-mode_of-eq1 c =
    let a = c.args in
    record { value = flags_plain a.s.now a.c a.p a.l a.raw c.mode_of.ensures.value c.if-mode_of-eq1.false; small = omega arith }

pub returns-else-l : goal.returns-else-l
returns-else-l c =
    let a = c.args in
    record { value = flags_absent a.s.now a.c a.p a.l a.raw c.if-l.false; small = omega arith }
