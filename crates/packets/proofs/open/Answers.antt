-- `packets::open` meets its contract. Assumes nothing.
use mathlib.Core.Path.{sym, ◌∙◌}
use native.Mathlib.Omega.{arith}
use Rattle.layout.proofs.Slots.{slots_most}
use Rattle.packets.proofs.Stretches.{head_table, head_inside}
use Rattle.packets.proofs.Flags.{flags_table}
use Rattle.packets.proofs.open.Goals as goal

pub bound_flag-least-requires : goal.bound_flag-least-requires
bound_flag-least-requires c =
    let w = c.requires.0.slotted in
    omega (arith, w.which, slots_most _ w.settled.shape)

pub bound_flag-most-requires : goal.bound_flag-most-requires
bound_flag-most-requires c =
    let w = c.requires.0.slotted in
    omega (arith, w.which, slots_most _ w.settled.shape)

pub returns : goal.returns
returns c =
    let a = c.args in
    let header = c.read-h.ensures.header in
    let parts = c.parts_of-parts.ensures in
    let verdict =
    head_table a.s.now a.c a.p a.slot a.at header parts a.raws c.bytes-bytes.ensures
    c.bound_flag-least.ensures c.bound_flag-most.ensures
    (flags_table a.s.now a.c a.p a.slot a.at c.requires.0.slotted c.requires.2 a.raws)
    c.saturating_sub-left.ensures c.saturating_sub-rest.ensures c.first-v.ensures in
    record {
      verdict = verdict;
      dr = λ i. (header i).dr;
      parts = parts;
      inside = λ e. omega (arith, parts.dat, head_inside a.s.now a.c a.p a.slot a.at a.raws c.requires.1 (sym verdict ∙ e));
    }
