-- `layout::lines::slot_of` meets its contract. Assumes nothing.
use mathlib.Core.Path.{sym, ap, ◌∙◌}
use Prim.Native.Nat.{ℕ, ◌+◌, ◌*◌, ◌-◌, ◌/◌, ◌%◌}
use native.Mathlib.Omega.{arith}
use Rattle.layout.specs.Slots.{turn_of}
use Rattle.layout.proofs.Filters.{first_is}
use Rattle.layout.proofs.Slots.{slots_most, first_type, first_count, first_line, later_type, later_types, later_line, later_turn}
use Rattle.layout.proofs.lines.slot_of.Goals as goal

pub returns-then-k-eq0 : goal.returns-then-k-eq0
returns-then-k-eq0 c =
    let s = c.args.s in
    let zero = c.if-k-eq0.true in
    λ i.
    record {
      first = sym (first_type s c.requires.0 zero) i;
      types = (sym (first_is s.nlx s.nly c.requires.0.no_more) ∙ sym (first_count s c.requires.0 zero)) i;
      line = sym (first_line s c.requires.0 zero) i;
    }

pub power-requires : goal.power-requires
power-requires c =
    omega (arith, c.requires.1, slots_most c.args.s c.requires.0)

pub overflow_sub-result-2 : goal.overflow_sub-result-2
overflow_sub-result-2 c =
    omega (arith, c.power.ensures.is, (later_turn c.args.s c.requires.0 c.args.k c.if-k-eq0.false c.requires.1).1)

pub returns : goal.returns
returns c =
    let s = c.args.s in
    let k = c.args.k in
    let up = c.if-k-eq0.false in
    λ i.
    record {
      first = (ap (λ (f : ℕ). f + 3 * (turn_of k / 2) + (k - 1) % 3) (sym (first_is s.nlx s.nly c.requires.0.no_more)) ∙ sym (later_type s c.requires.0 k up)) i;
      types = sym (later_types s c.requires.0 k up) i;
      line = (ap (λ (p : ℕ). turn_of k - p) c.power.ensures.is ∙ sym (later_line s c.requires.0 k up)) i;
    }
