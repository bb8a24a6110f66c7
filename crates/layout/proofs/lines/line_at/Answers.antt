-- `layout::lines::line_at` meets its contract. Assumes nothing.
use mathlib.Core.Path.{sym, subst}
use Prim.Native.Nat.{◌+◌, ◌-◌, ◌/◌, ◌^◌, ◌<◌}
use native.Mathlib.Nat.{mod-lt}
use native.Mathlib.Omega.{arith}
use Rattle.layout.specs.declared.lines.Slot.{Slot}
use Rattle.layout.specs.Bands.{Nβ, dy}
use Rattle.layout.specs.Slots.{line_at}
use Rattle.layout.proofs.Slots.{slot_fits}
use Rattle.layout.proofs.Sums.{types_most}
use Rattle.layout.proofs.lines.line_at.Goals as goal

pub overflow_add-slot : goal.overflow_add-slot
overflow_add-slot c = grind (arith, c.slot_of-slot.ensures, slot_fits c.args.s c.requires.0 c.args.k c.args.j c.requires.3 c.requires.4, types_most c.args.s c.requires.0)

pub line_of-requires : goal.line_of-requires
line_of-requires c =
    let s = c.args.s in
    let j = c.args.j in
    let f = slot_fits s c.requires.0 c.args.k j c.requires.3 c.requires.4 in
    let back = sym c.slot_of-slot.ensures in record {
      built = (c.requires.0, c.requires.1, c.requires.2);
      beta_bound = (
        subst (λ (t : Slot). t.first + j / s.nc < Nβ s) back f.0,
        mod-lt j c.requires.0.some,
        subst (λ (t : Slot). t.line < 4) back f.1,
        subst (λ (t : Slot). t.line < 2 ^ (s.nly - dy s (t.first + j / s.nc))) back f.2,
      );
    }

pub returns : goal.returns
unfolding line_at
returns c = grind (arith, c.slot_of-slot.ensures)
