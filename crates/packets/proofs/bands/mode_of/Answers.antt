-- `packets::bands::mode_of` meets its contract: the setting has the field's first bit. Assumes nothing.
use mathlib.Core.Path.{◌≡◌, ◌∙◌, ap}
use mathlib.Core.List.{List}
use Prim.Native.Nat.{ℕ}
use native.Mathlib.Omega.{arith}
use lib.ListN.{get_or}
use Rattle.layout.specs.Headers.{mode_bit}
use Rattle.layout.proofs.Sums.{bands_most, modes_most, mode_bits_at}
use Rattle.packets.proofs.LinePasses.{mode_is}
use Rattle.packets.proofs.bands.mode_of.Goals.{Start}
use Rattle.packets.proofs.bands.mode_of.Goals as goal

-- the bit
first : (c : Start) → get_or c.args.c.modes c.args.b 0 ≡ mode_bit c.args.c.shape c.args.b
first c = ap (λ (l : List ℕ). get_or l c.args.b 0) c.requires.0.modes ∙ mode_bits_at c.args.c.shape c.requires.0.shape c.args.b c.requires.2

pub bounds-modes-b : goal.bounds-modes-b
bounds-modes-b c = omega (arith, bands_most _ c.requires.0.shape, c.requires.2)

pub overflow_cast-bit : goal.overflow_cast-bit
overflow_cast-bit c = omega (arith, first (goal.at.overflow_cast-bit c).Start, modes_most c.args.c.shape c.args.b, bands_most _ c.requires.0.shape, c.requires.2)

pub overflow_add-p : goal.overflow_add-p
overflow_add-p c = omega (arith, first (goal.at.overflow_add-p c).Start, modes_most c.args.c.shape c.args.b, bands_most _ c.requires.0.shape, c.requires)

pub returns : goal.returns
returns c = mode_is _ _ _ _ (first (goal.at.returns c).Start) c.field.ensures
