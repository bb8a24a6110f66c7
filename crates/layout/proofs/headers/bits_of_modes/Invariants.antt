-- `layout::headers::bits_of_modes` meets its contract: the loop fills the array, and carries the bit of the next band. Assumes nothing.
use Prim.Native.Nat.{◌+◌, ◌*◌, ◌≤◌, min}
use mathlib.Core.Path.{◌≡◌}
use Rattle.whole.proofs.Lists.{Filled}
use Rattle.layout.specs.Bands.{NL}
use Rattle.layout.specs.Headers.{mode_bit}
use Rattle.layout.proofs.headers.bits_of_modes.Given as goal

abbrev pub invariant-loop-b : goal.invariant-loop-b
invariant-loop-b l = (l.bit ≡ mode_bit l.s (min l.b (NL l.s))) × (l.bit ≤ 40 + 2 * l.b) × Filled 40 l.b (λ b. mode_bit l.s (min b (NL l.s))) l.place-items
