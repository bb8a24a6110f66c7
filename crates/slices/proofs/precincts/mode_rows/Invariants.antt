use Prim.Native.Nat.{◌+◌, ◌*◌, ◌≤◌}
use mathlib.Core.Path.{◌≡◌}
use Rattle.rows.specs.Rows.{first, each, Fine}
use Rattle.layout.specs.Headers.{mode_bit}
use Rattle.slices.proofs.PrecinctLaws.{top_checks}
use Rattle.slices.proofs.precincts.mode_rows.Given as goal

abbrev pub invariant-loop-b : goal.invariant-loop-b
invariant-loop-b l =
    (l.bit ≡ mode_bit l.shape l.b) × (l.bit ≤ 40 + 2 * l.b) × (first (each l.b (top_checks l.s l.shape l.at)) ≡ Fine)
