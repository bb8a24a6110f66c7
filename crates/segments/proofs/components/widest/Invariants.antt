-- `segments::components::widest`: m is the greatest sx of the components passed. Assumes nothing.
use Prim.Native.Nat.{◌<◌}
use mathlib.Core.Path.{◌≡◌}
use Rattle.segments.specs.Components.{widest}
use Rattle.segments.proofs.components.widest.Given as goal

abbrev pub invariant-loop-c : goal.invariant-loop-c
invariant-loop-c l =
    (l.m ≡ widest l.s l.p l.c) × (l.m < 16)
