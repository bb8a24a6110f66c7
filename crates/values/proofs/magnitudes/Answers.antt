-- `values::magnitudes` meets its contract. Invariant: each size has the j planes passed. Assumes nothing.
use mathlib.Core.Path.{◌≡◌, refl}
use native.Mathlib.Omega.{arith}
use Rattle.values.specs.Group.{planes}
use Rattle.values.proofs.Planes.{sized, more_sized, below_four}
use Rattle.values.proofs.magnitudes.Goals as goal

pub loop-j-init : goal.loop-j-init
unfolding planes
loop-j-init c = (sized (omega arith) refl, sized (omega arith) refl, sized (omega arith) refl, sized (omega arith) refl)

pub loop-j-preserved : goal.loop-j-preserved
loop-j-preserved c =
    let i = c.loop-j.invariant in (
      more_sized 0 i.0 c.nibble-plane.ensures (omega arith) (omega arith) (omega arith),
      more_sized 1 i.1 c.nibble-plane.ensures (omega arith) (omega arith) (omega arith),
      more_sized 2 i.2 c.nibble-plane.ensures (omega arith) (omega arith) (omega arith),
      more_sized 3 i.3 c.nibble-plane.ensures (omega arith) (omega arith) (omega arith),
    )

pub returns : goal.returns
returns c =
    let i = c.loop-j.invariant in
    let e : c.loop-j.j ≡ c.args.n = omega arith in
    record { each = below_four (λ k. _ ≡ planes _ _ _ k) (rw e at i.0.value) (rw e at i.1.value) (rw e at i.2.value) (rw e at i.3.value) }
