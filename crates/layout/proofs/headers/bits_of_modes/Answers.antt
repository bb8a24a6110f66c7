-- `layout::headers::bits_of_modes` meets its contract: the loop fills the array, and carries the bit of the next band. Assumes nothing.
use Prim.Native.Nat.{◌+◌, min}
use mathlib.Core.Path.{◌≡◌, refl, ap, ◌∙◌}
use native.Mathlib.Omega.{arith}
use Rattle.whole.proofs.Lists.{filled_none, filled_more}
use Rattle.layout.specs.Bands.{NL}
use Rattle.layout.specs.Headers.{modes, mode_bit}
use Rattle.layout.proofs.Sums.{width_most, mode_bit_next}
use Rattle.layout.proofs.headers.bits_of_modes.Goals as goal

pub loop-b-init : goal.loop-b-init
unfolding modes
loop-b-init c =
    let e : 0 ≡ min 0 (NL c.args.s) = omega arith in
    (ap (mode_bit c.args.s) e, omega arith, filled_none refl)

pub loop-b-preserved : goal.loop-b-preserved
loop-b-preserved c =
    let l = c.loop-b in
    let s = c.args.s in (
      (λ i. l.invariant.0 i + c.mode_width-bit.ensures i) ∙ mode_bit_next s l.b,
      omega (arith, l.invariant.1, c.mode_width-bit.ensures, width_most s l.b),
      filled_more l.invariant.2 c.loop-b-test.true l.invariant.0,
    )
