-- `wavelet::lines::pairs_along` meets its contract. Assumes nothing.
use mathlib.Core.Path.{◌≡◌}
use Prim.Native.Nat.{◌+◌, ◌*◌, ◌<◌}
use native.Mathlib.Omega.{arith}
use mir.ValLaws.{to_z-of_z}
use Rattle.whole.proofs.Machine.{back64}
use Rattle.wavelet.proofs.Tame.{tame}
use Rattle.wavelet.proofs.Running.{running_inside, running_small, running_step, running_ends}
use Rattle.wavelet.proofs.lines.pairs_along.Goals.{In-loop-k}
use Rattle.wavelet.proofs.lines.pairs_along.Goals as goal

pub overflow_add-high : goal.overflow_add-high
overflow_add-high c = omega (arith, c.well_formed.0, c.requires.line.inside 1 c.requires.line.two)

pub offset_bounds-cells-base : goal.offset_bounds-cells-base
offset_bounds-cells-base c = omega (arith, c.well_formed.0, c.requires.line.inside 1 c.requires.line.two)

pub slice_copy_out-high : goal.slice_copy_out-high
slice_copy_out-high c = omega (arith, c.requires.line.inside 1 c.requires.line.two)

more : (c : In-loop-k) → 2 * c.loop-k.k + 1 + 2 < c.args.n
more c = omega (arith, c.loop-k-test.true)

pub pair_at-even-requires : goal.pair_at-even-requires
pair_at-even-requires c =
    let i = c.loop-k.invariant in
    let t = more (goal.at.pair_at-even-requires c).In-loop-k in
    simp (back64, c.next-1.given)
    record { t_nonzero = (c.requires.line.stride_up, omega (arith, running_inside c.requires.line (tame c.args.kind) i t)); small_pair = running_small c.requires.line (tame c.args.kind) i t }

pub loop-k-preserved : goal.loop-k-preserved
loop-k-preserved c =
    let p = c.pair_at-even in
    let e : 2 * (c.loop-k.k + 1) + 1 ≡ 2 * c.loop-k.k + 1 + 2 = omega arith in
    rw (e, back64 p.result p.type_inv, p.ensures.0)
    (simp (back64, c.next-1.given)
    (running_step c.requires.line (tame c.args.kind) c.loop-k.invariant (more (goal.at.loop-k-preserved c).In-loop-k)
    (simp (back64, c.next-1.given) at p.ensures.1)))

pub returns : goal.returns
returns c =
    simp (to_z-of_z, c.ranges.first)
    (running_ends c.requires.line (tame c.args.kind) c.loop-k.invariant c.requires.first_value (omega (arith, c.loop-k-test.false, c.requires.line.two)))
