-- `wavelet::lines::filter_line` meets its contract. Assumes nothing.
use native.Mathlib.Omega.{arith}
use Rattle.whole.proofs.Machine.{back64}
use Rattle.wavelet.specs.Kinds.{steps_of}
use Rattle.wavelet.proofs.Tame.{tame}
use Rattle.wavelet.proofs.Running.{first_small, first_is, end_inside, last_small, last_ends, end_room, end_small, end_ends}
use Rattle.wavelet.proofs.lines.filter_line.Goals as goal

pub slice_copy_out-high : goal.slice_copy_out-high
slice_copy_out-high c = omega (arith, c.requires.inside 1 c.requires.two)

pub even_of-first-requires : goal.even_of-first-requires
even_of-first-requires c = simp (back64, c.even_of-arg-1.given, c.high-1.given) (first_small c.requires)

pub pairs_of_line-requires : goal.pairs_of_line-requires
pairs_of_line-requires c =
    let e = c.even_of-first in
    record { line = c.requires; first_value = rw (back64 e.result e.type_inv, e.ensures) (simp (back64, c.even_of-arg-1.given, c.high-1.given) (first_is c.requires (steps_of c.args.kind))) }

pub overflow_sub-odd-then-n-eq0-2 : goal.overflow_sub-odd-then-n-eq0-2
overflow_sub-odd-then-n-eq0-2 c =
    (end_inside (tame c.args.kind) c.requires _ (omega (arith, c.requires.two)) c.pairs_of_line.ensures (omega (arith, c.requires.two))).0

pub lift_one-requires : goal.lift_one-requires
lift_one-requires c =
    let p = c.pairs_of_line.ensures in
    let e = c.if-n-eq0.true in
    let i = end_inside (tame c.args.kind) c.requires _ (omega (arith, c.requires.two)) p (omega (arith, c.requires.two)) in
    record { c_in_bounds = (i.1, omega (arith, i), omega (arith, i)); small = last_small (tame c.args.kind) c.requires _ (omega (arith, c.requires.two)) p (omega (arith, c.requires.two, e)) }

pub pair_one-requires : goal.pair_one-requires
pair_one-requires c =
    let p = c.pairs_of_line.ensures in
    let T = tame c.args.kind in
    let i = end_inside T c.requires _ (omega (arith, c.requires.two)) p (omega (arith, c.requires.two)) in
    let e = c.if-n-eq0.false in
    record { t_nonzero = (c.requires.stride_up, i.0, end_room T c.requires _ (omega (arith, c.requires.two)) p (omega (arith, c.requires.two, e)), i.1); small_pair = end_small T c.requires _ (omega (arith, c.requires.two)) p (omega (arith, c.requires.two, e)) }

pub returns-then-n-eq0 : goal.returns-then-n-eq0
returns-then-n-eq0 c =
    let p = c.pairs_of_line.ensures in
    rw c.lift_one.ensures
    (last_ends (tame c.args.kind) c.requires _ (omega (arith, c.requires.two)) p (omega (arith, c.requires.two, c.if-n-eq0.true)))

pub returns-else-n-eq0 : goal.returns-else-n-eq0
returns-else-n-eq0 c =
    let p = c.pairs_of_line.ensures in
    end_ends (tame c.args.kind) c.requires _ (omega (arith, c.requires.two)) p (omega (arith, c.requires.two, c.if-n-eq0.false)) c.pair_one.ensures
