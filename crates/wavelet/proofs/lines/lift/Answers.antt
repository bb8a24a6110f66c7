-- `wavelet::lines::lift` meets its contract. Assumes nothing.
use Rattle.wavelet.specs.Kinds.{steps_of}
use Rattle.wavelet.proofs.Lifting.{turn_inside, turn_small}
use Rattle.wavelet.proofs.lines.lift.Goals as goal

pub lift_one-requires : goal.lift_one-requires
lift_one-requires c =
    let i = c.loop-j.invariant in
    record { c_in_bounds = turn_inside (steps_of c.args.kind) c.args.b c.requires i c.loop-j-test.true; small = turn_small (steps_of c.args.kind) c.args.b c.requires i c.loop-j-test.true }
