-- `wavelet::lines::pairs_down` meets its contract. Assumes nothing.
use Rattle.wavelet.specs.Kinds.{steps_of}
use Rattle.wavelet.proofs.Pairs.{pair_inside, pair_ready, pair_step}
use Rattle.wavelet.proofs.lines.pairs_down.Goals as goal

pub pair_one-requires : goal.pair_one-requires
pair_one-requires c =
    let i = c.loop-j.invariant in
    let S = steps_of c.args.kind in
    let n = pair_inside S c.requires i c.loop-j-test.true in
    record { t_nonzero = (c.requires.t_up, n.0, n.1, n.2); small_pair = pair_ready S c.requires i c.loop-j-test.true }

pub loop-j-preserved : goal.loop-j-preserved
loop-j-preserved c = pair_step (steps_of c.args.kind) c.requires c.loop-j.invariant c.loop-j-test.true c.pair_one.ensures
