-- `wavelet::lines::half` meets its contract: each number on the way fits an i64, so that it is read back from its bits. Assumes nothing.
use mir.ValLaws.{to_z-of_z}
use Rattle.wavelet.proofs.Sizes.{sum_fits, sum_more_fits, shift_fits}
use Rattle.wavelet.proofs.lines.half.Goals as goal

pub returns : goal.returns
returns c = simp (to_z-of_z, c.ranges.l, c.ranges.r, c.ranges.more, sum_fits c.requires, sum_more_fits c.requires, shift_fits c.requires 2)
