-- `wavelet::lines::even_of` meets its contract, kind by kind. Assumes nothing.
use mir.ValLaws.{to_z-of_z}
use Rattle.whole.proofs.Machine.{back64}
use Rattle.wavelet.specs.Filter.{samples}
use Rattle.wavelet.specs.Kinds.{rises}
use Rattle.wavelet.proofs.Sizes.{even_fits, even_rise_fits}
use Rattle.wavelet.proofs.lines.even_of.Goals as goal

pub returns-in-Samples : goal.returns-in-Samples
unfolding samples
returns-in-Samples c =
    rw (c.in-Samples.is, back64 c.quarter.result c.quarter.type_inv, c.quarter.ensures)
    (simp (to_z-of_z, c.ranges.x, c.ranges.l, c.ranges.r, even_fits c.requires))

pub returns-in-Numbers : goal.returns-in-Numbers
unfolding rises
returns-in-Numbers c =
    rw (c.in-Numbers.is, back64 c.quarter-in-Numbers.result c.quarter-in-Numbers.type_inv, c.quarter-in-Numbers.ensures)
    (simp (to_z-of_z, c.ranges.x, c.ranges.l, c.ranges.r, even_rise_fits c.requires))
