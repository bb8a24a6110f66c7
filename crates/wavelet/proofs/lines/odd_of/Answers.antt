-- `wavelet::lines::odd_of` meets its contract, kind by kind. Assumes nothing.
use lib.IntN.{+ℤ_idr}
use mir.ValLaws.{to_z-of_z}
use Rattle.whole.proofs.Machine.{back64}
use Rattle.wavelet.specs.Filter.{samples}
use Rattle.wavelet.specs.Kinds.{rises}
use Rattle.wavelet.proofs.Sizes.{odd_fits, odd_rise_fits}
use Rattle.wavelet.proofs.lines.odd_of.Goals as goal

pub returns-in-Samples : goal.returns-in-Samples
unfolding samples
returns-in-Samples c =
    rw (c.in-Samples.is, back64 c.half.result c.half.type_inv, c.half.ensures, +ℤ_idr)
    (simp (to_z-of_z, c.ranges.x, c.ranges.l, c.ranges.r, odd_fits c.requires))

pub returns-in-Numbers : goal.returns-in-Numbers
unfolding rises
returns-in-Numbers c =
    rw (c.in-Numbers.is, back64 c.half-in-Numbers.result c.half-in-Numbers.type_inv, c.half-in-Numbers.ensures)
    (simp (to_z-of_z, c.ranges.x, c.ranges.l, c.ranges.r, odd_rise_fits c.requires))
