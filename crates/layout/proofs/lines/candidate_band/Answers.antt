-- `layout::lines::candidate_band` meets its contract. Assumes nothing.
use native.Mathlib.Omega.{arith}
use Rattle.layout.proofs.Slots.{band_is, band_there}
use Rattle.layout.proofs.Sums.{bands_most}
use Rattle.layout.proofs.lines.candidate_band.Goals as goal

pub overflow_mul-result : goal.overflow_mul-result
overflow_mul-result c =
    let a = c.args in
    grind (arith, c.slot_of-slot.ensures, band_is a.s c.requires.0 a.k a.j c.requires.1 c.requires.2, band_there a.s c.requires.0 a.k a.j c.requires.1 c.requires.2, bands_most a.s c.requires.0)

pub overflow_add-result : goal.overflow_add-result
overflow_add-result c =
    let a = c.args in
    grind (arith, c.slot_of-slot.ensures, band_is a.s c.requires.0 a.k a.j c.requires.1 c.requires.2, band_there a.s c.requires.0 a.k a.j c.requires.1 c.requires.2, bands_most a.s c.requires.0)

pub returns : goal.returns
returns c =
    let a = c.args in
    grind (arith, c.slot_of-slot.ensures, band_is a.s c.requires.0 a.k a.j c.requires.1 c.requires.2, band_there a.s c.requires.0 a.k a.j c.requires.1 c.requires.2)
