-- `packets::bands::truncation_of` meets its contract. Assumes nothing.
use native.Mathlib.Omega.{arith}
use Rattle.layout.proofs.Sums.{bands_most}
use Rattle.packets.proofs.LinePasses.{truncation_is}
use Rattle.packets.proofs.bands.truncation_of.Goals as goal

pub bounds-gains-b : goal.bounds-gains-b
bounds-gains-b c = omega (arith, bands_most _ c.requires.0.shape, c.requires.1)

pub bounds-priorities-b : goal.bounds-priorities-b
bounds-priorities-b c = omega (arith, bands_most _ c.requires.0.shape, c.requires.1)

pub truncation_of-requires : goal.truncation_of-requires
truncation_of-requires c = (omega (arith, c.requires.0.gains c.args.b), c.requires.0.br)

pub returns : goal.returns
returns c = truncation_is _ _ _ c.truncation_of.ensures.0 c.truncation_of.ensures.1
