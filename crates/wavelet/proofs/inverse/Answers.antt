-- `wavelet::inverse` is the two loops of Table E.1, and leaves what a kind asks. Assumes nothing.
use Rattle.wavelet.specs.Kinds.{steps_of}
use Rattle.wavelet.proofs.Descent.{table_made}
use Rattle.wavelet.proofs.Rising.{samples_within, inverted}
use Rattle.wavelet.proofs.inverse.Goals as goal

pub across_levels-requires : goal.across_levels-requires
across_levels-requires c =
    record { component = c.requires.component; samples_within = samples_within c.args.kind c.requires.values_within }

pub returns : goal.returns
returns c =
    inverted c.requires.component.parts c.args.kind _ c.requires.values_within
    (table_made c.requires.component (steps_of c.args.kind) c.across_levels.ensures c.both_levels.ensures)
