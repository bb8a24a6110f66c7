-- `wavelet::both_level` leaves the grid of depth d filtered, its rows and then its columns. Assumes nothing.
use Rattle.wavelet.specs.Kinds.{steps_of}
use Rattle.wavelet.proofs.Passes.{level_grid, level_cells, level_made, row_shift, column_shift}
use Rattle.wavelet.proofs.both_level.Goals as goal

pub level-requires : goal.level-requires
level-requires c =
    rw (row_shift c.args.d c.requires.pass.sheet.narrow c.requires.pass.depth, column_shift c.args.d c.requires.pass.depth, c.low_size-m.ensures, c.low_size-n.ensures)
    (level_grid c.requires.pass, level_cells c.requires.pass c.requires.samples_within)

pub returns : goal.returns
returns c =
    level_made c.requires.pass (steps_of c.args.kind)
    (rw (row_shift c.args.d c.requires.pass.sheet.narrow c.requires.pass.depth, column_shift c.args.d c.requires.pass.depth, c.low_size-m.ensures, c.low_size-n.ensures)
    at c.level.ensures)
