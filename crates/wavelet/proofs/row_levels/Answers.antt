-- `wavelet::row_levels` is the first loop of Table E.1 over one row: the invariant is `RowDescending`. Assumes nothing.
use Prim.Native.Nat.{◌-◌}
use native.Mathlib.Omega.{arith}
use Rattle.wavelet.specs.Kinds.{steps_of}
use Rattle.wavelet.proofs.Tame.{tame}
use Rattle.wavelet.proofs.Passes.{column_shift}
use Rattle.wavelet.proofs.Descent.{row_begins, row_line, row_goes_on, row_ends}
use Rattle.wavelet.proofs.row_levels.Goals as goal

pub loop-d-init : goal.loop-d-init
loop-d-init c = row_begins c.requires (steps_of c.args.kind)

pub filter_line-requires : goal.filter_line-requires
filter_line-requires c =
    let i = c.loop-d.invariant in
    rw (column_shift (c.loop-d.d - 1) (omega (arith, c.requires.levels, c.requires.fewer, i.most)), c.low_size.ensures) (row_line c.requires (tame c.args.kind) i c.loop-d-test.true)

pub loop-d-preserved : goal.loop-d-preserved
loop-d-preserved c =
    let i = c.loop-d.invariant in
    row_goes_on c.requires (tame c.args.kind) i c.loop-d-test.true
    (rw (column_shift (c.loop-d.d - 1) (omega (arith, c.requires.levels, c.requires.fewer, i.most)), c.low_size.ensures) at c.filter_line.ensures)

pub returns : goal.returns
returns c = row_ends c.requires (tame c.args.kind) c.loop-d.invariant c.loop-d-test.false
