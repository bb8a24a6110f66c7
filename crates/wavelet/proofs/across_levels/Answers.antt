-- `wavelet::across_levels` is the first loop of Table E.1, row after row. Assumes nothing.
use native.Mathlib.Omega.{arith}
use Rattle.wavelet.proofs.Passes.{row_shift}
use Rattle.wavelet.proofs.Rows.{row_taken, across_goes_on, across_ends}
use Rattle.wavelet.proofs.across_levels.Goals as goal

pub row_levels-requires : goal.row_levels-requires
row_levels-requires c =
    let t = rw c.low_size-m.ensures at c.loop-q-test.true in
    rw (row_shift c.args.ny c.requires.component.sheet.narrow (omega (arith, c.requires.component.fewer))) (row_taken c.requires.component c.requires.samples_within c.loop-q.invariant t)

pub loop-q-preserved : goal.loop-q-preserved
loop-q-preserved c =
    let t = rw c.low_size-m.ensures at c.loop-q-test.true in
    across_goes_on c.requires.component c.requires.samples_within c.loop-q.invariant t
    (rw (row_shift c.args.ny c.requires.component.sheet.narrow (omega (arith, c.requires.component.fewer))) at c.row_levels.ensures)

pub returns : goal.returns
returns c =
    across_ends c.requires.component c.requires.samples_within c.loop-q.invariant (rw c.low_size-m.ensures at c.loop-q-test.false)
