-- `wavelet::lines::level_pair` meets its contract. Assumes nothing.
use Prim.Native.Nat.{◌+◌}
use native.Mathlib.Omega.{arith}
use Rattle.wavelet.proofs.Tame.{tame}
use Rattle.wavelet.proofs.Level.{even_ready, behind_ready, turn_ready, turn_next}
use Rattle.wavelet.proofs.lines.level_pair.Goals as goal

pub overflow_mul-next : goal.overflow_mul-next
overflow_mul-next c = let m = c.requires.0 in omega (arith, c.well_formed.0, m.run.onto.same, m.grid.inside (c.args.j + 2) 0 c.requires.1 (omega (arith, m.grid.two_across)))

pub overflow_add-next : goal.overflow_add-next
overflow_add-next c = let m = c.requires.0 in omega (arith, c.well_formed.0, m.run.onto.same, m.grid.inside (c.args.j + 2) 0 c.requires.1 (omega (arith, m.grid.two_across)))

pub filter_line-requires : goal.filter_line-requires
filter_line-requires c =
    let m = c.requires.0 in
    let T = tame c.args.kind in
    even_ready T m.grid m.within _ m.odd m.run (omega (arith, c.requires.1))

pub filter_line-requires-2 : goal.filter_line-requires-2
filter_line-requires-2 c =
    let m = c.requires.0 in
    let T = tame c.args.kind in
    behind_ready T m.grid m.within _ m.odd m.run c.filter_line.ensures c.requires.1

pub pairs_of_rows-requires : goal.pairs_of_rows-requires
pairs_of_rows-requires c =
    let m = c.requires.0 in
    let T = tame c.args.kind in
    turn_ready T m.grid m.within _ m.odd m.run c.filter_line.ensures c.requires.1 c.filter_line-2.ensures

pub returns : goal.returns
returns c =
    let m = c.requires.0 in
    let T = tame c.args.kind in
    record {
      goes = λ grid within run.
          turn_next T grid within _ m.odd run c.filter_line.ensures c.requires.1 c.filter_line-2.ensures c.pairs_of_rows.ensures;
    }
