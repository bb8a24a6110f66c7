-- `wavelet::lines::level_end` meets its contract. Assumes nothing.
use mathlib.Core.Path.{◌≡◌}
use Prim.Native.Nat.{◌+◌}
use native.Mathlib.Omega.{arith}
use Rattle.wavelet.proofs.Tame.{tame}
use Rattle.wavelet.proofs.Level.{even_ready, close_ready, close_next, last_ready, last_next}
use Rattle.wavelet.proofs.lines.level_end.Goals as goal

pub overflow_add-odd : goal.overflow_add-odd
overflow_add-odd c = let m = c.requires.0 in omega (arith, c.well_formed.0, m.run.onto.same, m.grid.inside (c.args.j + 1) 0 c.if-j-n.true (omega (arith, m.grid.two_across)))

pub filter_line-requires : goal.filter_line-requires
filter_line-requires c =
    let m = c.requires.0 in
    let T = tame c.args.kind in
    even_ready T m.grid m.within _ m.odd m.run c.if-j-n.true

pub pairs_of_rows-requires : goal.pairs_of_rows-requires
pairs_of_rows-requires c =
    let m = c.requires.0 in
    let T = tame c.args.kind in
    close_ready T m.grid m.within _ m.odd m.run c.filter_line.ensures (omega (arith, c.requires.1, c.if-j-n.true))

pub lift-requires : goal.lift-requires
lift-requires c =
    let m = c.requires.0 in
    let T = tame c.args.kind in
    let end : c.args.j + 1 ≡ c.args.n = omega (arith, m.run.most, c.if-j-n.false) in
    last_ready T m.grid m.within m.run m.odd end end

pub returns-then-j-n : goal.returns-then-j-n
returns-then-j-n c =
    let m = c.requires.0 in
    let T = tame c.args.kind in
    record {
      goes = λ grid within run.
          close_next T grid within _ m.odd run c.filter_line.ensures (omega (arith, c.requires.1, c.if-j-n.true)) c.pairs_of_rows.ensures;
    }

pub returns-else-j-n : goal.returns-else-j-n
returns-else-j-n c =
    let m = c.requires.0 in
    let T = tame c.args.kind in
    record {
      goes = λ grid within run. let end : c.args.j + 1 ≡ c.args.n = omega (arith, m.run.most, c.if-j-n.false) in last_next T grid within run m.odd end end c.lift.ensures;
    }
