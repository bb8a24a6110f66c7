use mathlib.Core.Path.{sym, ◌∙◌}
use native.Mathlib.Omega.{arith}
use Rattle.loops.proofs.Laws.{begins, goes_on, stops, ends}
use Rattle.layout.proofs.Columns.{slices_most}
use Rattle.slices.specs.Walk.{walk_precincts}
use Rattle.slices.proofs.PrecinctLaws.{clash, settled}
use Rattle.slices.proofs.WalkLaws.{walk_goes, walk_stops}
use Rattle.slices.proofs.walk.walk_precincts.Goals as goal

pub precincts_in_slice-count-requires : goal.precincts_in_slice-count-requires
precincts_in_slice-count-requires c =
    let h = c.requires in
    (h.0.shape, omega (arith, h.3, slices_most c.args.c.shape h.0.shape))

pub loop-n-init : goal.loop-n-init
loop-n-init c = (begins, c.requires.2)

pub walk_turn-r-requires : goal.walk_turn-r-requires
walk_turn-r-requires c =
    let h = c.requires in
    (h.0, h.1, c.loop-n.invariant.1)

pub returns-in-Err : goal.returns-in-Err
unfolding walk_precincts
returns-in-Err c =
    let l = c.loop-n in
    let v = c.in-Err.is in
    record {
      is = settled (stops l.invariant.0 (omega (arith, c.loop-n-test.true, c.precincts_in_slice-count.ensures)) (walk_stops c.walk_turn-r.ensures v)) v;
      inside = λ e. clash (sym v ∙ e);
    }

pub loop-n-preserved : goal.loop-n-preserved
loop-n-preserved c =
    let l = c.loop-n in
    let r = c.walk_turn-r.ensures in
    let v = c.in-Ok.is in
    (goes_on l.invariant.0 (omega (arith, c.loop-n-test.true, c.precincts_in_slice-count.ensures)) (walk_goes r v), r.inside v)

pub returns : goal.returns
unfolding walk_precincts
returns c =
    let l = c.loop-n in
    record {
      is = ends l.invariant.0 (omega (arith, c.loop-n-test.false, c.precincts_in_slice-count.ensures));
      inside = λ e. l.invariant.1;
    }
