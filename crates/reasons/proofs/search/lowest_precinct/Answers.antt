-- `reasons::search::lowest_precinct` meets its contract. Invariant: no precinct before has passed, and the walk stands before the next. Assumes nothing.
use Prim.Native.Nat.{◌<◌}
use mathlib.Core.Path.{◌≡◌, sym, ap, ◌∙◌}
use mathlib.Core.Bool.{◌&&◌}
use native.Mathlib.Omega.{arith}
use lib.Dec.{eqb}
use Rattle.packets.specs.declared.Precinct.{Precinct}
use Rattle.packets.specs.Precincts.{T}
use Rattle.slices.specs.Precinct.{holds}
use Rattle.reasons.specs.Coarsest.{per_slice, all, precinct_of}
use Rattle.loops.proofs.Lowest.{search_begins, search_next, search_stops, search_ends}
use Rattle.reasons.proofs.Numbers.{slice_below, number_below}
use Rattle.reasons.proofs.LowestBand.{row_below}
use Rattle.reasons.proofs.Steps.{stands_first, stands_inside, head_inside, precinct_ends, head_found, precinct_seen}
use Rattle.reasons.proofs.search.lowest_precinct.Goals.{After-holds_with, After-precinct_in-q, In-loop-p}
use Rattle.reasons.proofs.search.lowest_precinct.Invariants.{test}
use Rattle.reasons.proofs.search.lowest_precinct.Goals as goal

-- ---- the turn

size_is : (c : In-loop-p) → c.slice_size-size.result ≡ per_slice c.args.c.shape
size_is c = c.slice_size-size.ensures

below : (c : In-loop-p) → c.loop-p.p < all c.args.c.shape
below c = omega (arith, c.loop-p-test.true, c.precinct_count-count.ensures.0)

-- the precinct of the turn
found : (c : After-precinct_in-q) →
    let a = c.args in
    c.precinct_in-q.result ≡ precinct_of a.s.now a.c a.at c.loop-p.p
found c =
    let a = c.args in
    let l = c.loop-p in
    precinct_seen a.s.now a.c a.at c.requires.0 l.p c.slice_size-size.ensures l.invariant.0 c.past_header.ensures c.precinct_in-q.ensures.is

-- what its test says
tested : (c : After-holds_with) →
    let a = c.args in
    c.holds_with.result ≡ test a.s.now a.c a.at a.b a.top c.loop-p.p
tested c =
    let a = c.args in
    let here : c.precinct_in-q.result ≡ precinct_of a.s.now a.c a.at c.loop-p.p =
    precinct_seen a.s.now a.c a.at c.requires.0 c.loop-p.p c.slice_size-size.ensures c.loop-p.invariant.0 c.past_header.ensures c.precinct_in-q.ensures.is in
    c.holds_with.ensures ∙ (λ i. holds a.c (here i) a.b && eqb (T a.c (here i) a.b) a.top)

-- ---- what is answered

pub loop-p-init : goal.loop-p-init
loop-p-init c = let a = c.args in
    (stands_first a.s.now a.c a.at c.requires.0, search_begins)

pub past_header-requires : goal.past_header-requires
past_header-requires c =
    let a = c.args in
    let l = c.loop-p in
    omega (arith, l.invariant.0, stands_inside a.s.now a.c a.at c.requires.0 l.p (below c), c.requires.0.short)

pub precinct_in-q-requires : goal.precinct_in-q-requires
precinct_in-q-requires c =
    let a = c.args in
    let w = c.requires.0 in
    let l = c.loop-p in
    let built = w.settled.shape in
    let head = head_found a.s.now a.c a.at w l.p (size_is (goal.at.precinct_in-q-requires c).In-loop-p) l.invariant.0 c.past_header.ensures in (
      w.settled,
      w.short,
      omega (arith, head, head_inside a.s.now a.c a.at w l.p (below (goal.at.precinct_in-q-requires c).In-loop-p)),
      rw (size_is (goal.at.precinct_in-q-requires c).In-loop-p) (slice_below a.c.shape built l.p (below (goal.at.precinct_in-q-requires c).In-loop-p)),
      rw (size_is (goal.at.precinct_in-q-requires c).In-loop-p) (number_below a.c.shape built l.p (below (goal.at.precinct_in-q-requires c).In-loop-p)),
    )

pub holds_with-requires : goal.holds_with-requires
holds_with-requires c =
    let a = c.args in
    let w = c.requires.0 in
    (w.settled, omega (arith, ap (λ (p : Precinct). p.row) (found c), row_below a.s.now a.c w.settled.shape a.at c.loop-p.p (below (goal.at.holds_with-requires c).In-loop-p)), c.requires.1)

pub returns-then-holds_with : goal.returns-then-holds_with
returns-then-holds_with c =
    search_stops c.loop-p.invariant.1 (below (goal.at.returns-then-holds_with c).In-loop-p) (sym (tested (goal.at.returns-then-holds_with c).After-holds_with) ∙ c.if-holds_with.true)

pub loop-p-preserved : goal.loop-p-preserved
loop-p-preserved c =
    let a = c.args in
    let l = c.loop-p in (
      ap (λ (p : Precinct). p.end) (found (goal.at.loop-p-preserved c).After-precinct_in-q) ∙ precinct_ends a.s.now a.c a.at c.requires.0 l.p (below (goal.at.loop-p-preserved c).In-loop-p),
      search_next l.invariant.1 (sym (tested (goal.at.loop-p-preserved c).After-holds_with) ∙ c.if-holds_with.false),
    )

pub returns : goal.returns
returns c = search_ends c.loop-p.invariant.1 (omega (arith, c.loop-p-test.false, c.precinct_count-count.ensures.0)) c.precinct_count-count.ensures.0
