use Prim.Native.Nat.{ℕ, ◌*◌}
use mathlib.Core.Path.{◌≡◌, refl, sym, ◌∙◌}
use mathlib.Core.Bool.{Bool, true, false, cond}
use native.Mathlib.Omega.{arith}
use borrow.Author.Rules.{rules}
use Rattle.rows.specs.Rows.{first, each}
use Rattle.rows.proofs.Tables.{each_none}
use Rattle.rows.proofs.Passing.{each_handed, each_passed}
use Rattle.layout.proofs.Sums.{modes_next}
use lib.Dec.{lit≤}
use Rattle.layout.specs.Bands.{NL, band_exists}
use Rattle.layout.specs.Headers.{modes}
use Rattle.slices.specs.Precinct.{mode_checks}
use Rattle.slices.proofs.PrecinctLaws.{top_check, top_checks, top_modes, free_modes, two_if}
use Rattle.slices.proofs.precincts.mode_rows.Goals as goal

-- two bits for a band that exists
twice : (b : Bool) {r : ℕ} → r ≡ cond b 1 0 → 2 * r ≡ cond b 2 0
twice true e = omega (arith, e)
twice false e = omega (arith, e)

pub returns-then-not-top : goal.returns-then-not-top
returns-then-not-top c =
    let a = c.args in
    sym ((λ i. first (each (NL a.c.shape) (mode_checks a.s.now a.c a.p.row a.p.column a.p.at (c.if-not-top.true i)))) ∙ free_modes a.s.now a.c a.p.row a.p.column a.p.at (NL a.c.shape))

pub loop-b-init : goal.loop-b-init
unfolding modes
loop-b-init c = (refl, lit≤ tt, sym (each_none _))

pub mode_row-requires : goal.mode_row-requires
mode_row-requires c =
    (c.requires.1, omega (arith, c.loop-b.invariant.1, c.loop-b-test.true, c.band_count-n.ensures.1))

pub overflow_add-bit : goal.overflow_add-bit
overflow_add-bit c =
    let l = c.loop-b in
    let one : c.from.result ≡ cond c.band_exists-exists.result 1 0 = search rules in
    omega (arith, l.invariant.1, c.loop-b-test.true, c.band_count-n.ensures.1, two_if c.band_exists-exists.result (twice c.band_exists-exists.result one))

pub loop-b-preserved : goal.loop-b-preserved
loop-b-preserved c =
    let l = c.loop-b in
    let a = c.args in
    let e = c.band_exists-exists.ensures in
    let one : c.from.result ≡ cond c.band_exists-exists.result 1 0 = search rules in
    let two = two_if (band_exists a.c.shape l.b) (twice (band_exists a.c.shape l.b) (one ∙ (λ i. cond (e i) 1 0))) in
    let row = c.mode_row.ensures ∙ (λ i. first (top_check a.s.now a.p.at (l.invariant.0 i) (e i))) in (
      omega (arith, two.0, l.invariant.0, modes_next a.c.shape l.b),
      omega (arith, l.invariant.1, two.1),
      each_passed l.b (top_checks a.s.now a.c.shape a.p.at) l.invariant.2 row c.branch-mode_row.ensures c.in_ok-mode_row.is,
    )

pub returns-in_err-mode_row : goal.returns-in_err-mode_row
returns-in_err-mode_row c =
    let l = c.loop-b in
    let a = c.args in
    let top = c.if-not-top.false in
    let n : c.band_count-n.result ≡ NL a.c.shape = c.band_count-n.ensures.0 in
    let row = c.mode_row.ensures ∙ (λ i. first (top_check a.s.now a.p.at (l.invariant.0 i) (c.band_exists-exists.ensures i))) in
    each_handed l.b (top_checks a.s.now a.c.shape a.p.at) l.invariant.2 row (NL a.c.shape) (omega (arith, n, c.loop-b-test.true)) c.branch-mode_row.ensures c.in_err-mode_row.is c.from_residual.ensures.1
    ∙ top_modes a.s.now a.c a.p.row a.p.column a.p.at (NL a.c.shape)
    ∙ (λ i. first (each (NL a.c.shape) (mode_checks a.s.now a.c a.p.row a.p.column a.p.at (sym top i))))

pub returns : goal.returns
returns c =
    let l = c.loop-b in
    let a = c.args in
    let top = c.if-not-top.false in
    let e : l.b ≡ NL a.c.shape = omega (arith, c.band_count-n.ensures.0) in
    sym l.invariant.2
    ∙ (λ i. first (each (e i) (top_checks a.s.now a.c.shape a.p.at)))
    ∙ top_modes a.s.now a.c a.p.row a.p.column a.p.at (NL a.c.shape)
    ∙ (λ i. first (each (NL a.c.shape) (mode_checks a.s.now a.c a.p.row a.p.column a.p.at (sym top i))))
