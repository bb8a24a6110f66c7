-- `layout::precincts::column_of` meets its contract. Assumes nothing.
use mathlib.Core.Path.{◌≡◌, sym, ap, ◌∙◌}
use mathlib.Core.Bool.{cond}
use Prim.Native.Nat.{ℕ, ◌+◌, ◌*◌, ◌-◌, ◌%◌, ◌<◌, ◌≤◌}
use native.Mathlib.Nat.{mod-le}
use native.Mathlib.Omega.{arith}
use borrow.Author.Tests.{lt-ltb, le-ltb}
use Rattle.layout.specs.Precincts.{Cs, Npx, Wp}
use Rattle.layout.proofs.Columns.{column_inside}
use Rattle.layout.proofs.precincts.column_of.Goals as goal

pub returns-then-column-n : goal.returns-then-column-n
unfolding Wp
returns-then-column-n c =
    let s = c.args.s in
    let w = c.column_width-cs.ensures in
    let x : c.product-x.result ≡ c.args.column * Cs s = c.product-x.ensures.0 ∙ ap (λ (k : ℕ). c.args.column * k) w.is in
    let test : c.args.column < Npx s - 1 = omega (arith, c.if-column-n.true, c.precinct_columns-n.ensures.0) in
    record {
      is =
          λ i.
          record {
            x = x i;
            width = (w.is ∙ (λ j. cond (sym (lt-ltb c.args.column (Npx s - 1) test) j) (Cs s) ((s.wf - 1) % Cs s + 1))) i;
          };
      small = omega (arith, x, column_inside s c.requires.0 c.args.column c.requires.1, c.requires.0.narrow);
      narrow = w.few;
    }

pub returns : goal.returns
unfolding Wp
returns c =
    let s = c.args.s in
    let w = c.column_width-cs.ensures in
    let x : c.product-x.result ≡ c.args.column * Cs s = c.product-x.ensures.0 ∙ ap (λ (k : ℕ). c.args.column * k) w.is in
    let test : Npx s - 1 ≤ c.args.column = omega (arith, c.if-column-n.false, c.precinct_columns-n.ensures.0) in
    record {
      is =
          λ i.
          record {
            x = x i;
            width =
                (ap (λ (k : ℕ). (s.wf - 1) % k + 1) w.is
                ∙ (λ j. cond (sym (le-ltb c.args.column (Npx s - 1) test) j) (Cs s) ((s.wf - 1) % Cs s + 1))) i;
          };
      small = omega (arith, x, column_inside s c.requires.0 c.args.column c.requires.1, c.requires.0.narrow);
      narrow = omega (arith, mod-le (s.wf - 1) c.column_width-cs.result, c.requires.0.narrow);
    }
