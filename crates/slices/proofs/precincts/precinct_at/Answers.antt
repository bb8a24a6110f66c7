use Prim.Native.Nat.{◌+◌}
use native.Mathlib.Omega.{arith}
use Rattle.slices.proofs.PrecinctLaws.{head_most}
use Rattle.slices.proofs.precincts.precinct_at.Goals as goal

pub overflow_add-body : goal.overflow_add-body
overflow_add-body c = omega (arith, head_most c.requires.0, c.requires)

pub overflow_add-result : goal.overflow_add-result
overflow_add-result c = omega (arith, head_most c.requires.0, c.requires, c.u24_at.ensures.below)

pub returns : goal.returns
returns c =
    let a = c.args in
    let l = c.u24_at.ensures in
    record {
      is = λ i. record { row = a.row; column = a.column; at = a.at; end = a.at + c.requires.0.head i + l.value i; q = c.u8_at.ensures.value i; r = c.u8_at-2.ensures.value i };
      small = omega (arith, head_most c.requires.0, c.requires, l.below);
    }
