-- `lost::rows_of` meets its contract. Assumes nothing.
use native.Mathlib.Omega.{arith}
use Rattle.damage.proofs.LostRows.{tall_small, top_small, rows_are}
use Rattle.damage.proofs.lost.rows_of.Goals as goal

pub overflow_mul-top : goal.overflow_mul-top
overflow_mul-top c =
    omega (arith, top_small c.args.s c.requires.0 c.args.t c.requires.2 c.power.result c.component_of-c.result.sy c.power.ensures.few)

pub overflow_add-top : goal.overflow_add-top
overflow_add-top c =
    let p = c.power in
    let d = c.component_of-c.result.sy in
    omega (arith, tall_small c.args.s c.requires.0 c.args.t c.requires.2 p.result d p.ensures.few, top_small c.args.s c.requires.0 c.args.t c.requires.2 p.result d p.ensures.few)

pub returns : goal.returns
returns c =
    rows_are c.args.s c.requires.0 c.args.i c.args.t c.requires.1 c.component_of-c.ensures.is c.power.ensures.is c.min.ensures c.min-2.ensures
