-- `planes::all_values` meets its contract. The invariant: the first i components are transformed, and no other cell has changed. Assumes nothing.
use Rattle.planes.proofs.Transforms.{first_ready, first_numbers, first_turn}
use Rattle.planes.proofs.all_values.Goals as goal

pub component_values-requires : goal.component_values-requires
component_values-requires c =
    let l = c.loop-i.invariant in
    let h = c.loop-i-test.true in
    (first_ready c.args.kind c.requires.0 l h, λ n. first_numbers c.args.kind c.requires.0 l h (c.requires.1 n))

pub loop-i-preserved : goal.loop-i-preserved
loop-i-preserved c =
    first_turn c.args.kind c.requires.0 c.loop-i.invariant c.loop-i-test.true c.component_values.ensures
