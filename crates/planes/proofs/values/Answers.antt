-- `planes::values` meets its contract: Annex F is given what Annex E leaves. Assumes nothing.
use Rattle.planes.proofs.Laws.{filtered_small, held_ready, held_numbers, held_coloured}
use Rattle.planes.proofs.values.Goals as goal

pub colours-requires : goal.colours-requires
colours-requires c =
    let h = c.all_values.ensures in
    (held_ready c.requires.0 (filtered_small c.requires.0 c.args.kind) h, λ n. held_numbers n h, c.requires.2)

pub returns : goal.returns
returns c =
    held_coloured c.requires.0.built c.requires.2 c.args.kind c.all_values.ensures c.colours.ensures
