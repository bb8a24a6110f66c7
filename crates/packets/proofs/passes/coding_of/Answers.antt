-- `packets::passes::coding_of` meets its contract. Assumes nothing.
use mathlib.Core.Path.{ap, ◌∙◌}
use Prim.Native.Nat.{◌/◌}
use lib.Dec.{eqb}
use Rattle.packets.specs.Passes.{mode_of}
use Rattle.packets.proofs.passes.coding_of.Goals as goal

pub returns : goal.returns
returns c =
    let d = c.mode_of-d.ensures.value in
    let a = c.args in
    let mode = c.mode_by.ensures ∙ ap (mode_of a.raw) d in
    λ i. record { mode = mode i; flags = eqb (d i / 2) 1; run = a.c.rm; fs = a.c.fs; t = c.truncation_of.ensures.value i; br = a.c.br }
