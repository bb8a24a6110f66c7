-- `packets::subpackets` meets its contract. Assumes nothing.
use mathlib.Core.Path.{subst}
use Rattle.counts.specs.Lines.{Founded}
use Rattle.packets.proofs.Laws.{counts_founded}
use Rattle.packets.proofs.Stretches.{working_still}
use Rattle.packets.proofs.Pieces.{content_holds, passed_on}
use Rattle.packets.proofs.subpackets.Goals as goal

pub after_counts-requires : goal.after_counts-requires
after_counts-requires c =
    let a = c.args in
    let counted = c.counts_of-line.ensures in (
      working_still c.requires.0 c.counts_of-line.auto.cells,
      c.requires.1,
      c.requires.2 c.in_ok-v.was,
      subst (Founded a.c.br) (λ i. (counted i).0) (counts_founded a.s.now a.c a.p a.slot _ _ _ a.cells.now),
    )

pub bytes_of-requires : goal.bytes_of-requires
bytes_of-requires c =
    let a = c.args in
    content_holds a.s.now a.c a.p a.slot a.parts.at a.cells.now c.requires.1 c.counts_of-line.ensures c.after_counts.ensures c.in_ok-content.was

pub returns : goal.returns
returns c =
    let a = c.args in
    passed_on a.s.now a.c a.p a.slot a.parts.at a.cells.now c.requires.1 c.counts_of-line.ensures c.after_counts.ensures
    c.in_ok-v.was c.in_ok-content.was c.bytes_of.ensures
