-- `wavelet::lines::pair_at` meets its contract. Assumes nothing.
use mathlib.Core.Path.{refl}
use mir.ValLaws.{to_z-of_z}
use Rattle.whole.proofs.Machine.{back64}
use Rattle.wavelet.proofs.Tame.{tame}
use Rattle.wavelet.proofs.Pairs.{pair_onto, odd_small}
use Rattle.wavelet.proofs.lines.pair_at.Goals as goal

pub odd_of-requires : goal.odd_of-requires
odd_of-requires c =
    rw (back64 c.even_of-even.result c.even_of-even.type_inv, c.even_of-even.ensures)
    (simp (to_z-of_z, back64, c.ranges.high, c.ranges.before, c.ranges.next, c.even_of-arg-1.given) (odd_small c.requires.small_pair (tame c.args.kind)))

pub returns : goal.returns
returns c =
    let even = c.even_of-even in
    rw (back64 c.odd_of.result c.odd_of.type_inv, c.odd_of.ensures, back64 even.result even.type_inv, even.ensures)
    (simp (to_z-of_z, back64, c.ranges.high, c.ranges.before, c.ranges.next, c.even_of-arg-1.given)
    (refl, pair_onto c.args.cells.now c.args.h c.args.t _ _ c.requires.t_nonzero.0 c.requires.t_nonzero.1))
