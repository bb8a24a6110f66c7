-- `places::number_in` meets its contract: the number is far from the end of an i64. Assumes nothing.
use native.Mathlib.Omega.{arith}
use mir.Facts.{to_z_pos}
use Rattle.places.proofs.Laws.{number_small}
use Rattle.places.proofs.number_in.Goals as goal

pub overflow_cast-result : goal.overflow_cast-result
overflow_cast-result c = grind (arith, c.band_number.ensures, c.truncation_of-t.ensures, number_small c.args.c c.args.p c.args.b c.requires.0 {k = 63} (omega arith))

pub returns : goal.returns
returns c = grind (arith, to_z_pos, c.band_number.ensures, c.truncation_of-t.ensures, number_small c.args.c c.args.p c.args.b c.requires.0 {k = 63} (omega arith))
