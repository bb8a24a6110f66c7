-- `reader::settings::setting_of` meets its contract. Assumes nothing.
use mathlib.Core.Path.{◌∙◌, ap}
use native.Mathlib.Omega.{arith}
use lib.Dec.{eqb}
use Rattle.layout.specs.Built.{Built}
use Rattle.layout.specs.Headers.{mode_bits, header_bytes_of}
use Rattle.reader.proofs.Openings.{fq_few, br_few}
use Rattle.reader.proofs.settings.setting_of.Goals.{After-shape_of-shape}
use Rattle.reader.proofs.settings.setting_of.Goals as goal

built : (c : After-shape_of-shape) → Built c.shape_of-shape.result
built c = rw c.shape_of-shape.ensures c.requires.1

pub bits_of_modes-modes-requires : goal.bits_of_modes-modes-requires
bits_of_modes-modes-requires c = built c

pub bytes_of_header-requires : goal.bytes_of_header-requires
bytes_of_header-requires c = built (goal.at.bytes_of_header-requires c).After-shape_of-shape

pub returns : goal.returns
returns c =
    let h = c.args.h in
    let shape = c.shape_of-shape.ensures in
    let modes = c.bits_of_modes-modes.ensures in
    let head = c.bytes_of_header.ensures.0 in
    record {
      is =
          λ i. record {
            shape = shape i;
            widths = c.of_picture.ensures.widths i;
            br = h.picture.br;
            fq = h.picture.fq;
            uniform = eqb h.picture.qpih 1;
            fs = eqb h.picture.fs 1;
            rm = eqb h.picture.rm 1;
            rl = eqb h.picture.rl 1;
            gains = h.gains;
            priorities = h.priorities;
            modes = (modes ∙ ap mode_bits shape) i;
            head = (head ∙ ap header_bytes_of shape) i;
          };
      settled =
          record {
            shape = built (goal.at.returns c).After-shape_of-shape;
            widths = c.of_picture.ensures.fit;
            br = br_few c.requires.0;
            fq = omega (arith, fq_few c.requires.0);
            gains = c.requires.0.gains;
            modes = modes;
            head = head;
          };
    }
