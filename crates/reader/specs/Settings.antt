-- What Annexes B and C need of a header, and what a page needs of the lent buffers.
use Rattle.std.specs.Prelude.{List, [], ◌∷◌, ℕ, ◌*◌, eqb, get_or}
use Rattle.rows.specs.Rows.{check, ample}
use Rattle.rows.specs.declared.Check.{Check}
use Rattle.rows.specs.declared.Row.TheVariants.{Lent}
use Rattle.rows.specs.declared.Field.TheVariants.{Samples, Work}
use Rattle.bits.specs.Packet.{widths_for}
use Rattle.layout.specs.Cells.{samples}
use Rattle.layout.specs.Headers.{mode_bits, header_bytes_of}
use Rattle.header.specs.declared.header.Header.{Header}
use Rattle.shapes.specs.Shapes.{shape_of}
use Rattle.packets.specs.declared.Setting.{Setting}

-- Tables A.7, A.8 and A.10 to A.12: Qpih 1 selects the uniform quantiser
abbrev pub setting_of : Header → Setting
setting_of h =
    record {
      shape = shape_of h;
      widths = widths_for h.picture.wf h.picture.nc h.picture.lh;
      br = h.picture.br;
      fq = h.picture.fq;
      uniform = eqb h.picture.qpih 1;
      fs = eqb h.picture.fs 1;
      rm = eqb h.picture.rm 1;
      rl = eqb h.picture.rl 1;
      gains = h.gains;
      priorities = h.priorities;
      modes = mode_bits (shape_of h);
      head = header_bytes_of (shape_of h);
    }

-- B[i], a component's precision
abbrev pub depth_of : Header → ℕ → ℕ
depth_of h i = get_or h.depth i 0

-- N, the sum of width times height over the components
abbrev pub N : Header → ℕ
N h = samples (shape_of h) h.picture.nc

-- row 5: 'the page needs N sample cells of 16 bits and 2N work cells of 64 bits'; 'row 5 gives the slice header's place'
abbrev pub room_checks : Header → ℕ → ℕ → List Check
room_checks h lent_samples lent_work = check Lent h.slice Samples lent_samples (N h) ample ∷ check Lent h.slice Work lent_work (2 * N h) ample ∷ []
