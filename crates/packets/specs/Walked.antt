-- The packets of a precinct that a reading walks, each with the lines that it has there, in the words of Table B.4: `packet_turn` comes to the slots in this
-- order and passes over one without lines, and the passes come to the candidates in this order and pass over one that is not there.
use Rattle.std.specs.Prelude.{ℕ, ◌+◌, ◌/◌, ◌%◌, List}
use Rattle.layout.specs.Precincts.{L0}
use Rattle.layout.specs.Packets.{Part, loop, when}
use Rattle.layout.specs.Slots.{slots, slot_type, slot_line, candidates}
use Rattle.packets.specs.declared.Setting.{Setting}
use Rattle.packets.specs.declared.Precinct.{Precinct}
use Rattle.packets.specs.Passes.{line}
use Rattle.packets.specs.Packets.{any_line}

unfoldable pub walked_lines : Setting → Precinct → ℕ → List Part
walked_lines c p slot =
    loop 0 (candidates c.shape slot) 1 (λ j.
    when (line c p slot j).present
    (record {
      line = slot_line slot + L0 c.shape (slot_type c.shape slot + j / c.shape.nc) (j % c.shape.nc);
      band = (line c p slot j).band;
    }))

unfoldable pub walked : Setting → Precinct → List (List Part)
walked c p = loop 0 (slots c.shape) 1 (λ k. when (any_line c p k (candidates c.shape k)) (walked_lines c p k))
