-- Document 01's refusal table for a reading of the stream s, where `a` sample cells and `w` work cells are lent: every check, in the order in which the reading
-- comes to it. 'Checking runs from the front. The first field at which a row applies decides.'
use Rattle.std.specs.Prelude.{List, ◌++◌, ℕ}
use Rattle.rows.specs.declared.Check.{Check}
use Rattle.header.specs.Table.{header_checks}
use Rattle.slices.specs.Table.{stream_checks}
use Rattle.reader.specs.Settings.{room_checks}
use Rattle.reader.specs.Page.{header_of}
use Rattle.demands.specs.Stored.{setting, beginning}

-- the header up to and with the first slice marker; row 5 there; the slices, the end marker, and nothing behind it
unfoldable pub table_of : List ℕ → ℕ → ℕ → List Check
table_of s a w = header_checks s ++ (room_checks (header_of s) a w ++ stream_checks s (setting s) (beginning s))
