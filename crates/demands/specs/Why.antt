-- Document 02, C-19: 'The rule printed is really broken by the bytes there, and nothing earlier in the checking order is broken.' `judge` answers the verdict that
-- these speak of, in each of the four ways of reading; `why` the plain one's.
use Rattle.std.specs.Prelude.{Bool, cond, List, ◌++◌, ◌↔◌, ◌≡◌, ℕ}
use Rattle.rows.specs.Rows.{answer, place_of, Fine, Refused, Verdict}
use Rattle.rows.specs.declared.Check.{Check}
use Rattle.rows.specs.Tables.{Unbroken, FirstBroken}
use Rattle.header.specs.Table.{header_checks}
use Rattle.slices.specs.Table.{stream_checks}
use Rattle.slices.specs.Walk.{walk_table}
use Rattle.reader.specs.declared.page.Page.{Page}
use Rattle.reader.specs.Page.{header_of}
use Rattle.reader.specs.Places.{room_checks_by}
use Rattle.demands.specs.Stored.{setting, beginning}

-- Document 01's refusal table for a reading of the stream s, where a sample cells, w work cells and, by its way of reading, m marks and d distances are lent: the
-- header up to and with the first slice marker; row 5 there; and the slices with the end of the stream, or of a damaged page the walk by declared lengths
unfoldable pub table_by : Bool → Bool → List ℕ → ℕ → ℕ → ℕ → ℕ → List Check
table_by damaged placed s a w m d =
    header_checks s
    ++ (room_checks_by damaged placed (header_of s) a w m d
    ++ cond damaged (walk_table s (setting s) (header_of s).slice) (stream_checks s (setting s) (beginning s)))

-- v is the reason by the table t, and r the record of the reading with the same cells, which ends at `end` where it accepts
pub record Reason (t : List Check) (v : Verdict) (end : ℕ) (r : Page) : Type 0 where
  -- none is given exactly where no check of the table is broken
  pub accepted : (v ≡ Fine) ↔ Unbroken t
  -- the check that is given stands in the table, its value found is not from its least to its most, and each check before it holds
  pub refused : (c : Check) → v ≡ Refused c → FirstBroken t c
  -- number and place are those of the reading
  pub answer_is : r.answer ≡ answer v
  pub place_is : r.place ≡ place_of v end
