-- `show::why::put_number_lines`: by what they tell. Assumes nothing.
use Rattle.show.proofs.Puts.{put_both}
use Rattle.show.proofs.why.put_number_lines.Goals as goal

pub returns-in-Bytes : goal.returns-in-Bytes
returns-in-Bytes c = rw c.in-Bytes.is (put_both c.put_line-end.ensures c.put_line.ensures)

pub returns-in-Cells : goal.returns-in-Cells
returns-in-Cells c = rw c.in-Cells.is (put_both c.put_line-end-in-Cells.ensures c.put_line-in-Cells.ensures)

pub returns-in-Values : goal.returns-in-Values
returns-in-Values c = rw c.in-Values.is (put_both c.put_found_line-end.ensures c.put_expected_line.ensures)
