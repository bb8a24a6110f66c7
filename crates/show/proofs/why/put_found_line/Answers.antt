-- `show::why::put_found_line`: one text after another. Assumes nothing.
use Rattle.show.proofs.Puts.{put_both}
use Rattle.show.proofs.why.put_found_line.Goals as goal

pub returns : goal.returns
returns c = put_both c.put-value.ensures (put_both c.put_numeral-end.ensures c.put_byte.ensures)
