-- `show::why::put_expected_line`: one text after another. Assumes nothing.
use Rattle.show.proofs.Puts.{put_both}
use Rattle.show.proofs.why.put_expected_line.Goals as goal

pub returns : goal.returns
returns c = put_both c.put-range.ensures (put_both c.put_expected-end.ensures c.put_byte.ensures)
