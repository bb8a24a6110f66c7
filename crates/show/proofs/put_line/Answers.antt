-- `show::put_line`: one text after another. Assumes nothing.
use Rattle.show.proofs.Puts.{put_both}
use Rattle.show.proofs.put_line.Goals as goal

pub returns : goal.returns
returns c = put_both c.put_field-end.ensures c.put_byte.ensures
