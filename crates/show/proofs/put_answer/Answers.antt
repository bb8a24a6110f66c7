-- `show::put_answer`: one text after another. Assumes nothing.
use Rattle.show.proofs.Puts.{put_both}
use Rattle.show.proofs.put_answer.Goals as goal

pub returns : goal.returns
returns c = put_both c.put_field-end.ensures c.put_line.ensures
