-- `show::put_field`: one text after another. Assumes nothing.
use Rattle.show.proofs.Puts.{put_both}
use Rattle.show.proofs.put_field.Goals as goal

pub returns : goal.returns
returns c = put_both c.put-end.ensures c.put_number.ensures
