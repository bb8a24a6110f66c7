-- `show::why::put_coarsest_line`: one text after another. Assumes nothing.
use Rattle.show.proofs.Puts.{put_both}
use Rattle.show.proofs.why.put_coarsest_line.Goals as goal

pub returns : goal.returns
returns c =
    let behind = put_both c.put_field-c.ensures c.put_line.ensures in
    put_both c.put_field-a.ensures (put_both c.put_field-b.ensures behind)
