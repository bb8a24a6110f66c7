-- `show::put_heading`: one text after another. Assumes nothing.
use Rattle.show.proofs.Puts.{put_both}
use Rattle.show.proofs.put_heading.Goals as goal

pub returns : goal.returns
returns c =
    let distance = put_both c.put_field-d.ensures c.put_byte.ensures in
    let height = put_both c.put_field-c.ensures distance in
    put_both c.put_field-a.ensures (put_both c.put_field-b.ensures height)
