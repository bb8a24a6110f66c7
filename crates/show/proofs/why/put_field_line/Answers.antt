-- `show::why::put_field_line`: the letters of the name. Assumes nothing.
use Rattle.show.proofs.Puts.{put_both}
use Rattle.show.proofs.why.put_field_line.Goals as goal

pub returns : goal.returns
returns c =
    let name = rw (c.as_bytes.ensures.value, c.name.ensures) at c.put-end.ensures in
    put_both c.put-start.ensures (put_both name c.put_byte.ensures)
