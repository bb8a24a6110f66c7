-- `show::why::put_check`: its field, and its numbers. Assumes nothing.
use Rattle.show.proofs.Puts.{put_both}
use Rattle.show.proofs.why.put_check.Goals as goal

pub returns : goal.returns
returns c =
    let numbers = rw (c.tells_of.ensures, c.are_codes.ensures) at c.put_number_lines.ensures in
    put_both c.put_field_line-end.ensures numbers
