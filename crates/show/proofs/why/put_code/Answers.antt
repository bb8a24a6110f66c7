-- `show::why::put_code`: the digits of the last sixteen bits. Assumes nothing.
use mathlib.Core.Path.{◌∙◌}
use Rattle.show.proofs.Puts.{put_both}
use Rattle.show.proofs.Reasons.{code_digits}
use Rattle.show.proofs.why.put_code.Goals as goal

pub returns : goal.returns
returns c =
    let hex = c.hex-k in
    let n = c.args.n in
    let e = hex.ensures.digits ∙ code_digits n hex.result hex.ensures.len in
    put_both c.put-end.ensures (rw e at c.put.ensures)
