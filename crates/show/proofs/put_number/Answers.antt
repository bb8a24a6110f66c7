-- `show::put_number`: its digits. Assumes nothing.
use mathlib.Core.Path.{◌∙◌}
use Rattle.show.proofs.Digits.{few, spelt}
use Rattle.show.proofs.put_number.Goals as goal

pub returns : goal.returns
returns c =
    let d = c.decimal-k.ensures in
    let n = c.args.n in
    let k = c.decimal-k.result in
    let e = d.digits ∙ spelt 20 n k (few n k c.ranges.n.fits d.len) d.len in
    (rw e at c.put.ensures)
