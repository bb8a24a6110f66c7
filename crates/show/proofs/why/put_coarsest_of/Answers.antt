-- `show::why::put_coarsest_of`: nothing, or its line. Assumes nothing.
use Rattle.show.proofs.Reasons.{no_line, one_line}
use borrow.Author.Rules.{rules}
use Rattle.show.proofs.why.put_coarsest_of.Goals as goal

pub returns-then-w-i : goal.returns-then-w-i
returns-then-w-i c =
    let a = c.args in
    no_line a.w a.i a.at _ (search rules)

pub returns : goal.returns
returns c =
    let a = c.args in
    one_line a.w a.i (search rules) c.put_coarsest_line.ensures
