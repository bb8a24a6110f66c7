-- `show::why::put_expected`: by the two tests. Assumes nothing.
use Rattle.show.proofs.Puts.{put_both}
use Rattle.show.proofs.Reasons.{one_value, no_most, both_ends}
use Rattle.show.proofs.why.put_expected.Goals as goal

pub returns-then-least-most : goal.returns-then-least-most
returns-then-least-most c =
    let a = c.args in
    one_value a.code a.least a.most c.if-least-most.true c.put_numeral.ensures

pub returns-then-most : goal.returns-then-most
returns-then-most c =
    let a = c.args in
    let text = put_both c.put-from.ensures c.put_numeral-then-most.ensures in
    no_most a.code a.least a.most c.if-least-most.false c.if-most.true text

pub returns : goal.returns
returns c =
    let a = c.args in
    let text = put_both c.put_numeral-to.ensures (put_both c.put-end.ensures c.put_numeral-2.ensures) in
    both_ends a.code a.least a.most c.if-least-most.false c.if-most.false text
