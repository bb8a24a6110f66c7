-- `reader::judging::judge` meets its contract. Assumes nothing.
use mathlib.Core.Path.{refl, sym, ◌∙◌}
use Rattle.rows.proofs.Passing.{answered_ok, answered_err}
use Rattle.header.specs.Header.{reading_of}
use Rattle.header.proofs.Whole.{refused_header}
use Rattle.reader.proofs.Judgement.{judges_none}
use Rattle.reader.proofs.judging.judge.Goals as goal

pub judge_behind-requires : goal.judge_behind-requires
judge_behind-requires c =
    let r = reading_of c.args.stream.now in
    let both = answered_ok r.verdict r.header (sym c.read.ensures ∙ c.in-Ok.is) in
    (both.0, sym both.1)

pub returns-in-Err : goal.returns-in-Err
returns-in-Err c =
    let r = reading_of c.args.stream.now in
    let v = answered_err r.verdict r.header (sym c.read.ensures ∙ c.in-Err.is) in
    judges_none v (sym v) (c.none.ensures ∙ sym (refused_header c.args.stream.now v)) refl
