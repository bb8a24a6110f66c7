-- `reader::read_in` meets its contract. Assumes nothing.
use mathlib.Core.Path.{sym, ap, ◌∙◌}
use Rattle.rows.proofs.Passing.{answered_ok, answered_err}
use Rattle.header.specs.Header.{reading_of}
use Rattle.reader.specs.Page.{page_refused}
use Rattle.reader.proofs.Leaving.{reads_none}
use Rattle.reader.proofs.read_in.Goals as goal

pub read_behind-requires : goal.read_behind-requires
read_behind-requires c =
    let r = reading_of c.args.stream.now in
    let both = answered_ok r.verdict r.header (sym c.read.ensures ∙ c.in-Ok.is) in
    (both.0, sym both.1)

pub returns-in-Err : goal.returns-in-Err
returns-in-Err c =
    let r = reading_of c.args.stream.now in
    let v = answered_err r.verdict r.header (sym c.read.ensures ∙ c.in-Err.is) in
    reads_none v (c.refused.ensures ∙ ap page_refused (sym v))
