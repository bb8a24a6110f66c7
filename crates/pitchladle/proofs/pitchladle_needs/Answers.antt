-- `pitchladle::pitchladle_needs`: the shape of an accepted header is built. Assumes nothing.
use mathlib.Core.Path.{sym, ◌∙◌}
use native.Mathlib.Nat.{le_refl}
use Rattle.layout.specs.Cells.{samples}
use Rattle.rows.proofs.Passing.{answered_ok, answered_err}
use Rattle.header.specs.Header.{reading_of}
use Rattle.shapes.proofs.Accepted.{read_built}
use Rattle.pitchladle.specs.Exported.{needed_by, needed}
use Rattle.pitchladle.proofs.pitchladle_needs.Goals as goal

pub samples_before-requires : goal.samples_before-requires
samples_before-requires c = rw c.shape_of-s.ensures (read_built c.args.stream.now (sym c.read.ensures ∙ c.in-Ok.is), le_refl _)

pub returns-in-Ok : goal.returns-in-Ok
unfolding needed
returns-in-Ok c =
    let r = reading_of c.args.stream.now in
    let both = answered_ok r.verdict r.header (sym c.read.ensures ∙ c.in-Ok.is) in
    c.samples_before.ensures.0 ∙ (λ i. samples (c.shape_of-s.ensures i) (c.shape_of-s.ensures i).nc) ∙ (λ i. needed_by (sym both.0 i) (sym both.1 i))

pub returns-in-Err : goal.returns-in-Err
unfolding needed
returns-in-Err c =
    let r = reading_of c.args.stream.now in
    λ i. needed_by (sym (answered_err r.verdict r.header (sym c.read.ensures ∙ c.in-Err.is)) i) r.header
