-- `packets::passes::marks_at` meets its contract: a band without flags has none, whether the line is there or not. Assumes nothing.
use mathlib.Core.Path.{◌∙◌, ap, subst}
use native.Mathlib.Omega.{arith}
use Rattle.layout.specs.declared.Line.{Line}
use Rattle.layout.specs.Slots.{line as layout-line, line_at}
use Rattle.packets.specs.Passes.{line}
use Rattle.packets.specs.Precincts.{D}
use Rattle.packets.specs.Steps.{IsMarks}
use Rattle.packets.proofs.Lines.{lies_read}
use Rattle.packets.proofs.LinePasses.{flags_raw, flags_plain}
use Rattle.packets.proofs.passes.marks_at.Goals as goal

pub returns-then-raw : goal.returns-then-raw
returns-then-raw c =
    let a = c.args in
    record { value = flags_raw a.s.now a.c a.p (line a.c a.p a.slot a.j) c.if-raw.true; small = omega arith }

pub marks_of-requires : goal.marks_of-requires
marks_of-requires c =
    let w = c.requires in
    (w.0.slotted.settled, omega (arith, w.0.at, w.0.end, w.0.short), lies_read w.0.slotted w.1 c.candidate.ensures)

pub returns-then-mode_of-eq1 : goal.returns-then-mode_of-eq1
returns-then-mode_of-eq1 c =
    let a = c.args in
    subst (λ (l : Line). IsMarks a.s.now a.c a.p a.raw l c.marks_of.result) c.candidate.ensures c.marks_of.ensures

pub returns : goal.returns
unfolding line_at layout-line
returns c =
    let a = c.args in
    record {
      value = flags_plain a.s.now a.c a.p (line a.c a.p a.slot a.j) a.raw
          (c.mode_of.ensures.value ∙ ap (D a.s.now a.c a.p) c.candidate_band-b.ensures.0) c.if-mode_of-eq1.false;
      small = omega arith;
    }
