-- `reader::mark` meets its contract. Assumes nothing.
use mathlib.Core.Path.{◌∙◌}
use Rattle.reader.proofs.Openings.{colours}
use Rattle.reader.proofs.Marking.{numbers_ready, numbers_hold, marks_ready, marks_made}
use Rattle.reader.proofs.mark.Goals as goal

pub lost_numbers-requires : goal.lost_numbers-requires
lost_numbers-requires c =
    let pre = c.requires in
    rw c.shape_of-s.ensures (pre.built, pre.enough)

pub values-requires : goal.values-requires
values-requires c =
    let pre = c.requires in
    let lost = rw c.shape_of-s.ensures at c.lost_numbers.ensures in
    rw c.shape_of-s.ensures (numbers_ready pre.built pre.enough lost, λ _. numbers_hold pre.built pre.enough lost, colours pre.ranges)

pub marks-requires : goal.marks-requires
marks-requires c =
    let pre = c.requires in
    let lost = rw c.shape_of-s.ensures at c.lost_numbers.ensures in
    rw c.shape_of-s.ensures (marks_ready pre.built pre.enough lost (colours pre.ranges) (rw c.shape_of-s.ensures at c.values.ensures), pre.room)

pub returns : goal.returns
returns c =
    let pre = c.requires in
    let lost = rw c.shape_of-s.ensures at c.lost_numbers.ensures in
    let made = rw c.shape_of-s.ensures at c.values.ensures in
    record {
      marks = marks_made pre.built pre.enough lost (colours pre.ranges) made (rw c.shape_of-s.ensures at c.marks.ensures);
      same = made.same ∙ lost.same;
    }
