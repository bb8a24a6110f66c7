-- `reader::place` meets its contract. Assumes nothing.
use mathlib.Core.Path.{◌∙◌}
use Rattle.planes.proofs.Laws.{numbers_held}
use Rattle.reader.proofs.Openings.{depths, colours}
use Rattle.reader.proofs.Shown.{numbered_ready}
use Rattle.reader.proofs.Decoded.{lent}
use Rattle.reader.proofs.Placing.{filled_ready, filled_numbers, placed_made}
use Rattle.reader.proofs.place.Goals as goal

pub fill-requires : goal.fill-requires
fill-requires c =
    let set = c.setting_of-c.ensures in
    let pre = c.requires in
    (lent pre.opened set pre.enough, rw set.is pre.walked)

pub values-requires : goal.values-requires
values-requires c =
    let pre = c.requires in
    let filled = rw c.setting_of-c.ensures.is at c.fill.ensures in
    rw c.shape_of-s.ensures (filled_ready pre.opened filled pre.enough, λ _. filled_numbers pre.opened filled, colours pre.opened.accepted.ranges)

pub outputs-requires : goal.outputs-requires
outputs-requires c =
    let pre = c.requires in
    let ranges = pre.opened.accepted.ranges in
    let filled = rw c.setting_of-c.ensures.is at c.fill.ensures in
    let made = rw c.shape_of-s.ensures at c.values.ensures in
    rw c.shape_of-s.ensures
    (numbered_ready (filled_ready pre.opened filled pre.enough) (colours ranges) made, λ _. numbers_held made, depths ranges, pre.room)

pub returns : goal.returns
returns c =
    let pre = c.requires in
    let filled = rw c.setting_of-c.ensures.is at c.fill.ensures in
    let made = rw c.shape_of-s.ensures at c.values.ensures in
    record {
      distances = placed_made pre.opened filled made (rw c.shape_of-s.ensures at c.outputs.ensures);
      same = made.same ∙ filled.same;
    }
