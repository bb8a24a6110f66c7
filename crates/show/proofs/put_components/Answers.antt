-- `show::put_components`: one by one. Assumes nothing.
use Rattle.show.specs.Planes.{kind_of, cells_of}
use Rattle.show.specs.Text.{components}
use Rattle.show.proofs.Puts.{shown_none, shown_component}
use Rattle.show.proofs.put_components.Goals as goal

pub loop-i-init : goal.loop-i-init
unfolding components
loop-i-init c = shown_none _ _

pub loop-i-preserved : goal.loop-i-preserved
loop-i-preserved c =
    let a = c.args in
    shown_component a.page (kind_of a.plane) (cells_of a.plane) c.loop-i.i c.loop-i.invariant c.put_component-done.ensures
