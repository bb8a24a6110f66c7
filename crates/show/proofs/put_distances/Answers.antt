-- `show::put_distances`: the components of that plane. Assumes nothing.
use Rattle.show.specs.Text.{distances_text}
use Rattle.show.proofs.put_distances.Goals as goal

pub returns : goal.returns
unfolding distances_text
returns c = c.put_components-done.ensures.put
