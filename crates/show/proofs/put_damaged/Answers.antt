-- `show::put_damaged`: the page, and its marks. Assumes nothing.
use Rattle.show.specs.Text.{damaged_text}
use Rattle.show.proofs.Puts.{put_both}
use Rattle.show.proofs.put_damaged.Goals as goal

pub returns : goal.returns
unfolding damaged_text
returns c = put_both c.put_page-a.ensures c.put_components-done.ensures.put
