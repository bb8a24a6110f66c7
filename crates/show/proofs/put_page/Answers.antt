-- `show::put_page`: the answer's line and the components. Assumes nothing.
use Rattle.show.specs.Text.{page_text}
use Rattle.show.proofs.Puts.{put_both}
use Rattle.show.proofs.put_page.Goals as goal

pub returns : goal.returns
unfolding page_text
returns c = put_both c.put_answer-a.ensures c.put_components-done.ensures.put
