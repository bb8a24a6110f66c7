-- `show::damaged_text`: the page and the marks, at the buffer's beginning. Assumes nothing.
use Rattle.show.proofs.Puts.{put_leads}
use Rattle.show.proofs.damaged_text.Goals as goal

pub returns : goal.returns
returns c =
    let told = put_leads c.put_damaged.ensures in
    record { prefix_len = told.0; leads = told.1 }
