-- `show::counted_text`: the page and where its bytes went, at the buffer's beginning. Assumes nothing.
use Rattle.show.specs.Text.{counted_text}
use Rattle.show.proofs.Puts.{put_both, put_leads}
use Rattle.show.proofs.counted_text.Goals as goal

pub returns : goal.returns
unfolding counted_text
returns c =
    let told = put_leads (put_both c.put_page-shown.ensures c.put_bytes.ensures) in
    record { prefix_len = told.0; leads = told.1 }
