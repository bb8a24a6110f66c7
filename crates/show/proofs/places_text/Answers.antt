-- `show::places_text`: the page and the distances, at the buffer's beginning. Assumes nothing.
use Rattle.show.specs.Text.{places_text}
use Rattle.show.proofs.Puts.{put_both, put_leads}
use Rattle.show.proofs.places_text.Goals as goal

pub returns : goal.returns
unfolding places_text
returns c =
    let told = put_leads (put_both c.put_page-shown.ensures c.put_distances.ensures) in
    record { prefix_len = told.0; leads = told.1 }
