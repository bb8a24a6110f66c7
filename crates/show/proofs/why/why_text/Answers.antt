-- `show::why::why_text`: the answer and the reason, at the buffer's beginning. Assumes nothing.
use Rattle.show.specs.Why.{why_text}
use Rattle.show.proofs.Puts.{put_both, put_leads}
use Rattle.show.proofs.why.why_text.Goals as goal

pub returns : goal.returns
unfolding why_text
returns c =
    let answer = rw c.answer.ensures at c.put_answer-end.ensures in
    let told = put_leads (put_both answer c.put_reason.ensures) in
    record { prefix_len = told.0; leads = told.1 }
