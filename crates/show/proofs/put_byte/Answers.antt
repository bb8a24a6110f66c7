-- `show::put_byte`: inside the buffer, or nothing. Assumes nothing.
use Rattle.show.proofs.Puts.{put_in, put_out}
use borrow.Author.Rules.{rules}
use Rattle.show.proofs.put_byte.Goals as goal

pub returns-then-at-out : goal.returns-then-at-out
returns-then-at-out c = put_in _ _ _ (search rules)

pub returns : goal.returns
returns c = put_out _ _ _ (search rules)
