-- `reader::judging::judge_lent` meets its contract. Assumes nothing.
use mathlib.Core.Path.{refl, sym, ap, ◌∙◌}
use Prim.Native.Nat.{ℕ, ◌*◌}
use lib.Seq.{length-take-le}
use Rattle.reader.proofs.Leaving.{work_back}
use Rattle.reader.proofs.Judgement.{behind_none}
use Rattle.reader.proofs.judging.judge_lent.Goals as goal

pub slice_bounds-judge_slices-end : goal.slice_bounds-judge_slices-end
slice_bounds-judge_slices-end c = c.requires.3 c.in-Ok.is

pub slice_bounds-judge_slices-end-in-Ok : goal.slice_bounds-judge_slices-end-in-Ok
slice_bounds-judge_slices-end-in-Ok c =
    sym (length-take-le (2 * c.args.n) c.args.work.now (c.requires.3 c.in-Ok.is))

pub judge_slices-requires : goal.judge_slices-requires
judge_slices-requires c =
    (c.requires.0, length-take-le (2 * c.args.n) c.args.work.now (c.requires.3 c.in-Ok.is) ∙ ap (λ (n : ℕ). 2 * n) c.requires.1)

pub returns-in-Ok : goal.returns-in-Ok
returns-in-Ok c =
    let fine = c.in-Ok.is in
    let judged = c.judge_slices.ensures in
    (rw fine judged.0, rw fine (work_back c.args.work.now c.requires.1 (c.requires.3 fine) judged.1))

pub returns-in-Err : goal.returns-in-Err
returns-in-Err c = behind_none _ _ c.in-Err.is refl refl refl
