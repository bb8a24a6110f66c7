-- `reader::decode_by` meets its contract. Assumes nothing.
use mathlib.Core.Path.{sym, ap, ◌∙◌}
use mathlib.Core.Bool.{cond}
use Prim.Native.Nat.{ℕ, ◌*◌}
use lib.Seq.{length-take-le}
use Rattle.reader.proofs.Leaving.{roomy, leaves, leaves_none}
use Rattle.reader.proofs.decode_by.Goals as goal

pub slice_bounds-decode-end : goal.slice_bounds-decode-end
slice_bounds-decode-end c =
    (roomy c.args.damaged c.args.placed c.args.h c.requires.1 c.requires.3 c.in-Ok.is).0

pub slice_bounds-decode-end-in-Ok : goal.slice_bounds-decode-end-in-Ok
slice_bounds-decode-end-in-Ok c =
    sym (length-take-le c.args.n c.args.samples.now (roomy c.args.damaged c.args.placed c.args.h c.requires.1 c.requires.3 c.in-Ok.is).0)

pub slice_bounds-decode-end-in-Ok-2 : goal.slice_bounds-decode-end-in-Ok-2
slice_bounds-decode-end-in-Ok-2 c =
    (roomy c.args.damaged c.args.placed c.args.h c.requires.1 c.requires.3 c.in-Ok.is).1

pub slice_bounds-decode-end-in-Ok-3 : goal.slice_bounds-decode-end-in-Ok-3
slice_bounds-decode-end-in-Ok-3 c =
    sym (length-take-le (2 * c.args.n) c.args.work.now (roomy c.args.damaged c.args.placed c.args.h c.requires.1 c.requires.3 c.in-Ok.is).1)

pub slice_bounds-decode-end-in-Ok-4 : goal.slice_bounds-decode-end-in-Ok-4
slice_bounds-decode-end-in-Ok-4 c =
    rw c.asked-marked.ensures (roomy c.args.damaged c.args.placed c.args.h c.requires.1 c.requires.3 c.in-Ok.is).2

pub slice_bounds-decode-end-in-Ok-5 : goal.slice_bounds-decode-end-in-Ok-5
slice_bounds-decode-end-in-Ok-5 c =
    sym (length-take-le c.asked-marked.result c.args.marks.now (rw c.asked-marked.ensures (roomy c.args.damaged c.args.placed c.args.h c.requires.1 c.requires.3 c.in-Ok.is).2))

pub slice_bounds-decode-end-in-Ok-6 : goal.slice_bounds-decode-end-in-Ok-6
slice_bounds-decode-end-in-Ok-6 c =
    rw c.asked-planed.ensures (roomy c.args.damaged c.args.placed c.args.h c.requires.1 c.requires.3 c.in-Ok.is).3

pub slice_bounds-decode-end-in-Ok-7 : goal.slice_bounds-decode-end-in-Ok-7
slice_bounds-decode-end-in-Ok-7 c =
    sym (length-take-le c.asked-planed.result c.args.distances.now (rw c.asked-planed.ensures (roomy c.args.damaged c.args.placed c.args.h c.requires.1 c.requires.3 c.in-Ok.is).3))

pub decode-requires : goal.decode-requires
decode-requires c =
    let fits = roomy c.args.damaged c.args.placed c.args.h c.requires.1 c.requires.3 c.in-Ok.is in (
      c.requires.0,
      length-take-le c.args.n c.args.samples.now fits.0 ∙ c.requires.1,
      length-take-le (2 * c.args.n) c.args.work.now fits.1 ∙ ap (λ (n : ℕ). 2 * n) c.requires.1,
      length-take-le c.asked-marked.result c.args.marks.now (rw c.asked-marked.ensures fits.2) ∙ c.asked-marked.ensures ∙ (λ i. cond c.args.damaged (c.requires.1 i) 0),
      length-take-le c.asked-planed.result c.args.distances.now (rw c.asked-planed.ensures fits.3) ∙ c.asked-planed.ensures ∙ (λ i. cond c.args.placed (c.requires.1 i) 0),
    )

pub returns-in-Ok : goal.returns-in-Ok
returns-in-Ok c =
    leaves c.in-Ok.is c.requires.1 c.asked-marked.ensures c.asked-planed.ensures (roomy c.args.damaged c.args.placed c.args.h c.requires.1 c.requires.3 c.in-Ok.is).1 c.decode.ensures

pub returns-in-Err : goal.returns-in-Err
returns-in-Err c = leaves_none c.in-Err.is c.refused.ensures
