-- `header::read`: the walk behind the opening, and the header by its verdict. Assumes nothing.
use mathlib.Core.Path.{◌≡◌, sym, subst, ap, ◌∙◌}
use native.Mathlib.Omega.{arith}
use Rattle.std.specs.Prelude.{Ok}
use Rattle.std.specs.Result.{result_from_control_flow}
use Rattle.rows.specs.Rows.{answered, Fine}
use Rattle.rows.proofs.Passing.{handed_on}
use Rattle.picture.specs.Opening.{Opened, picture_place}
use Rattle.picture.specs.Picture.{picture_at}
use Rattle.picture.specs.declared.opening.Opening.{Opening}
use Rattle.picture.proofs.Laws.{opened}
use Rattle.header.specs.Header.{walk_by, walk_of, header_by, header_in, reading_of}
use Rattle.header.proofs.Whole.{opening_fine}
use Rattle.header.proofs.read.Goals as goal
use Rattle.header.proofs.read.Goals.{After-walk_by-w}

-- the walk is the definition's
walked : (c : After-walk_by-w) → c.walk_by-w.result ≡ walk_of c.args.stream.now
walked c =
    let s = c.args.stream.now in
    let o = c.read-o.ensures.value in
    c.walk_by-w.ensures.0 ∙ (λ i. walk_by (o i).verdict s (o i).picture (o i).place)

-- where the walk is fine, the opening is accepted
fine : (c : After-walk_by-w) → c.walk_by-w.result.verdict ≡ Fine → Opened c.args.stream.now c.read-o.result.picture c.read-o.result.place
fine c e =
    let s = c.args.stream.now in
    let o = c.read-o.ensures.value in
    let r = c.read-o.result in
    let v = opening_fine r.verdict s r.picture r.place ((λ i. (sym c.walk_by-w.ensures.0 i).verdict) ∙ e) in
    subst (λ (o : Opening). Opened s o.picture o.place) (sym o) (opened s ((λ i. (sym o i).verdict) ∙ v))

pub walk_by-w-requires : goal.walk_by-w-requires
walk_by-w-requires c =
    λ e.
    let s = c.args.stream.now in
    let o = c.read-o.ensures.value in
    subst (λ (o : Opening). Opened s o.picture o.place) (sym o) (opened s ((λ i. (sym o i).verdict) ∙ e))

pub returns-in_err-w : goal.returns-in_err-w
unfolding reading_of
returns-in_err-w c =
    let v = (λ i. (sym (walked (goal.at.returns-in_err-w c).After-walk_by-w) i).verdict) ∙ c.branch-w.ensures ∙ ap result_from_control_flow c.in_err-w.is in
    handed_on c.branch-w.ensures c.in_err-w.is c.from_residual.ensures.1 ∙ (λ i. answered (sym v i) (reading_of c.args.stream.now).header)

pub read-requires : goal.read-requires
read-requires c =
    let f = fine (goal.at.read-requires c).After-walk_by-w (c.branch-w.ensures ∙ ap result_from_control_flow c.in_ok-w.is) in
    let i = c.walk_by-w.ensures.1 in
    (f.built, omega (arith, f.short, i.cdt), omega (arith, f.short, i.wgt))

pub returns : goal.returns
unfolding reading_of
returns c =
    let s = c.args.stream.now in
    let o = c.read-o.ensures.value in
    let w = walked (goal.at.returns c).After-walk_by-w in
    let v : (walk_of s).verdict ≡ Fine = (λ i. (sym w i).verdict) ∙ c.branch-w.ensures ∙ ap result_from_control_flow c.in_ok-w.is in
    let h = c.read.ensures ∙ (λ i. header_in s (o i).picture (w i).seen (w i).at) in
    ap Ok h ∙ (λ i. answered (sym v i) (header_by (sym v i) s (picture_at s (picture_place s)) (walk_of s)))
