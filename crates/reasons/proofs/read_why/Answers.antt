-- `reasons::read_why` meets its contract. Assumes nothing.
use mathlib.Core.Path.{◌∙◌}
use mathlib.Core.List.{[], ◌∷◌}
use Rattle.whole.specs.Cells.{listed}
use Rattle.rows.specs.Rows.{Fine}
use Rattle.reasons.specs.Coarsest.{coarse_of}
use Rattle.reasons.proofs.Telling.{searched}
use Rattle.reasons.proofs.read_why.Goals as goal

pub coarsest_of-c0-requires : goal.coarsest_of-c0-requires
coarsest_of-c0-requires c = searched c.requires c.setting_of-c.ensures

pub coarsest_of-c1-requires : goal.coarsest_of-c1-requires
coarsest_of-c1-requires c = searched c.requires c.setting_of-c.ensures

pub coarsest_of-c2-requires : goal.coarsest_of-c2-requires
coarsest_of-c2-requires c = searched c.requires c.setting_of-c.ensures

pub coarsest_of-c3-requires : goal.coarsest_of-c3-requires
coarsest_of-c3-requires c = searched c.requires c.setting_of-c.ensures

pub returns : goal.returns
unfolding listed
returns c =
    let a = c.args in
    let h = a.h in
    let is = c.setting_of-c.ensures.is in
    let e0 = c.coarsest_of-c0.ensures ∙ (λ j. coarse_of a.stream.now (is j) h.slice 0) in
    let e1 = c.coarsest_of-c1.ensures ∙ (λ j. coarse_of a.stream.now (is j) h.slice 1) in
    let e2 = c.coarsest_of-c2.ensures ∙ (λ j. coarse_of a.stream.now (is j) h.slice 2) in
    let e3 = c.coarsest_of-c3.ensures ∙ (λ j. coarse_of a.stream.now (is j) h.slice 3) in
    λ i. record {
      verdict = Fine;
      place = h.picture.lcod;
      components = h.picture.nc;
      coarsest = e0 i ∷ e1 i ∷ e2 i ∷ e3 i ∷ [];
    }
