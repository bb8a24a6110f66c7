-- `picture::opening::Opening::read`: the opening's verdict is that of both tables, at the place that Lcap gives. Assumes nothing.
use Prim.Native.Nat.{◌+◌}
use mathlib.Core.Path.{◌≡◌, ◌∙◌}
use native.Mathlib.Omega.{arith}
use Rattle.rows.specs.Rows.{first}
use Rattle.rows.proofs.Tables.{joined}
use Rattle.picture.specs.Opening.{start_checks, picture_place, picture_checks}
use Rattle.picture.specs.Picture.{picture_at}
use Rattle.picture.proofs.opening.Opening.read.Goals as goal

pub returns : goal.returns
returns c =
    let s = c.args.s.now in
    let p : 4 + c.u16_at-place.result ≡ picture_place s = λ i. 4 + c.u16_at-place.ensures.value i in
    let later = c.picture_row.ensures ∙ (λ i. first (picture_checks s (p i))) in
    record {
      value =
          λ i.
          record {
            verdict = joined (start_checks s) (picture_checks s (picture_place s)) c.and.ensures c.start_row.ensures later i;
            place = p i;
            picture = (c.read-picture.ensures ∙ (λ j. picture_at s (p j))) i;
          };
      below = omega (arith, c.u16_at-place.ensures.below);
    }
