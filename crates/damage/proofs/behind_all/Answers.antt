-- `behind_all` meets its contract. Assumes nothing.
use mathlib.Core.Path.{refl, ap, ◌∙◌}
use native.Mathlib.Omega.{arith}
use Rattle.pieces.specs.Pieces.{Markers, bytes_by, plus, all}
use Rattle.pieces.proofs.Laws.{piece_once}
use Rattle.damage.proofs.behind_all.Goals as goal

pub and-whole-requires : goal.and-whole-requires
and-whole-requires c = omega (arith, ap all c.of_markers.ensures, piece_once Markers 2, c.requires.1)

pub returns : goal.returns
returns c =
    let a = c.args in
    record {
      verdict = c.end_row-v.ensures;
      at = refl;
      tops = refl;
      bytes = c.by.ensures ∙ ap (bytes_by c.end_row-v.result) (c.and-whole.ensures ∙ ap (plus a.bytes) c.of_markers.ensures);
    }
