-- `slices::with_header` meets its contract. Assumes nothing.
use mathlib.Core.Path.{refl, ap, ◌∙◌}
use native.Mathlib.Omega.{arith}
use Rattle.pieces.specs.Pieces.{Markers, bytes_by, plus, all}
use Rattle.pieces.specs.declared.Bytes.{Bytes}
use Rattle.pieces.proofs.Laws.{piece_once}
use Rattle.slices.specs.Slice.{slice_header_bytes}
use Rattle.slices.proofs.with_header.Goals as goal

pub and-more-requires : goal.and-more-requires
and-more-requires c = omega (arith, c.requires, ap all c.of_markers-header.ensures, piece_once Markers slice_header_bytes)

pub returns : goal.returns
returns c =
    let r = c.args.r in
    record {
      verdict = refl;
      at = refl;
      tops = refl;
      bytes = c.by.ensures ∙ ap (bytes_by r.verdict) (c.and-more.ensures ∙ ap (λ (b : Bytes). plus b r.bytes) c.of_markers-header.ensures);
    }
