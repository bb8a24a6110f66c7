-- `reader::decode` meets its contract. Assumes nothing.
use mathlib.Core.Path.{ap, ◌∙◌}
use native.Mathlib.Omega.{arith}
use lib.IntN.{pos}
use lib.ListN.{length, length-replicate}
use Rattle.pieces.specs.Pieces.{plus, all}
use Rattle.pieces.specs.declared.Bytes.{Bytes}
use Rattle.reader.proofs.Decoded.{bytes_few, bytes_are, shown_of, marked_of, placed_of, decodes}
use Rattle.reader.proofs.decode.Goals as goal

pub and-requires : goal.and-requires
and-requires c =
    omega (arith, bytes_few c.requires.0 c.args.damaged c.decode_slices-r.ensures, ap all c.of_markers-header.ensures)

pub show_by-page-requires : goal.show_by-page-requires
show_by-page-requires c =
    shown_of c.requires.0 c.args.damaged c.decode_slices-r.ensures.is _ c.requires.1

pub mark_by-requires : goal.mark_by-requires
mark_by-requires c =
    (marked_of c.requires.0 c.args.damaged c.decode_slices-r.ensures.is c.show_by-page.ensures, c.requires.3)

pub place_by-requires : goal.place_by-requires
place_by-requires c =
    placed_of c.requires.0 c.args.damaged c.decode_slices-r.ensures.is c.show_by-page.ensures c.args.marks.now c.args.placed c.mark_by.ensures _ c.requires.4

-- all work cells are 0 again, as many as before
pub shape_of-cells : goal.shape_of-cells
shape_of-cells c =
    let zeros = (decodes c.requires.0 c.args.damaged c.decode_slices-r.ensures.is c.show_by-page.ensures c.args.marks.now c.args.placed c.mark_by.ensures (bytes_are c.requires.0 c.args.damaged c.decode_slices-r.ensures (c.and.ensures ∙ ap (λ (k : Bytes). plus k c.decode_slices-r.result.bytes) c.of_markers-header.ensures)) c.requires.2 c.place_by.ensures c.clear.ensures).beside.work in
    ap length zeros ∙ length-replicate _ (pos 0)

pub returns : goal.returns
returns c =
    decodes c.requires.0 c.args.damaged c.decode_slices-r.ensures.is c.show_by-page.ensures c.args.marks.now c.args.placed c.mark_by.ensures
    (bytes_are c.requires.0 c.args.damaged c.decode_slices-r.ensures
    (c.and.ensures ∙ ap (λ (k : Bytes). plus k c.decode_slices-r.result.bytes) c.of_markers-header.ensures))
    c.requires.2 c.place_by.ensures c.clear.ensures
