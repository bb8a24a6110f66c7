-- `layout::lines::line_of` meets its contract. Assumes nothing.
use mathlib.Core.Path.{◌≡◌, ap, ◌∙◌}
use mathlib.Core.Bool.{◌&&◌}
use Prim.Native.Nat.{◌+◌, ◌*◌, ◌/◌, ◌%◌, ◌^◌}
use native.Mathlib.Omega.{arith}
use lib.Dec.{eqb, ltb, lit<}
use Rattle.layout.specs.declared.bands.Band.{Band}
use Rattle.layout.specs.declared.lines.Reach.{Reach}
use Rattle.layout.specs.declared.lines.Span.{Span}
use Rattle.layout.specs.Bands.{sy, exists, band}
use Rattle.layout.specs.Precincts.{first_x, first_y, Wpb}
use Rattle.bits.specs.Groups.{Ncg, Ns}
use Rattle.layout.specs.Packets.{included}
use Rattle.layout.specs.Cells.{area, inner}
use Rattle.layout.specs.Slots.{line}
use Rattle.layout.specs.Sizes.{band_of, column_of, reach_of, span_of, inner_of}
use Rattle.layout.proofs.Columns.{Npy_most}
use Rattle.layout.proofs.Reaches.{included_is, Hb_letter, Wpb_size}
use Rattle.whole.proofs.Ceiling.{div_ceil_is}
use Rattle.layout.proofs.lines.line_of.Goals as goal

pub reach_of-reach-requires : goal.reach_of-reach-requires
reach_of-reach-requires c =
    (c.band_of-b.ensures.small, omega (arith, c.requires.built.1, Npy_most c.args.s c.requires.built.0), c.requires.beta_bound.2)

pub returns : goal.returns
unfolding line area inner first_x
returns c =
    let s = c.args.s in
    let built = c.requires.built.0 in
    let β = c.args.beta in
    let n = c.args.i in
    let b : c.band_of-b.result ≡ band_of s β n = c.band_of-b.ensures.is in
    let r : c.reach_of-reach.result ≡ reach_of (band_of s β n) c.args.row c.args.l = c.reach_of-reach.ensures.is ∙ ap (λ (x : Band). reach_of x c.args.row c.args.l) b in
    let w : c.span_of-span.result ≡ span_of (band_of s β n) (column_of s c.args.column) = c.span_of-span.ensures.is ∙ (λ j. span_of (b j) (c.column_of.ensures.is j)) in
    let width : c.span_of-span.result.width ≡ Wpb s c.args.column β n = ap (λ (x : Span). x.width) w ∙ Wpb_size s c.args.column β n (built.sampled n c.requires.beta_bound.1).across in
    let there : c.reach_of-reach.result.present ≡ included s c.args.row β n c.args.l =
    ap (λ (x : Reach). x.present) r
    ∙ (λ j. exists s β n && eqb (c.args.l % sy s n) 0 && ltb (first_y s c.args.row β n + c.args.l / sy s n) (Hb_letter s β n built c.requires.beta_bound.1 j))
    ∙ included_is s β n built c.requires.beta_bound.1 c.args.row c.args.l c.requires.beta_bound.3
    in
    λ j.
    record {
      present = there j;
      band = band s β n;
      component = n;
      cell = 2 * c.samples_before-before.ensures.0 j + (c.cell_of-inner.ensures.0 ∙ (λ k. inner_of (b k) (w k).x (r k).y)) j;
      stride = (c.power.ensures.is ∙ (λ k. 2 ^ (b k).filter.dx)) j;
      width = width j;
      groups = (c.div_ceil.ensures ∙ div_ceil_is c.span_of-span.result.width 4 (lit< tt) ∙ ap Ncg width) j;
      marks = (c.div_ceil-2.ensures ∙ div_ceil_is c.span_of-span.result.width 32 (lit< tt) ∙ ap Ns width) j;
      y = (r j).y;
      area = (c.product.ensures.0 ∙ (λ k. (b k).part.w * (b k).part.h)) j;
      up = (c.product-2.ensures.0 ∙ (λ k. (c.power-2.ensures.is ∙ (λ m. 2 ^ (b m).filter.dy)) k * (b k).part.w)) j;
    }
