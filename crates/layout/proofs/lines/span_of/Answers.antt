-- `layout::lines::span_of` meets its contract. Assumes nothing.
use mathlib.Core.Path.{◌≡◌, ap, ◌∙◌}
use Prim.Native.Nat.{ℕ, ◌*◌, ◌<◌}
use native.Mathlib.Omega.{arith}
use Rattle.whole.specs.Numbers.{ceil_div}
use Rattle.wavelet.specs.Transform.{low_size, high_size}
use Rattle.layout.specs.Precincts.{by_letter}
use Rattle.whole.proofs.Ceiling.{div_ceil_is}
use Rattle.layout.proofs.Sizes.{ceil_most, size_most}
use Rattle.layout.proofs.lines.span_of.Goals as goal

pub returns : goal.returns
returns c =
    let b = c.args.b in
    let some : 0 < c.product.result = grind (arith, c.product.ensures, c.power.ensures, c.requires.0.part) in
    let all : c.div_ceil-all.result ≡ ceil_div c.args.c.width b.part.sx = c.div_ceil-all.ensures ∙ div_ceil_is c.args.c.width b.part.sx c.requires.0.part.across in
    let x : c.div_ceil-x.result ≡ ceil_div c.args.c.x c.product.result = c.div_ceil-x.ensures ∙ div_ceil_is c.args.c.x c.product.result some in
    record {
      is =
          λ i.
          record {
            x =
                (x
                ∙ ap (ceil_div c.args.c.x) (c.product.ensures.0 ∙ ap (λ (p : ℕ). b.part.sx * p) c.power.ensures.is)) i;
            width = (c.size.ensures ∙ (λ j. by_letter b.filter.tx (low_size (all j) b.filter.dx) (high_size (all j) b.filter.dx))) i;
          };
      small = omega (arith, x, ceil_most c.args.c.x c.product.result some, c.requires.1);
      narrow =
          omega (
            arith,
            c.size.ensures,
            size_most c.div_ceil-all.result b.filter.tx b.filter.dx,
            all,
            ceil_most c.args.c.width b.part.sx c.requires.0.part.across,
            c.requires.2,
          );
    }
