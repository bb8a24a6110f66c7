-- `layout::bands::band_of` meets its contract. Assumes nothing.
use mathlib.Core.Path.{◌≡◌, sym, subst, ◌∙◌}
use Prim.Native.Nat.{◌*◌, ◌-◌, ◌%◌, ◌^◌, ◌≤◌, min}
use lib.Dec.{eqb}
use Rattle.layout.specs.declared.bands.Band.{Band}
use Rattle.layout.specs.Bands.{kind, dx, dy, depth, exists}
use Rattle.layout.specs.Sizes.{band_of, SmallFilter}
use Rattle.layout.proofs.Shapes.{own_small, depth_own}
use Rattle.layout.proofs.bands.band_of.Goals as goal

pub returns : goal.returns
unfolding kind dx dy depth exists
returns c =
    let f = c.filter_type-filter.ensures in
    let p = c.component_of-part.ensures in
    let s = c.args.s in
    let is : _ ≡ band_of s c.args.beta c.args.i =
    λ i.
    record {
      exists = (c.first_line_divides-exists.ensures ∙ (λ j. eqb (2 ^ (s.nly - (f j).dy) * (f j).ty % (p.is j).sy) 0)) i;
      filter = record { tx = (f i).tx; ty = (f i).ty; dx = (f i).dx; dy = (c.min-dy.ensures ∙ (λ j. min (f j).dy (p.is j).ny)) i };
      part = p.is i;
    }
    in
    record {
      is = is;
      small =
          record {
            filter = subst (λ (b : Band). SmallFilter b.filter) (sym is) (own_small s c.args.beta c.args.i c.requires.0);
            part = p.small;
            own = subst (λ (b : Band). b.filter.dy ≤ b.part.ny) (sym is) (depth_own s c.args.beta c.args.i);
          };
    }
