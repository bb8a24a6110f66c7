-- `layout::bands::component_of` meets its contract. Assumes nothing.
use mathlib.Core.Path.{◌≡◌, ◌∙◌}
use lib.ListN.{get_or}
use Rattle.layout.specs.Bands.{sx, sy, Wc, Hc, N'y}
use Rattle.layout.specs.Sizes.{component_of}
use Rattle.whole.proofs.Ceiling.{div_ceil_is}
use Rattle.layout.proofs.Shapes.{component_small}
use Rattle.layout.proofs.bands.component_of.Goals as goal

pub returns : goal.returns
unfolding Wc Hc
returns c =
    let s = c.args.s in
    let p = c.requires.0.sampled c.args.i c.requires.1 in
    let is : _ ≡ component_of s c.args.i =
    λ i.
    record {
      sx = get_or s.sx c.args.i 0;
      sy = get_or s.sy c.args.i 0;
      w = (c.div_ceil.ensures ∙ div_ceil_is s.wf (sx s c.args.i) p.across) i;
      h = (c.div_ceil-2.ensures ∙ div_ceil_is s.hf (sy s c.args.i) p.down) i;
      ny = N'y s c.args.i;
    }
    in
    record { is = is; small = component_small _ _ _ c.requires.0 c.requires.1 is }
