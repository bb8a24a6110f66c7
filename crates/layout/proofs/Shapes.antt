-- What a built shape says of its components and bands. Assumes nothing.
use mathlib.Core.Path.{◌≡◌}
use Prim.Native.Nat.{ℕ, ◌≤◌, ◌<◌}
use native.Mathlib.Omega.{arith}
use Rattle.layout.specs.declared.Shape.{Shape}
use Rattle.layout.specs.declared.bands.Component.{Component}
use Rattle.layout.specs.Bands.{sx, sy, Wc, Hc, N'y, kind, dx, dy, depth}
use Rattle.layout.specs.Built.{Built}
use Rattle.layout.specs.Sizes.{component_of, SmallComponent, own_filter, SmallFilter}
use Rattle.layout.proofs.Sizes.{ceil_most, ceil_some}
use Rattle.layout.proofs.Filters.{across_most, down_most, τx_most, τy_most}

-- ---- components

module _ (s : Shape) (i : ℕ) (r : Component) (built : Built s) (h : i < s.nc) where
  pub component_small : r ≡ component_of s i → SmallComponent r
  unfolding Wc Hc
  component_small e =
      let p = built.sampled i h in
      rw e
      (record {
        across = p.across;
        across_two = p.across_two;
        down = p.down;
        down_two = omega (arith, p.down_less, p.across_two);
        wide = ceil_some s.wf (sx s i) built.wide p.across;
        narrow = omega (arith, ceil_most s.wf (sx s i) p.across, built.narrow);
        high = ceil_some s.hf (sy s i) built.high p.down;
        low = omega (arith, ceil_most s.hf (sy s i) p.down, built.low);
        levels = omega (arith, built.down_levels);
      })

-- ---- bands

pub dx_most : (s : Shape) (β : ℕ) → Built s → dx s β ≤ s.nlx
unfolding dx
dx_most s β b = across_most s.nlx s.nly β b.no_more

pub dy_most : (s : Shape) (β : ℕ) → dy s β ≤ s.nly
unfolding dy
dy_most s β = down_most s.nlx s.nly β

pub depth_own : (s : Shape) (β i : ℕ) → depth s β i ≤ N'y s i
unfolding depth
depth_own s β i = omega arith

pub own_small : (s : Shape) (β i : ℕ) → Built s → SmallFilter (own_filter s β i)
unfolding depth
own_small s β i b =
    record {
      tx = τx_most (kind s β);
      ty = τy_most (kind s β);
      dx = omega (arith, dx_most s β b, b.levels);
      dy = omega (arith, dy_most s β, b.down_levels);
    }
