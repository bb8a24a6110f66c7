-- `layout::lines::reach_of` meets its contract. Assumes nothing.
use mathlib.Core.Path.{◌≡◌, ap, ◌∙◌}
use mathlib.Core.Bool.{◌&&◌}
use Prim.Native.Nat.{ℕ, ◌+◌, ◌*◌, ◌-◌, ◌/◌, ◌%◌, ◌^◌}
use native.Mathlib.Nat.{mul-le-mul, div-le_self}
use native.Mathlib.Omega.{arith}
use lib.Dec.{eqb, ltb}
use lib.Pow.{pow_mono}
use Rattle.layout.proofs.lines.reach_of.Goals as goal

pub returns : goal.returns
returns c =
    let b = c.args.b in
    let top : c.product.result ≡ c.args.row * 2 ^ (b.part.ny - b.filter.dy) =
    c.product.ensures.0 ∙ ap (λ (p : ℕ). c.args.row * p) c.power.ensures.is
    in
    let few =
    mul-le-mul {n₁ = c.args.row} {m₁ = 2 ^ (b.part.ny - b.filter.dy)} {n₂ = 16384} {m₂ = 2 ^ 2} c.requires.1
    (pow_mono {i = b.part.ny - b.filter.dy} {j = 2} (omega (arith, c.requires.0.part.levels)))
    in
    record {
      is =
          λ i.
          record {
            y = top i + c.args.l / b.part.sy;
            present = b.exists && eqb (c.args.l % b.part.sy) 0 && ltb (top i + c.args.l / b.part.sy) (c.size-height.ensures i);
          };
      small = omega (arith, top, few, div-le_self c.args.l b.part.sy, c.requires.2);
    }
