-- `colour::raise` meets its contract: the numbers fit a word, read as signed and as unsigned. Assumes nothing.
use mathlib.Core.Path.{◌≡◌, ap, ◌∙◌}
use Prim.Native.Nat.{◌*◌, ◌^◌, ◌≤◌}
use native.Mathlib.Omega.{arith}
use mir.Syntax.{w64}
use mir.Facts.{to_z-of_z, to_z_pos}
use Rattle.whole.proofs.Machine.{small_fits}
use Rattle.colour.specs.Rct.{numbers_rct}
use Rattle.colour.specs.Kinds.{held, sizes, raised_rct}
use Rattle.colour.proofs.Laws.{fitting, numbers_most}
use Rattle.colour.proofs.raise.Goals.{After-numbers_rct-e}
use Rattle.colour.proofs.raise.Goals as goal

-- what rule 3 gave
module _ (c : After-numbers_rct-e) where
  made : c.numbers_rct-e.result ≡ numbers_rct (sizes c.args.i)
  made =
      let f = fitting c.requires.0 in
      simp (to_z-of_z, f.i₀, f.i₁, f.i₂) at c.numbers_rct-e.ensures

  most : (c.numbers_rct-e.result.c0 ≤ 3 * 2 ^ 60) × (c.numbers_rct-e.result.c1 ≤ 3 * 2 ^ 60) × (c.numbers_rct-e.result.c2 ≤ 3 * 2 ^ 60)
  most = rw made (numbers_most (sizes c.args.i) (c.requires.0.c0, c.requires.0.c1, c.requires.0.c2))

pub overflow_cast-result : goal.overflow_cast-result
overflow_cast-result c = small_fits _ (omega (arith, most (goal.at.overflow_cast-result c).After-numbers_rct-e))

pub overflow_cast-result-2 : goal.overflow_cast-result-2
overflow_cast-result-2 c = small_fits _ (omega (arith, most (goal.at.overflow_cast-result-2 c).After-numbers_rct-e))

pub overflow_cast-result-3 : goal.overflow_cast-result-3
overflow_cast-result-3 c = small_fits _ (omega (arith, most (goal.at.overflow_cast-result-3 c).After-numbers_rct-e))

pub returns : goal.returns
unfolding raised_rct
returns c =
    let h = most (goal.at.returns c).After-numbers_rct-e in
    (λ i. record { c0 = to_z_pos w64 {n = c.numbers_rct-e.result.c0} (omega arith) i; c1 = to_z_pos w64 {n = c.numbers_rct-e.result.c1} (omega arith) i; c2 = to_z_pos w64 {n = c.numbers_rct-e.result.c2} (omega arith) i })
    ∙ ap held (made (goal.at.returns c).After-numbers_rct-e)
