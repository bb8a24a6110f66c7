-- `wavelet::lines::level` meets its contract: the invariant is that the run has gone on from what its top left, with the columns at the odd row 2 k + 1.
-- Assumes nothing.
use mathlib.Core.Path.{◌≡◌}
use Prim.Native.Nat.{◌+◌, ◌*◌, ◌-◌, ◌%◌}
use native.Mathlib.Omega.{arith}
use Rattle.wavelet.proofs.Level.{level_ends}
use Rattle.wavelet.proofs.lines.level.Goals as goal

pub returns : goal.returns
returns c =
    let e : c.args.n - 1 - c.args.n % 2 ≡ 2 * c.loop-k.k + 1 = omega (arith, c.requires.0.two_down, c.loop-k-test.false, c.loop-k.auto.k-end) in
    level_ends _ _ _ _ _ _ ((rw e at c.level_end.ensures).goes c.requires.0 c.requires.1 (c.loop-k.invariant.goes c.requires.0 c.requires.1 c.level_top.ensures))
