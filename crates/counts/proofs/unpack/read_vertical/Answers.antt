-- `counts::unpack::read_vertical` meets its contract: the tests pick the case of Table C.15. Assumes nothing.
use Prim.Native.Nat.{max}
use mathlib.Core.Path.{◌≡◌, sym, ap, ◌∙◌}
use native.Mathlib.Omega.{arith}
use native.Mathlib.Nat.{add-zero}
use lib.IntN.{ℤ}
use Rattle.counts.specs.Groups.{counted}
use Rattle.counts.proofs.Codes.{to_t}
use Rattle.counts.proofs.unpack.read_vertical.Goals as goal

pub returns-then-c : goal.returns-then-c
returns-then-c c =
    let a = c.args in
    rw (c.if-insignificant.true, c.if-c.true)
    (c.in_range.ensures ∙ ap (λ (z : ℤ). counted z a.i) (sym (to_t (max a.m_above (max a.c.t a.t_above)) a.c.t)))

pub returns-else-c : goal.returns-else-c
returns-else-c c =
    let top : c.max-mtop.result ≡ max c.args.m_above (max c.args.c.t c.args.t_above) = omega arith in
    rw (c.if-insignificant.true, c.if-c.false, add-zero, ← top) c.in_range-else-c.ensures

pub returns-else-insignificant : goal.returns-else-insignificant
returns-else-insignificant c =
    let top : c.max-mtop.result ≡ max c.args.m_above (max c.args.c.t c.args.t_above) = omega arith in
    rw (c.if-insignificant.false, ← top) c.read_code.ensures
