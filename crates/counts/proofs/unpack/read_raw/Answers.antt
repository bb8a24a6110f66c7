-- `counts::unpack::read_raw` meets its contract. Assumes nothing.
use Prim.Native.Nat.{ℕ, ◌+◌, ◌*◌, ◌<◌, ◌≤◌}
use mathlib.Core.Path.{◌∙◌, ap}
use native.Mathlib.Omega.{arith}
use borrow.Author.Tests.{le-leb, lt-leb}
use lib.IntN.{pos}
use lib.ListN.{length}
use Rattle.counts.specs.Groups.{counted}
use Rattle.counts.proofs.unpack.read_raw.Goals as goal

pub returns-then-all-i : goal.returns-then-all-i
returns-then-all-i c =
    let a = c.args in
    let h : 8 * length a.s.now < a.i + a.br = omega arith in
    rw (lt-leb _ _ h)

pub returns-then-all-i-2 : goal.returns-then-all-i-2
returns-then-all-i-2 c =
    let a = c.args in
    let h : 8 * length a.s.now < a.i + a.br = omega arith in
    rw (lt-leb _ _ h)

pub returns : goal.returns
returns c =
    let a = c.args in
    let h : a.i + a.br ≤ 8 * length a.s.now = omega arith in
    rw (le-leb _ _ h) (c.in_range.ensures ∙ ap (λ (m : ℕ). counted (pos m) (a.i + a.br)) c.field.ensures.value)
