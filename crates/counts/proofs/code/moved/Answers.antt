-- `counts::code::moved` meets its contract: whichever way is chosen is a law. Assumes nothing.
use Prim.Native.Nat.{ℕ, ◌+◌, ◌-◌, ◌*◌, ◌/◌, ◌%◌, ◌^◌}
use mathlib.Core.Bool.{cond}
use mathlib.Core.Path.{◌≡◌, ap, ◌∙◌}
use native.Mathlib.Omega.{arith}
use borrow.Author.Tests.{eq-eqb, ne_eqb, lt-ltb, le-ltb}
use lib.Dec.{eqb, ltb}
use lib.IntN.{pos, ◌+ℤ◌}
use Rattle.counts.specs.Codes.{vlc}
use Rattle.counts.proofs.Codes.{moved_by}
use Rattle.counts.proofs.code.moved.Goals.{Joined-theta-n, then-n-eq1, else-n-eq1, then-theta-n, else-theta-n}
use Rattle.counts.proofs.code.moved.Goals as goal

way : (c : Joined-theta-n) →
    let a = c.args in
    (m : ℕ) × (c.if-theta-n.to ≡ m + 2 ^ 32) × (pos m ≡ pos a.r +ℤ vlc a.r a.t a.n)
way c =
    let a = c.args in
    let high = a.r + 2 ^ 32 in
    let near : c.if-n-eq1.near ≡ cond (eqb (a.n % 2) 1) (high - (a.n + 1) / 2) (high + a.n / 2) =
    elim c.if-n-eq1.branch [
      | then-n-eq1 w ↦ rw (eq-eqb (a.n % 2) 1 (omega arith)) (omega arith)
      | else-n-eq1 w ↦ rw (ne_eqb (a.n % 2) 1 (λ e. omega arith)) (omega arith)
    ] in
    let theta = c.saturating_sub-theta.result in
    let to : c.if-theta-n.to ≡ cond (ltb (2 * theta) a.n) (high + a.n - theta) c.if-n-eq1.near =
    elim c.if-theta-n.branch [
      | then-theta-n w ↦ rw (lt-ltb (2 * theta) a.n (omega arith)) (omega arith)
      | else-theta-n w ↦ rw (le-ltb (2 * theta) a.n (omega arith)) (omega arith)
    ] in
    moved_by a.r a.t a.n near to (omega (arith, c.saturating_sub-theta.ensures))

pub overflow_sub-result : goal.overflow_sub-result
overflow_sub-result c = omega (arith, (way (goal.at.overflow_sub-result c).Joined-theta-n).1)

pub returns : goal.returns
returns c = ap pos (omega (arith, (way (goal.at.returns c).Joined-theta-n).1)) ∙ (way (goal.at.returns c).Joined-theta-n).2
