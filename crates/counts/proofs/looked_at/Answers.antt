-- `counts::looked_at` meets its contract, by the mode. Assumes nothing.
use Rattle.std.proofs.Common.{inl, inr}
use native.Mathlib.Omega.{arith}
use Rattle.counts.proofs.Lines.{looked_above}
use Rattle.counts.specs.Steps.{looked_at}
use Rattle.counts.proofs.looked_at.Goals as goal

pub returns-in-Raw : goal.returns-in-Raw
unfolding looked_at
returns-in-Raw c = elim c.in-Raw.is [ inl e ↦ rw e | inr e ↦ rw e ]

pub returns-in-Vertical : goal.returns-in-Vertical
returns-in-Vertical c =
    looked_above _ _ _ _ c.in-Vertical.is (omega (arith, c.count_cell.ensures)) c.held-arg-1.given c.held.ensures
