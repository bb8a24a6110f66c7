-- `counts::to_hold` meets its contract. Assumes nothing.
use native.Mathlib.Omega.{arith}
use mir.Facts.{to_z_pos}
use mir.Syntax.{w64}
use Rattle.counts.proofs.to_hold.Goals as goal

pub returns : goal.returns
returns c = to_z_pos w64 (omega arith)
