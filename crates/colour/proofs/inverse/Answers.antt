-- `colour::inverse` meets its contract: every number on the way fits, so each is what the machine reads back. Assumes nothing.
use mir.Facts.{to_z-of_z}
use Rattle.colour.specs.Rct.{inverse_rct}
use Rattle.colour.proofs.Laws.{Fitting, fitting}
use Rattle.colour.proofs.inverse.Goals.{Start}
use Rattle.colour.proofs.inverse.Goals as goal

k : (c : Start) → Fitting c.args.i
k c = fitting c.requires

pub overflow_add-result : goal.overflow_add-result
unfolding inverse_rct
overflow_add-result c =
    let f = k (goal.at.overflow_add-result c).Start in
    simp (to_z-of_z, f.i₀, f.i₁, f.i₂, f.sum, f.quarter, f.o₁) f.o₀

pub overflow_add-result-2 : goal.overflow_add-result-2
unfolding inverse_rct
overflow_add-result-2 c =
    let f = k (goal.at.overflow_add-result-2 c).Start in
    simp (to_z-of_z, f.i₀, f.i₁, f.i₂, f.sum, f.quarter, f.o₁) f.o₂

pub returns : goal.returns
unfolding inverse_rct
returns c =
    let f = k (goal.at.returns c).Start in
    simp (to_z-of_z, f.i₀, f.i₁, f.i₂, f.sum, f.quarter, f.o₀, f.o₁, f.o₂)
