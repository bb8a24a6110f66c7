-- `distances::component_number` is the two loops of Table E.1. Assumes nothing.
use mathlib.Core.Path.{◌≡◌, ap, ◌∙◌}
use Prim.Native.Nat.{ℕ, ◌-◌, min}
use native.Mathlib.Omega.{arith}
use borrow.Author.Tests.{lt-ltb}
use Rattle.wavelet.specs.Transform.{LL, down, table_E1}
use Rattle.wavelet.specs.Distance.{component_number}
use Rattle.layout.specs.Bands.{N'y}
use Rattle.distances.specs.Rule.{number_of, component_number_of}
use Rattle.distances.specs.Steps.{across_turn, both_turn}
use Rattle.distances.proofs.component_number.Goals as goal

pub returns : goal.returns
unfolding component_number_of component_number table_E1
returns c =
    let a = c.args in
    let ny = ap (λ r. r.ny) c.component_of-c.ensures.is in
    let first : ℕ → ℕ = (λ n. down (across_turn a.s a.fq a.tops a.i n) n (a.s.nlx - n) (number_of a.s a.fq a.tops a.i LL a.s.nlx n)) in
    let second : ℕ → ℕ → ℕ = down (both_turn a.s a.fq a.tops a.i) 0 in
    let least : min a.s.nlx (N'y a.s a.i) ≡ N'y a.s a.i = omega (arith, c.requires.built.no_more) in
    rw (lt-ltb a.i a.s.nc (omega arith), least)
    (c.both_numbers.ensures ∙ ap (second _) c.across_numbers.ensures.0 ∙ ap (λ (n : ℕ). second n (first n)) ny)
