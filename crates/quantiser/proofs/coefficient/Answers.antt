-- `quantiser::coefficient` meets its contract. Assumes nothing.
use mathlib.Core.Bool.{Bool, true, false}
use mathlib.Core.Path.{◌≡◌, refl, sym, ap, ap₂, ◌∙◌}
use Prim.Native.Nat.{ℕ}
use native.Mathlib.Omega.{arith}
use lib.IntN.{ℤ, pos, nat_abs}
use lib.Signed.{lt_z}
use lib.Pow.{pow_mono}
use mir.Syntax.{w64}
use mir.Val.{to_z, of_z}
use Rattle.whole.specs.Numbers.{signed, with_sign}
use Rattle.whole.proofs.Machine.{back64, neg_sign, pos_sign}
use Rattle.quantiser.specs.Inverse.{inverse, coefficient_of}
use Rattle.quantiser.proofs.Near.{inverse_small}
use Rattle.quantiser.proofs.coefficient.Goals.{After-unsigned_abs, After-size_by, Start}
use Rattle.quantiser.proofs.coefficient.Goals as goal

read : (c : Start) → to_z w64 (of_z w64 c.args.index) ≡ c.args.index
read c = back64 c.args.index c.ranges.index.sfits

-- the machine's size of the index
sized : (c : After-unsigned_abs) → c.unsigned_abs.result ≡ nat_abs c.args.index
sized c = c.unsigned_abs.ensures.value ∙ ap nat_abs (read c.before)

-- and what `size_by` gave is the size of the coefficient
made : (c : After-size_by) → let a = c.args in c.size_by.result ≡ inverse a.uniform a.m a.t (nat_abs a.index)
made c = let a = c.args in c.size_by.ensures ∙ ap (inverse a.uniform a.m a.t) (sized c.before)

-- a sign by the test that the code makes
by_test : (z : ℤ) (n : ℕ) → signed (lt_z z (pos 0)) n ≡ with_sign z n
by_test z n = by (lt_z z (pos 0)) refl
  where
    by : (b : Bool) → lt_z z (pos 0) ≡ b → signed b n ≡ with_sign z n
    by true e = sym (neg_sign z n e)
    by false e = sym (pos_sign z n e)

pub size_by-requires : goal.size_by-requires
size_by-requires c = rw (sized (goal.at.size_by-requires c).After-unsigned_abs) c.requires

pub signed-requires : goal.signed-requires
signed-requires c =
    let a = c.args in
    omega (arith, made (goal.at.signed-requires c).After-size_by, inverse_small a.uniform a.m a.t (nat_abs a.index) c.requires.below, pow_mono {j = 31} c.requires.count)

pub returns : goal.returns
unfolding coefficient_of
returns c = back64 _ c.signed.type_inv ∙ c.signed.ensures ∙ by_test _ _ ∙ ap₂ with_sign (read (goal.at.returns c).Start) (made (goal.at.returns c).After-size_by)
