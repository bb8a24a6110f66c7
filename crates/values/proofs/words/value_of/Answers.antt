-- `values::words::value_of` meets its contract. Assumes nothing.
use mathlib.Core.Path.{◌≡◌}
use Prim.Native.Nat.{◌*◌, ◌%◌, ◌^◌, ◌<◌}
use native.Mathlib.Omega.{arith}
use lib.Dec.{eqb}
use Rattle.whole.proofs.Machine.{back64}
use Rattle.quantiser.proofs.Laws.{carried_shifted, coefficient_scaled}
use Rattle.values.proofs.words.value_of.Goals.{After-size_by}
use Rattle.values.proofs.words.value_of.Goals as goal

module _ (c : After-size_by) where
  small : c.size_by.result * 2 ^ c.args.fq < 2 ^ 46
  small = carried_shifted c.args.uniform c.requires.0 c.requires.1 c.size_by.ensures

  whole : c.size_by.result * 2 ^ c.args.fq % 2 ^ 64 ≡ c.size_by.result * 2 ^ c.args.fq
  whole = omega (arith, small)

pub signed-requires : goal.signed-requires
signed-requires c = omega (arith, small (goal.at.signed-requires c).After-size_by)

pub returns : goal.returns
returns c =
    let a = c.args in
    rw (back64 _ c.signed.type_inv, coefficient_scaled a.uniform a.group.m a.group.t a.fq (eqb a.sign 1) a.v, ← c.size_by.ensures, ← whole (goal.at.returns c).After-size_by) c.signed.ensures
