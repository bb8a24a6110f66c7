-- `values::coded_group` meets its contract. Invariant: k places are written, and `used` counts the signs of their coefficients. Assumes nothing.
use mathlib.Core.Bool.{cond}
use mathlib.Core.Path.{◌≡◌, refl}
use Prim.Native.Nat.{◌+◌, ◌*◌, ◌≤◌, ◌<◌}
use native.Mathlib.Omega.{arith}
use lib.ListN.{length}
use Rattle.whole.proofs.Machine.{back64}
use Rattle.values.specs.Group.{v, sign_bits, index}
use Rattle.values.proofs.Planes.{bit_is}
use Rattle.values.proofs.Places.{starts, places}
use Rattle.values.proofs.Groups.{SignAt, sign_at, size_small, index_is, carried, value_is, used_le, used_more, used_all, group_is}
use Rattle.values.proofs.coded_group.Goals.{After-signed-index, In-loop-k, Joined-fs, Joined-fs-2, then-fs, else-fs, then-fs-2, else-fs-2}
use Rattle.values.proofs.coded_group.Goals as goal

-- ---- a turn

module _ (c : In-loop-k) where
  below_four : c.loop-k.k < 4
  below_four = omega (arith, c.loop-k-test.true, c.requires.count)

  -- its cell
  inside : c.args.group.first + c.loop-k.k * c.args.group.stride < length c.loop-k.cells
  inside = omega (arith, c.requires.inside.each c.loop-k.k c.loop-k-test.true, c.loop-k.invariant.2.long)

-- where its sign stands
sign : (c : Joined-fs) → let a = c.args in
    SignAt a.dat.now a.sgn.now a.how a.group a.next c.sign_field-signs.result c.loop-k.k c.if-fs.place
sign c =
    let place : c.if-fs.place ≡ cond c.args.how.fs c.loop-k.used c.loop-k.k =
    elim c.if-fs.branch [ then-fs w ↦ rw w.if-fs.true w.place-is | else-fs w ↦ rw w.if-fs.false w.place-is ] in
    sign_at c.loop-k.invariant.0 _ (omega (arith, c.loop-k-test.true, c.requires.count)) c.loop-k.invariant.1 place

index_read : (c : After-signed-index) → let a = c.args in
    SignAt a.dat.now a.sgn.now a.how a.group a.next c.sign_field-signs.result c.loop-k.k c.if-fs.place
    → c.signed-index.result ≡ index a.dat.now a.how.fs a.group.m a.group.t a.next.at a.sgn.now a.next.sign c.loop-k.k
index_read c s =
    index_is c.loop-k.invariant.0 _ (omega (arith, c.loop-k-test.true, c.requires.count)) s c.signed-index.ensures

-- what it takes of the sign stretch
taken_is : (c : Joined-fs-2) → c.if-fs-2.taken ≡ cond c.args.how.fs c.sign_bits-all.result 0
taken_is c = elim c.if-fs-2.branch [ then-fs-2 w ↦ rw w.if-fs-2.true w.taken-is | else-fs-2 w ↦ rw w.if-fs-2.false w.taken-is ]

taken_few : (c : Joined-fs-2) → c.if-fs-2.taken ≤ 4
taken_few c = elim c.if-fs-2.branch [ then-fs-2 w ↦ omega (arith, c.sign_bits-all.ensures.most) | else-fs-2 w ↦ omega arith ]

-- ---- the answer

pub loop-k-init : goal.loop-k-init
unfolding v sign_bits
loop-k-init c = (
  record {
    size = λ k h. rw ((bit_is c.args.how.fs c.from.ensures).0, c.saturating_sub.ensures) at (c.magnitudes-v.ensures.each k h);
    signs = c.sign_field-signs.ensures;
    few = c.requires.m;
  },
  refl,
  starts,
)

pub overflow_sub-negative : goal.overflow_sub-negative
overflow_sub-negative c = (sign (goal.at.overflow_sub-negative c).Joined-fs).inside

pub signed-index-requires : goal.signed-index-requires
signed-index-requires c = omega (arith, size_small c.loop-k.invariant.0 _ (below_four (goal.at.signed-index-requires c).In-loop-k))

pub scaled_coefficient-requires : goal.scaled_coefficient-requires
scaled_coefficient-requires c =
    (rw (back64 _ c.signed-index.type_inv) (carried c.loop-k.invariant.0 _ (index_read (goal.at.scaled_coefficient-requires c).After-signed-index (sign (goal.at.scaled_coefficient-requires c).Joined-fs))), c.requires.fq)

pub overflow_add-used : goal.overflow_add-used
overflow_add-used c =
    omega (arith, used_le c.loop-k.invariant.0 c.loop-k.invariant.1, c.sign_bit-used.ensures.most, below_four (goal.at.overflow_add-used c).In-loop-k)

pub loop-k-preserved : goal.loop-k-preserved
loop-k-preserved c =
    let i = c.loop-k.invariant in
    let z = value_is i.0 _ (index_read (goal.at.loop-k-preserved c).After-signed-index (sign (goal.at.loop-k-preserved c).Joined-fs)) (rw (back64 _ c.signed-index.type_inv) at c.scaled_coefficient.ensures) in (
      i.0,
      used_more i.0 _ (below_four (goal.at.loop-k-preserved c).In-loop-k) i.1 c.sign_bit-used.ensures,
      rw (back64 _ c.scaled_coefficient.type_inv) (places i.2 z),
    )

pub overflow_add-result-2 : goal.overflow_add-result-2
overflow_add-result-2 c = omega (arith, taken_few (goal.at.overflow_add-result-2 c).Joined-fs-2)

pub returns : goal.returns
returns c =
    let i = c.loop-k.invariant in
    group_is _ _ _ _ _ c.nibbles_of.ensures.number (used_all i.0 c.sign_bits-all.ensures.value (taken_is (goal.at.returns c).Joined-fs-2)) i.2 (omega (arith, c.loop-k-test.false))
