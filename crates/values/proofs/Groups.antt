-- A group: the laws of its definitions, and what the code reads of it. Assumes nothing.
use mathlib.Core.Bool.{Bool, true, false, cond}
use mathlib.Core.List.{List}
use mathlib.Core.Path.{◌≡◌, refl, ap, ap₂, ◌∙◌}
use Prim.Native.Nat.{ℕ, zero, suc, ◌+◌, ◌-◌, ◌*◌, ◌/◌, ◌%◌, ◌^◌, ◌≤◌, ◌<◌}
use native.Mathlib.Numerals.{add-one}
use native.Mathlib.Nat.{lt_of_lt_of_le, add-zero, sub-eq-zero_of_le}
use native.Mathlib.Omega.{arith}
use lib.Dec.{eqb}
use lib.IntN.{ℤ, pos, nat_abs}
use lib.ListN.{get_or}
use lib.Pow.{pow_mono}
use Rattle.whole.specs.Numbers.{signed}
use Rattle.whole.proofs.Machine.{size_neg}
use Rattle.bits.specs.Fields.{bit_at}
use Rattle.bits.specs.Groups.{sign_nibbles, nibbles_of}
use Rattle.bits.proofs.Laws.{is_field}
use Rattle.bits.proofs.Groups.{one_or_none, nibbles_none}
use Rattle.quantiser.specs.Inverse.{coefficient_of, scaled, Carried}
use Rattle.quantiser.proofs.Laws.{coefficient_zero, scaled_zero}
use Rattle.values.specs.Group.{sign_bits, sign_bits_of, v, s, index}
use Rattle.values.specs.Line.{placed}
use Rattle.values.specs.Steps.{SignBit, sign_field, value, group_values}
use Rattle.values.specs.declared.Coding.{Coding}
use Rattle.values.specs.declared.Group.{Group}
use Rattle.values.specs.declared.Next.{Next}
use Rattle.values.proofs.Planes.{planes_lt, four_bit}
use Rattle.values.proofs.Places.{Placing, placed_same}

-- ---- what a group takes

-- at most one for each coefficient
pub sign_bits_le : (f : ℕ → ℕ) (k : ℕ) → sign_bits f k ≤ k
unfolding sign_bits
sign_bits_le f zero = omega arith
sign_bits_le f (suc k) = omega (arith, sign_bits_le f k, one_or_none (eqb (f k) 0))

pub sign_bits_same : (f g : ℕ → ℕ) (n : ℕ) → ((k : ℕ) → k < n → f k ≡ g k) → sign_bits f n ≡ sign_bits g n
unfolding sign_bits
sign_bits_same f g zero h = refl
sign_bits_same f g (suc n) h =
    ap₂ ◌+◌ (sign_bits_same f g n (λ k l. h k (omega arith))) (ap (λ (x : ℕ). cond (eqb x 0) 0 1) (h n (omega arith)))

-- whatever the sign
signed_abs : (b : Bool) (n : ℕ) → nat_abs (signed b n) ≡ n
signed_abs true n = size_neg (pos n)
signed_abs false n = refl

-- ---- sizes and indices

module _ (dat : List ℕ) (fs : Bool) (M T at : ℕ) where
  pub v_lt : (k : ℕ) → v dat fs M T at k < 2 ^ (M - T)
  unfolding v
  v_lt k = planes_lt dat (at + sign_nibbles fs) (M - T) k

  -- with no plane each is 0
  pub v_none : M ≤ T → (k : ℕ) → v dat fs M T at k ≡ 0
  v_none h k =
      let e : M - T ≡ 0 = sub-eq-zero_of_le h in
      omega (arith, rw e at (v_lt k))

  pub sign_bits_of_le : sign_bits_of dat fs M T at ≤ 4
  unfolding sign_bits_of
  sign_bits_of_le = pick fs
    where
      pick : (b : Bool) → cond b (sign_bits (v dat fs M T at) 4) 0 ≤ 4
      pick true = sign_bits_le (v dat fs M T at) 4
      pick false = omega arith

  pub sign_bits_none : M ≤ T → sign_bits_of dat fs M T at ≡ 0
  unfolding sign_bits_of sign_bits
  sign_bits_none h = pick fs
    where
      none : (n : ℕ) → sign_bits (v dat fs M T at) n ≡ 0
      none zero = refl
      none (suc n) = rw (none n, v_none h n)

      pick : (b : Bool) → cond b (sign_bits (v dat fs M T at) 4) 0 ≡ 0
      pick true = none 4
      pick false = refl

  module _ (sgn : List ℕ) (sign : ℕ) where
    -- the size of an index
    pub index_size : (k : ℕ) → nat_abs (index dat fs M T at sgn sign k) ≡ v dat fs M T at k
    unfolding index
    index_size k = signed_abs (eqb (s dat fs M T at sgn sign k) 1) (v dat fs M T at k)

    pub index_lt : (k : ℕ) → nat_abs (index dat fs M T at sgn sign k) < 2 ^ (M - T)
    index_lt k = rw (index_size k) (v_lt k)

    pub index_none : M ≤ T → (k : ℕ) → index dat fs M T at sgn sign k ≡ pos 0
    unfolding index
    index_none h k = rw (v_none h k) (none (eqb (s dat fs M T at sgn sign k) 1))
      where
        none : (b : Bool) → signed b 0 ≡ pos 0
        none true = refl
        none false = refl

-- the four bits at one place or the other, as Fs says
four_sign : (b : Bool) (dat sgn : List ℕ) (at sign used k j : ℕ) {bits : ℕ} → used ≤ 3 → k ≤ 3 → bits ≡ sign_field dat sgn b at sign → j ≡ cond b used k
    → (j ≤ 3) × (bits / 2 ^ (3 - j) % 2 ≡ cond b (bit_at sgn (sign + used)) (bit_at dat (4 * at + k)))
four_sign true dat sgn at sign used k j h l e f = rw f (h, four_bit used h (is_field e))
four_sign false dat sgn at sign used k j h l e f = rw f (l, four_bit k l (is_field e))

-- ---- what the code has read of a group: the sizes, and the four bits in which the signs begin

pub record Read (dat sgn : List ℕ) (how : Coding) (g : Group) (next : Next) (vs : List ℕ) (bits : ℕ) : Type 0 where
  pub size : (k : ℕ) → k < 4 → get_or vs k 0 ≡ v dat how.fs g.m g.t next.at k
  pub signs : bits ≡ sign_field dat sgn how.fs next.at next.sign
  pub few : g.m ≤ 31

-- the place of coefficient k's sign among the four bits
pub record SignAt (dat sgn : List ℕ) (how : Coding) (g : Group) (next : Next) (bits k j : ℕ) : Type 0 where
  pub inside : j ≤ 3
  pub here : bits / 2 ^ (3 - j) % 2 ≡ s dat how.fs g.m g.t next.at sgn next.sign k

module _ {dat sgn : List ℕ} {how : Coding} {g : Group} {next : Next} {vs : List ℕ} {bits : ℕ} (r : Read dat sgn how g next vs bits) where
  abbrev sizes : ℕ → ℕ
  sizes = v dat how.fs g.m g.t next.at

  abbrev indices : ℕ → ℤ
  indices = index dat how.fs g.m g.t next.at sgn next.sign

  pub size_small : (k : ℕ) → k < 4 → get_or vs k 0 < 2 ^ 31
  size_small k h =
      rw (r.size k h)
      (lt_of_lt_of_le (v_lt dat how.fs g.m g.t next.at k) (pow_mono {i = g.m - g.t} {j = 31} (omega (arith, r.few))))

  pub sign_at : (k : ℕ) {used j : ℕ} → k < 4 → used ≡ sign_bits sizes k → j ≡ cond how.fs used k → SignAt dat sgn how g next bits k j
  unfolding s
  sign_at k h u e =
      let f = four_sign how.fs dat sgn next.at next.sign _ k _ (omega (arith, sign_bits_le sizes k)) (omega arith) r.signs e in
      record { inside = f.0; here = rw (← u) f.1 }

  -- the index that the code makes of the sign and the size
  pub index_is : (k : ℕ) {j : ℕ} {i : ℤ} → k < 4 → SignAt dat sgn how g next bits k j → i ≡ signed (eqb (bits / 2 ^ (3 - j) % 2) 1) (get_or vs k 0) → i ≡ indices k
  unfolding index
  index_is k h a e = e ∙ rw (a.here, r.size k h)

  pub carried : (k : ℕ) {i : ℤ} → i ≡ indices k → Carried g.m g.t (nat_abs i)
  carried k e = record { count = r.few; below = rw e (index_lt dat how.fs g.m g.t next.at sgn next.sign k) }

  pub value_is : (k : ℕ) {i z : ℤ} → i ≡ indices k → z ≡ scaled how.fq (coefficient_of how.uniform g.m g.t i) → z ≡ value dat sgn how g next k
  unfolding value
  value_is k e f = f ∙ rw e

  pub used_le : {k used : ℕ} → used ≡ sign_bits sizes k → used ≤ k
  used_le {k} u = omega (arith, sign_bits_le sizes k)

  -- one more coefficient
  pub used_more : (k : ℕ) {used b : ℕ} → k < 4 → used ≡ sign_bits sizes k → SignBit (get_or vs k 0) b → used + b ≡ sign_bits sizes (k + 1)
  unfolding sign_bits
  used_more k h u e = rw (add-one k, u, e.value, r.size k h)

  -- all four
  pub used_all : {all taken : ℕ} → all ≡ sign_bits (λ k. get_or vs k 0) 4 → taken ≡ cond how.fs all 0 → taken ≡ sign_bits_of dat how.fs g.m g.t next.at
  unfolding sign_bits_of
  used_all e f = f ∙ rw (e, sign_bits_same (λ k. get_or vs k 0) sizes 4 r.size)

-- ---- the whole of a group, from its parts

pub value_none : (dat sgn : List ℕ) (how : Coding) (g : Group) (next : Next) → g.m ≤ g.t → (k : ℕ) → value dat sgn how g next k ≡ pos 0
unfolding value
value_none dat sgn how g next h k =
    rw (index_none dat how.fs g.m g.t next.at sgn next.sign h k, coefficient_zero how.uniform g.m g.t, scaled_zero how.fq)

pub group_is : (dat sgn : List ℕ) (how : Coding) (g : Group) (next : Next) {cells₀ cells : List ℤ} {n taken k : ℕ}
    → n ≡ nibbles_of g.m g.t how.fs → taken ≡ sign_bits_of dat how.fs g.m g.t next.at
    → Placing g.first g.stride (value dat sgn how g next) k cells₀ cells → k ≡ g.count
    → group_values dat sgn how g next cells₀ ≡ (record { at = next.at + n; sign = next.sign + taken }, cells)
unfolding group_values
group_is dat sgn how g next e f p h = rw (e, f, p.same, h)

-- with M ≤ T it takes nothing, and its coefficients are 0
pub group_none : (dat sgn : List ℕ) (how : Coding) (g : Group) (next : Next) (cells₀ : List ℤ) {cells : List ℤ} → g.m ≤ g.t
    → cells ≡ placed g.first g.stride (λ _. pos 0) g.count cells₀ → group_values dat sgn how g next cells₀ ≡ (next, cells)
unfolding group_values
group_none dat sgn how g next cells₀ h e =
    let z = placed_same g.first g.stride (value dat sgn how g next) (λ _. pos 0) g.count cells₀ (λ k _. value_none dat sgn how g next h k) in
    rw (nibbles_none g.m g.t how.fs h, sign_bits_none dat how.fs g.m g.t next.at h, add-zero next.at, add-zero next.sign, z, e)
