-- C.3's packets that share a band, by the numbers of their slots: two different slots share one exactly where they are the two lines of one
-- filter type of the finest level, slots 4, 5, 6 and 7, 8, 9. Assumes nothing.
use mathlib.Core.Path.{◌≡◌, refl, sym, ap, ◌∙◌}
use mathlib.Core.Bool.{Bool, true, false, ◌&&◌}
use Prim.Native.Nat.{ℕ, ◌+◌, ◌*◌, ◌-◌, ◌/◌, ◌%◌, ◌^◌, ◌≤◌, ◌<◌}
use native.Mathlib.Nat.{mul-add-div_right, mul_comm, div-eq_of_lt, div-lt_iff_lt-mul, mod-lt}
use native.Mathlib.Decide.{dec_lt, ℕ_discrete}
use native.Mathlib.Omega.{arith}
use borrow.Author.Tests.{lt-ltb, ltb-true, le-leb, lt-leb, eq-eqb, ne_eqb}
use lib.Dec.{eqb, ltb, leb}
use Rattle.layout.specs.declared.Shape.{Shape}
use Rattle.layout.specs.Bands.{sy, β₁, exists, band}
use Rattle.layout.specs.Built.{Built}
use Rattle.layout.specs.Precincts.{L0, L1}
use Rattle.layout.specs.Packets.{Part, part, included}
use Rattle.layout.specs.Slots.{slots, turn_of, slot_type, slot_types, slot_line, candidates, slot, sharing}
use Rattle.layout.proofs.Slots.{slots_most, first_type, first_count, later_type, later_types, later_line}
use Rattle.layout.proofs.Reaches.{first_divides}
use Rattle.layout.proofs.Present.{tests_true}
use Rattle.layout.proofs.Members.{Candidate, slot_member, member_slot, share_common, common_share}

-- a band's number tells its filter type
band_of_type : (n β i : ℕ) → i < n → (n * β + i) / n ≡ β
band_of_type n β i h =
    let e : n * β + i ≡ β * n + i = omega (arith, mul_comm n β) in
    let z : β + i / n ≡ β = omega (arith, div-eq_of_lt h) in
    rw e (mul-add-div_right {m = n} (omega arith) β i ∙ z)

type_one : (n β β' i i' : ℕ) → i < n → i' < n → n * β + i ≡ n * β' + i' → β ≡ β'
type_one n β β' i i' h h' e = sym (band_of_type n β i h) ∙ ap (λ (b : ℕ). b / n) e ∙ band_of_type n β' i' h'

-- the filter types of the slots from 1 on, as numbers
slot_numbers : (f k k' : ℕ) → k < 10 → 0 < k' → k' < k
    → f + 3 * (((k - 1) / 3 + 1) / 2) + (k - 1) % 3 ≡ f + 3 * (((k' - 1) / 3 + 1) / 2) + (k' - 1) % 3 → (7 ≤ k) × (k' ≡ k - 3)
slot_numbers f k k' a b c e = (omega arith, omega arith)

module _ (s : Shape) (built : Built s) (row k : ℕ) (h : k < slots s) where
  -- only slot k − 3 shares a band with an earlier one, and only from slot 7 on
  pub shared_slot : (k' : ℕ) → k' < k → sharing s row k k' ≡ true → (7 ≤ k) × (k' ≡ k - 3)
  shared_slot k' before e =
      let c = share_common (slot s row k) (slot s row k') e in
      let a = slot_member s row k c.one c.here in
      let b = slot_member s row k' c.other c.there in
      let some : 0 < s.nc = built.some in
      let types : slot_type s k + a.j / s.nc ≡ slot_type s k' + b.j / s.nc =
      type_one s.nc (slot_type s k + a.j / s.nc) (slot_type s k' + b.j / s.nc) (a.j % s.nc) (b.j % s.nc) (mod-lt a.j some) (mod-lt b.j some)
      (ap (λ (p : Part). p.band) (sym a.is) ∙ c.same ∙ ap (λ (p : Part). p.band) b.is) in
      by (dec_lt 0 k') a.j b.j a.below b.below types
    where
      up : k ≡ 0 → ⊥
      up z = omega arith

      by : Dec (0 < k') → (j j' : ℕ) → j < candidates s k → j' < candidates s k' → slot_type s k + j / s.nc ≡ slot_type s k' + j' / s.nc → (7 ≤ k) × (k' ≡ k - 3)
      by (yes u) j j' l l' t =
          let q : j / s.nc ≡ 0 = div-eq_of_lt (omega (arith, rw (later_types s built k up) at l)) in
          let q' : j' / s.nc ≡ 0 = div-eq_of_lt (omega (arith, rw (later_types s built k' (λ z. omega arith)) at l')) in
          slot_numbers (β₁ s) k k' (omega (arith, slots_most s built)) u before
          (plain (later_type s built k up) (later_type s built k' (λ z. omega arith)) q q' t)
        where
          plain : {a b x y t u : ℕ} → t ≡ a → u ≡ b → x ≡ 0 → y ≡ 0 → t + x ≡ u + y → a ≡ b
          plain p q r w e = omega arith
      by (no n) j j' l l' t =
          let z : k' ≡ 0 = omega arith in
          let r : j' < β₁ s * s.nc = rw (first_count s built z) at l' in
          let q : j' / s.nc < β₁ s = (div-lt_iff_lt-mul built.some).1 r in
          absurd (omega (arith, later_type s built k up, first_type s built z))

  module _ (high : 7 ≤ k) where
    up : k ≡ 0 → ⊥
    up z = omega arith

    up_before : k - 3 ≡ 0 → ⊥
    up_before z = omega arith

    type_before : slot_type s (k - 3) ≡ slot_type s k
    type_before =
        later_type s built (k - 3) up_before ∙ numbers (β₁ s) k high (omega (arith, slots_most s built)) ∙ sym (later_type s built k up)
      where
        numbers : (f k : ℕ) → 7 ≤ k → k < 10
            → f + 3 * (((k - 3 - 1) / 3 + 1) / 2) + (k - 3 - 1) % 3 ≡ f + 3 * (((k - 1) / 3 + 1) / 2) + (k - 1) % 3
        numbers f k a b = omega arith

    types_before : slot_types s (k - 3) ≡ slot_types s k
    types_before = later_types s built (k - 3) up_before ∙ sym (later_types s built k up)

    line_here : slot_line k ≡ 1
    line_here =
        let t : turn_of k ≡ 3 = omega (arith, slots_most s built) in
        later_line s built k up ∙ ap (λ (n : ℕ). n - 2 ^ (n / 2)) t

    line_before : slot_line (k - 3) ≡ 0
    line_before =
        let t : turn_of (k - 3) ≡ 2 = omega (arith, slots_most s built) in
        later_line s built (k - 3) up_before ∙ ap (λ (n : ℕ). n - 2 ^ (n / 2)) t

    -- with a line 1 of a band a precinct has its line 0
    first_there : (β i : ℕ) → i < s.nc → included s row β i 1 ≡ true → included s row β i 0 ≡ true
    unfolding included
    first_there β i l e =
        let t = tests_true (exists s β i) (eqb ((1 + L0 s β i) % sy s i) 0) (ltb (1 + L0 s β i) (L1 s row β i)) e in
        let z : 0 + L0 s β i ≡ L0 s β i = omega arith in
        rw (z, t.0, first_divides s β i built l t.0, lt-ltb (L0 s β i) (L1 s row β i) (omega (arith, ltb-true (1 + L0 s β i) (L1 s row β i) t.2)))

    -- from slot 7 on, slot k − 3 shares each band of which the precinct has a line in slot k
    pub slot_shared : {x : Part} → Candidate s row k x → sharing s row k (k - 3) ≡ true
    slot_shared {x} c =
        common_share (slot s row k) (slot s row (k - 3))
        (record {
          one = x;
          other = part s β i (slot_line (k - 3) + L0 s β i);
          here = member_slot s row k c;
          there = member_slot s row (k - 3) (record { j = c.j; below = rw types_before c.below; there = before; is = refl });
          same = ap (λ (p : Part). p.band) c.is ∙ (λ n. band s (sym type_before n + c.j / s.nc) i);
        })
      where
        β : ℕ
        β = slot_type s (k - 3) + c.j / s.nc

        i : ℕ
        i = c.j % s.nc

        before : included s row (slot_type s (k - 3) + c.j / s.nc) (c.j % s.nc) (slot_line (k - 3)) ≡ true
        before =
            rw (line_before, type_before)
            (first_there (slot_type s k + c.j / s.nc) (c.j % s.nc) (mod-lt c.j built.some) (ap (included s row (slot_type s k + c.j / s.nc) (c.j % s.nc)) (sym line_here) ∙ c.there))

  -- so, of a slot that has a line, and of an earlier one
  pub sharing_is : {x : Part} → Candidate s row k x → (k' : ℕ) → k' < k → sharing s row k k' ≡ (leb 7 k && eqb k' (k - 3))
  sharing_is {x} c k' before = by (dec_lt k 7)
    where
      not_shared : ((7 ≤ k) × (k' ≡ k - 3) → ⊥) → sharing s row k k' ≡ false
      not_shared not = pick (sharing s row k k') refl
        where
          pick : (t : Bool) → t ≡ sharing s row k k' → t ≡ false
          pick true e = absurd (not (shared_slot k' before (sym e)))
          pick false e = refl

      at : 7 ≤ k → Dec (k' ≡ k - 3) → sharing s row k k' ≡ (leb 7 k && eqb k' (k - 3))
      at high (yes e) = ap (sharing s row k) e ∙ slot_shared high c ∙ rw (le-leb 7 k high, eq-eqb k' (k - 3) e)
      at high (no n) = not_shared (λ b. n b.1) ∙ rw (le-leb 7 k high, ne_eqb k' (k - 3) n)

      by : Dec (k < 7) → sharing s row k k' ≡ (leb 7 k && eqb k' (k - 3))
      by (yes l) = not_shared (λ b. omega (arith, b.0)) ∙ rw (lt-leb 7 k l)
      by (no n) = at (omega arith) (ℕ_discrete k' (k - 3))
