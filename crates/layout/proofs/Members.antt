-- What stands in a list that a loop of Table B.4 makes, and in a slot. Assumes nothing.
use mathlib.Core.Path.{◌≡◌, refl, sym, ap, ◌∙◌}
use mathlib.Core.Bool.{Bool, true, false, ◌||◌}
use mathlib.Core.List.Memᴰ
use mathlib.Core.List.{List, [], ◌∷◌, ◌++◌, Memᴰ}
use mathlib.Core.Logic.{◌⊎◌, inl, inr}
use Prim.Native.Nat.{ℕ, zero, suc, ◌+◌, ◌-◌, ◌/◌, ◌%◌, ◌≤◌, ◌<◌}
use native.Mathlib.Decide.{dec_lt}
use native.Mathlib.Omega.{arith}
use borrow.Author.Tests.{eqb-true, eq-eqb}
use lib.Dec.{eqb}
use Rattle.whole.specs.Numbers.{ceil_div}
use Rattle.layout.specs.declared.Shape.{Shape}
use Rattle.layout.specs.Precincts.{L0}
use Rattle.layout.specs.Packets.{turns, when, Part, part, included, includes, share}
use Rattle.layout.specs.Slots.{slot_type, slot_line, candidates, slot}

pub true_false : {A : Type 0} → false ≡ true → A
true_false e = let z : ◌≡◌ {A = ℕ} 0 1 = cc in absurd (omega arith)

-- ---- a loop

-- a turn k of n from x on whose list has it
pub record Turned {A : Type 0} (n x : ℕ) (f : ℕ → List A) (a : A) : Type 0 where
  pub k : ℕ
  pub from : x ≤ k
  pub below : k < x + n
  pub there : Memᴰ a (f k)

pub turns_member : {A : Type 0} (n x : ℕ) (f : ℕ → List A) (a : A) → Memᴰ a (turns n x 1 f) → Turned n x f a
unfolding turns
turns_member zero x f a m = absurd (Memᴰ.not-nil m)
turns_member {A} (suc n) x f a m = by (Memᴰ.append_cases (f x) m) (turns_member n (x + 1) f a)
  where
    by : Memᴰ a (f x) ⊎ Memᴰ a (turns n (x + 1) 1 f) → (Memᴰ a (turns n (x + 1) 1 f) → Turned n (x + 1) f a) → Turned (suc n) x f a
    by (inl h) later = record { k = x; from = omega arith; below = omega arith; there = h }
    by (inr h) later =
        let t = later h in
        record { k = t.k; from = omega (arith, t.from); below = omega (arith, t.below); there = t.there }

pub member_turns : {A : Type 0} (n x : ℕ) (f : ℕ → List A) (a : A) (k : ℕ) → x ≤ k → k < x + n → Memᴰ a (f k) → Memᴰ a (turns n x 1 f)
unfolding turns
member_turns zero x f a k l h m = absurd (omega arith)
member_turns {A} (suc n) x f a k l h m = by (dec_lt x k) (member_turns n (x + 1) f a k)
  where
    by : Dec (x < k) → (x + 1 ≤ k → k < x + 1 + n → Memᴰ a (f k) → Memᴰ a (turns n (x + 1) 1 f)) → Memᴰ a (f x ++ turns n (x + 1) 1 f)
    by (yes u) later = Memᴰ.append_right (f x) (later (omega arith) (omega arith) m)
    by (no u) later =
        let e : k ≡ x = omega arith in
        Memᴰ.append_left (turns n (x + 1) 1 f) (rw e at m)

when_member : {A : Type 0} (t : Bool) (b a : A) → Memᴰ a (when t b) → (t ≡ true) × (a ≡ b)
when_member true b a m = (refl, Memᴰ.eq_of_singleton m)
when_member false b a m = absurd (Memᴰ.not-nil m)

member_when : {A : Type 0} (t : Bool) (b : A) → t ≡ true → Memᴰ b (when t b)
member_when true b e = Memᴰ.head refl
member_when false b e = true_false e

-- ---- a slot's parts are its present candidates

-- candidate j of slot k, which is there
pub record Candidate (s : Shape) (row k : ℕ) (x : Part) : Type 0 where
  pub j : ℕ
  pub below : j < candidates s k
  pub there : included s row (slot_type s k + j / s.nc) (j % s.nc) (slot_line k) ≡ true
  pub is : x ≡ part s (slot_type s k + j / s.nc) (j % s.nc) (slot_line k + L0 s (slot_type s k + j / s.nc) (j % s.nc))

one_step : (n : ℕ) → ceil_div (n - 0) 1 ≡ n
one_step n = omega arith

module _ (s : Shape) (row k : ℕ) where
  abbrev candidate : ℕ → List Part
  candidate j =
      when (included s row (slot_type s k + j / s.nc) (j % s.nc) (slot_line k))
      (part s (slot_type s k + j / s.nc) (j % s.nc) (slot_line k + L0 s (slot_type s k + j / s.nc) (j % s.nc)))

  slot_turns : slot s row k ≡ turns (candidates s k) 0 1 candidate
  unfolding slot
  slot_turns = ap (λ (n : ℕ). turns n 0 1 candidate) (one_step (candidates s k))

  pub slot_member : (x : Part) → Memᴰ x (slot s row k) → Candidate s row k x
  slot_member x m =
      let t = turns_member (candidates s k) 0 candidate x (rw slot_turns at m) in
      let j = t.k in
      let w = when_member _ _ x t.there in
      record { j = j; below = omega (arith, t.below); there = w.0; is = w.1 }

  pub member_slot : {x : Part} → Candidate s row k x → Memᴰ x (slot s row k)
  member_slot {x} c =
      rw (slot_turns, c.is)
      (member_turns (candidates s k) 0 candidate _ c.j (omega arith) (omega (arith, c.below)) (member_when _ _ c.there))

-- ---- two packets that share a band

-- a line of each, of one band
pub record Common (xs ys : List Part) : Type 0 where
  pub one : Part
  pub other : Part
  pub here : Memᴰ one xs
  pub there : Memᴰ other ys
  pub same : one.band ≡ other.band

record Included (ys : List Part) (b : ℕ) : Type 0 where
  part : Part
  there : Memᴰ part ys
  same : part.band ≡ b

includes_member : (ys : List Part) (b : ℕ) → includes ys b ≡ true → Included ys b
unfolding includes
includes_member [] b e = true_false e
includes_member (y ∷ ys) b e = by (eqb y.band b) refl e (includes_member ys b)
  where
    by : (t : Bool) → t ≡ eqb y.band b → (t || includes ys b) ≡ true → (includes ys b ≡ true → Included ys b) → Included (y ∷ ys) b
    by true p e later = record { part = y; there = Memᴰ.head refl; same = eqb-true y.band b (sym p) }
    by false p e later =
        let l = later e in
        record { part = l.part; there = Memᴰ.tail l.there; same = l.same }

or_right : (t u : Bool) → u ≡ true → (t || u) ≡ true
or_right true u e = refl
or_right false u e = e

member_includes : (ys : List Part) (y : Part) (b : ℕ) → Memᴰ y ys → y.band ≡ b → includes ys b ≡ true
unfolding includes
member_includes [] y b m e = absurd (Memᴰ.not-nil m)
member_includes (x ∷ ys) y b m e = by (Memᴰ.cases_cons m) (λ n. member_includes ys y b n e)
  where
    by : (y ≡ x) ⊎ Memᴰ y ys → (Memᴰ y ys → includes ys b ≡ true) → (eqb x.band b || includes ys b) ≡ true
    by (inl q) later = rw (eq-eqb x.band b (ap (λ (p : Part). p.band) (sym q) ∙ e))
    by (inr n) later = or_right (eqb x.band b) (includes ys b) (later n)

-- `share` says so
pub share_common : (xs ys : List Part) → share xs ys ≡ true → Common xs ys
unfolding share
share_common [] ys e = true_false e
share_common (x ∷ xs) ys e = by (includes ys x.band) refl e (share_common xs ys)
  where
    by : (t : Bool) → t ≡ includes ys x.band → (t || share xs ys) ≡ true → (share xs ys ≡ true → Common xs ys) → Common (x ∷ xs) ys
    by true p e later =
        let i = includes_member ys x.band (sym p) in
        record { one = x; other = i.part; here = Memᴰ.head refl; there = i.there; same = sym i.same }
    by false p e later =
        let c = later e in
        record { one = c.one; other = c.other; here = Memᴰ.tail c.here; there = c.there; same = c.same }

pub common_share : (xs ys : List Part) → Common xs ys → share xs ys ≡ true
unfolding share
common_share [] ys c = absurd (Memᴰ.not-nil c.here)
common_share (x ∷ xs) ys c = by (Memᴰ.cases_cons c.here) (common_share xs ys)
  where
    by : (c.one ≡ x) ⊎ Memᴰ c.one xs → (Common xs ys → share xs ys ≡ true) → (includes ys x.band || share xs ys) ≡ true
    by (inl q) later = rw (member_includes ys c.other x.band c.there (sym c.same ∙ ap (λ (p : Part). p.band) q))
    by (inr n) later =
        or_right (includes ys x.band) (share xs ys)
        (later (record { one = c.one; other = c.other; here = n; there = c.there; same = c.same }))
