-- Laws of a line of counts. Assumes nothing.
use Rattle.std.specs.Prelude.{Ok, Err}
use Prim.Native.Nat.{ℕ, ◌+◌, ◌*◌, ◌/◌, ◌%◌, ◌^◌, ◌≤◌, ◌<◌, max}
use mathlib.Core.Path.{◌≡◌, refl, sym, ap, ◌∙◌}
use mathlib.Core.Bool.{Bool, true, false, cond, true≢false}
use mathlib.Core.List.{List}
use native.Mathlib.Omega.{arith}
use native.Mathlib.Nat.{add-zero}
use borrow.Author.Tests.{leb-true, leb-false}
use lib.Dec.{leb}
use lib.IntN.{ℤ, pos, ◌+ℤ◌, ◌-ℤ◌}
use lib.ListN.{length, set}
use lib.Signed.{mag}
use mir.Syntax.{w64}
use mir.Val.{to_z, of_z}
use Rattle.whole.specs.Cells.{cell}
use Rattle.whole.proofs.Machine.{back64}
use Rattle.loops.specs.Run.{go}
use Rattle.counts.specs.Codes.{ones}
use Rattle.counts.specs.Groups.{Group, counted, coded, unpack_raw, unpack_nopred, unpack_vertical}
use Rattle.bits.specs.Groups.{Ncg, nibbles_of, packed, held, held_m, held_t}
use Rattle.counts.specs.Lines.{unpack, stored, turn, count_cell, insignificant, above_cell, above, Ready}
use Rattle.counts.specs.Steps.{is_raw, looked_at}
use Rattle.counts.specs.declared.group.Coding.{Coding}
use Rattle.counts.specs.declared.group.Mode.{Mode}
use Rattle.counts.specs.declared.group.Mode.TheVariants.{Raw, NoPrediction, Vertical}
use Rattle.counts.specs.declared.group.Count.{Count}
use Rattle.counts.specs.declared.group.Fault.TheVariants.{Cut, High, Long}
use Rattle.counts.specs.declared.Place.{Place}
use Rattle.counts.proofs.Codes.{vlc_floor, to_t}

-- ---- a choice, by its test
cond_by : {A : Type 0} (P : A → Type 0) (b : Bool) {x y : A} → (b ≡ true → P x) → (b ≡ false → P y) → P (cond b x y)
cond_by P true f g = f refl
cond_by P false f g = g refl

-- ---- what a group's reader finds: a count of at most 31, and a bit that is not before i and, if it is past i, in the stretch. What it refuses is out of range
abbrev pub Sound : List ℕ → ℕ → ℕ → Group → Type 0
Sound s br i (Ok k) = (k.m ≤ 31) × (i ≤ k.next) × (k.next ≤ max i (8 * length s))
Sound s br i (Err Cut) = Unit {0}
Sound s br i (Err (High m)) = 31 < m
Sound s br i (Err (Long n)) = 2 ^ (br + 1) ≤ n

-- mtop + Δm of a group that is insignificant is a natural
skipped : (run : Bool) (mtop t : ℕ) → (m : ℕ) × (pos mtop +ℤ cond run (pos t -ℤ pos mtop) (pos 0) ≡ pos m)
skipped true mtop t = (t, to_t mtop t)
skipped false mtop t = (mtop + 0, refl)

module _ (s : List ℕ) (br i : ℕ) where
  -- of a natural: the other whole numbers are never reached
  counted_sound : {z : ℤ} (m next : ℕ) → z ≡ pos m → i ≤ next → next ≤ max i (8 * length s) → Sound s br i (counted z next)
  unfolding counted
  counted_sound m next q l h = rw q (cond_by (Sound s br i) (leb m 31) (λ e. (leb-true m 31 e, l, h)) (λ e. omega (arith, leb-false m 31 e)))

  coded_sound : (mtop t : ℕ) → t ≤ mtop → Sound s br i (coded s br mtop t i)
  unfolding coded
  coded_sound mtop t h =
      let n = ones s i (2 ^ (br + 1)) in
      let m = vlc_floor mtop t n h in
      cond_by (Sound s br i) (leb (2 ^ (br + 1)) n) (λ e. leb-true (2 ^ (br + 1)) n e) (λ e.
      cond_by (Sound s br i) (leb (8 * length s) (i + n)) (λ f. tt) (λ f.
      counted_sound m.0 (i + n + 1) m.1 (omega arith) (omega (arith, leb-false (8 * length s) (i + n) f))))

pub unpack_sound : (s : List ℕ) (i : ℕ) (mode : Mode) (sig : List ℕ) (c : Coding) (p : Place) (z g : ℕ) (cells : List ℤ) → Sound s c.br i (unpack mode s sig c p z g i cells)
unfolding unpack
unpack_sound s i Raw sig c p z g cells =
    cond_by (Sound s c.br i) (leb (i + c.br) (8 * length s))
    (λ e. counted_sound s c.br i _ _ refl (omega arith) (omega (arith, leb-true (i + c.br) (8 * length s) e))) (λ e. tt)
unpack_sound s i NoPrediction sig c p z g cells =
    cond_by (Sound s c.br i) (insignificant sig c z g) (λ e. counted_sound s c.br i (c.t + 0) _ refl (omega arith) (omega arith)) (λ e. coded_sound s c.br i c.t c.t (omega arith))
unpack_sound s i Vertical sig c p z g cells =
    let mtop = max (held_m (above p g cells)) (max c.t (held_t (above p g cells))) in
    let m = skipped c.run mtop c.t in
    cond_by (Sound s c.br i) (insignificant sig c z g) (λ e. counted_sound s c.br i m.0 _ m.1 (omega arith) (omega arith)) (λ e. coded_sound s c.br i mtop c.t (omega arith))

-- ---- one way for both predictions

-- below a group with M = 0 and truncation position 0
none_is_vertical : (s : List ℕ) (c : Coding) (skip : Bool) (i : ℕ) → unpack_nopred s c skip i ≡ unpack_vertical s c skip 0 0 i
none_is_vertical s c skip i =
    let top : max 0 (max c.t 0) ≡ c.t = omega arith in
    rw top (ap (λ (z : ℤ). cond skip (counted z i) (coded s c.br c.t c.t i)) (stay c.run))
  where
    stay : (run : Bool) → pos c.t +ℤ pos 0 ≡ pos c.t +ℤ cond run (pos c.t -ℤ pos c.t) (pos 0)
    stay true = rw (to_t c.t c.t, add-zero)
    stay false = refl

module _ (s sig : List ℕ) (c : Coding) (p : Place) (z g i : ℕ) (cells : List ℤ) where
  pub raw_is : (m : Mode) → is_raw m ≡ true → unpack_raw s c.br i ≡ unpack m s sig c p z g i cells
  unfolding unpack
  raw_is Raw e = refl
  raw_is NoPrediction e = absurd (true≢false (sym e))
  raw_is Vertical e = absurd (true≢false (sym e))

  pub below_is : (m : Mode) {r : Group} {skip : Bool} {h : ℕ} → is_raw m ≡ false → h ≡ held (looked_at m p g cells) → skip ≡ insignificant sig c z g
      → r ≡ unpack_vertical s c skip (h % 32) (h / 32 % 32) i → r ≡ unpack m s sig c p z g i cells
  unfolding unpack looked_at
  below_is Raw e f k q = absurd (true≢false e)
  below_is NoPrediction e f k q = rw (f, k) at q ∙ sym (none_is_vertical s c (insignificant sig c z g) i)
  below_is Vertical e f k q = rw (f, k) at q

-- the cell above, as the code reads it
pub looked_above : (m : Mode) (p : Place) (g : ℕ) (cells : List ℤ) {j h : ℕ} → m ≡ Vertical → j ≡ above_cell p g → mag (cell cells j) < 2 ^ 63
    → h ≡ held (to_z w64 (of_z w64 (cell cells j))) → h ≡ held (looked_at m p g cells)
unfolding looked_at
looked_above m p g cells {j} v e b f = rw v (f ∙ ap held (back64 (cell cells j) b) ∙ ap (λ (j : ℕ). held (cell cells j)) e)

-- ---- a turn, by the group that was read
module _ (s sig : List ℕ) (c : Coding) (p : Place) (z g i : ℕ) (cells : List ℤ) {x : Group} (e : x ≡ unpack c.mode s sig c p z g i cells) where
  pub turn_is : (need : ℕ) {y : Group} → x ≡ y → turn s sig c p z g (i, need, cells) ≡ stored c (count_cell p g) (i, need, cells) y
  unfolding turn
  turn_is need f = rw (sym e ∙ f)

  -- a count, as the code stores it
  pub turn_counts : (need : ℕ) {r : Count} {k b : ℕ} {v : ℤ} → x ≡ Ok r → v ≡ packed r.m c.t → mag v < 2 ^ 63 → k ≡ count_cell p g → b ≡ nibbles_of r.m c.t c.fs
      → turn s sig c p z g (i, need, cells) ≡ go (r.next, need + b, set cells k (to_z w64 (of_z w64 v)))
  turn_counts need {v = v} f a l k b = turn_is need f ∙ rw (back64 v l, a, k, b)

  pub count_sound : {k : Count} → x ≡ Ok k → Sound s c.br i (Ok k)
  count_sound f = rw (sym e ∙ f) at (unpack_sound s i c.mode sig c p z g cells)

-- ---- the cells

-- a group's cell is one of them
pub cell_inside : {c : Coding} {p : Place} {bytes z n : ℕ} (g : ℕ) → Ready c p bytes z n → g < Ncg p.width → count_cell p g < n
cell_inside g h l = h.inside (4 * g) (omega arith)

-- what a store keeps
pub ready_still : {c : Coding} {p : Place} {bytes z n k : ℕ} → Ready c p bytes z n → k ≡ n → Ready c p bytes z k
ready_still h e = rw e h
