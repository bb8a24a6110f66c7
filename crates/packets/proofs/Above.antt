-- C.6.1, Table C.13: the count cell that the vertical predictor of code group g reads is that of group g, in the same columns, one line up in the band.
-- The counts that are read before it in its packet leave that cell. Assumes nothing.
use Rattle.std.specs.Prelude.{Ok, Err}
use mathlib.Core.Path.{◌≡◌, refl, sym, ap, ◌∙◌}
use mathlib.Core.Bool.{Bool, true, false, cond}
use mathlib.Core.List.{List}
use Prim.Native.Nat.{ℕ, zero, suc, ◌+◌, ◌*◌, ◌-◌, ◌/◌, ◌%◌, ◌^◌, ◌≤◌, ◌<◌}
use native.Mathlib.Nat.{zero-div, mod-lt}
use native.Mathlib.Decide.{dec_lt}
use native.Mathlib.Omega.{arith}
use lib.IntN.{ℤ, pos}
use lib.Seq.{get_or-set_other}
use Rattle.whole.specs.Cells.{cell}
use Rattle.loops.specs.Run.{Turn, go, stop, then}
use Rattle.loops.specs.Before.{before}
use Rattle.loops.proofs.Laws.{Kept}
use Rattle.layout.specs.declared.Shape.{Shape}
use Rattle.layout.specs.Bands.{sy, Wc, dx, depth}
use Rattle.layout.specs.Built.{Built}
use Rattle.layout.specs.Precincts.{first_x, first_y, L0}
use Rattle.layout.specs.Packets.{part}
use Rattle.layout.specs.Cells.{area, cell as place}
use Rattle.layout.specs.Slots.{slot_type, slot_line, turn_of, level_group, candidates, slot as slot_of, sharing, line_at, line as line_of}
use Rattle.layout.proofs.Slots.{slots_most, later_line}
use Rattle.layout.proofs.Cells.{line_above, later_column}
use Rattle.layout.proofs.Members.{Candidate, member_slot, common_share}
use Rattle.layout.proofs.Shared.{shared_slot}
use Rattle.counts.specs.Groups.{Group}
use Rattle.counts.specs.Lines.{Line as LineCounts}
use Rattle.counts.specs.Lines.{State, Left, count_cell, stored, unpack, turn, line_counts}
use Rattle.bits.specs.Groups.{Ncg, packed}
use Rattle.counts.proofs.Laws.{line_other as counts_other}
use Rattle.packets.specs.declared.Setting.{Setting}
use Rattle.packets.specs.declared.Precinct.{Precinct}
use Rattle.packets.specs.Passes.{line, marks, place_of, Counting, counted, count_turn}
use Rattle.packets.specs.Packets.{raw, count_bytes, mark_bytes}
use Rattle.packets.specs.Counted.{coding_in, before_counts, before_group}
use Rattle.packets.proofs.Addresses.{There}
use Rattle.packets.proofs.Lines.{band_parts}
use Rattle.packets.proofs.Laws.{Apart}

-- of any line whose cell, stride, area and distance to the line above are a band's
above_place : (s : Shape) (β i x y g : ℕ) → 0 < y
    → place s β i x y + 4 * g * 2 ^ dx s β + area s i - 2 ^ depth s β i * Wc s i ≡ place s β i (x + 4 * g) (y - 1) + area s i
above_place s β i x y g up =
    let e : y ≡ suc (y - 1) = omega arith in
    omega (arith, later_column s β i x y (4 * g), ap (λ (n : ℕ). place s β i (x + 4 * g) n) e, line_above s β i (x + 4 * g) (y - 1))

module _ (c : Setting) (p : Precinct) (slot j g : ℕ) (up : 0 < (line c p slot j).y) where
  abbrev β : ℕ
  β = slot_type c.shape slot + j / c.shape.nc

  abbrev i : ℕ
  i = j % c.shape.nc

  pub predictor_cell : count_cell (place_of (line c p slot j)) g - (line c p slot j).up
      ≡ place c.shape β i (first_x c.shape p.column β i + 4 * g) ((line c p slot j).y - 1) + area c.shape i
  unfolding line_at line_of
  predictor_cell = above_place c.shape β i (first_x c.shape p.column β i) (line c p slot j).y g up

-- ---- the lines of a band are read from top to bottom

-- of two lines of a band in one precinct the upper one stands in an earlier slot
pub upper_earlier : (s : Shape) → Built s → {row column slot slot' j j' : ℕ} → There s row column slot j → There s row column slot' j'
    → (line_at s row column slot' j').band ≡ (line_at s row column slot j).band → (line_at s row column slot' j').y < (line_at s row column slot j).y → slot' < slot
unfolding line_at line_of
upper_earlier s built {row} {column} {slot} {slot'} {j} {j'} a b same higher = by (dec_lt slot' slot) (dec_lt slot slot')
  where
    candidate : {k i : ℕ} → (c : There s row column k i) → Candidate s row k (part s (slot_type s k + i / s.nc) (i % s.nc) (slot_line k + L0 s (slot_type s k + i / s.nc) (i % s.nc)))
    candidate {i = i} c = record { j = i; below = c.candidate; there = c.present; is = refl }

    -- they have one filter type and one component
    parts : (slot_type s slot' + j' / s.nc ≡ slot_type s slot + j / s.nc) × (j' % s.nc ≡ j % s.nc)
    parts =
        let l = band_parts s (slot_type s slot + j / s.nc) (j % s.nc) (mod-lt j built.some) in
        let u = band_parts s (slot_type s slot' + j' / s.nc) (j' % s.nc) (mod-lt j' built.some) in
        (sym u.0 ∙ ap (λ (b : ℕ). b / s.nc) same ∙ l.0, sym u.1 ∙ ap (λ (b : ℕ). b % s.nc) same ∙ l.1)

    lower : slot_line slot' / sy s (j % s.nc) < slot_line slot / sy s (j % s.nc)
    lower = shift (first_y s row (slot_type s slot + j / s.nc) (j % s.nc)) (slot_line slot' / sy s (j % s.nc)) (slot_line slot / sy s (j % s.nc)) (rw (parts.0, parts.1) at higher)
      where
        shift : (f m n : ℕ) → f + m < f + n → m < n
        shift f m n e = omega arith

    by : Dec (slot' < slot) → Dec (slot < slot') → slot' < slot
    by (yes before) after = before
    by (no later) (yes after) =
        let shares : sharing s row slot' slot ≡ true =
        common_share (slot_of s row slot') (slot_of s row slot)
        (record { one = _; other = _; here = member_slot s row slot' (candidate b); there = member_slot s row slot (candidate a); same = same }) in
        let q = shared_slot s built row slot' b.which slot after shares in
        let two : turn_of slot ≡ 2 = omega (arith, slots_most s built, b.which) in
        let none : slot_line slot ≡ 2 - 2 ^ level_group 2 =
        later_line s built slot (λ z. omega arith) ∙ ap (λ (m : ℕ). m - 2 ^ level_group m) two in
        let zeroth : slot_line slot / sy s (j % s.nc) ≡ 0 = ap (λ (m : ℕ). m / sy s (j % s.nc)) none ∙ zero-div (sy s (j % s.nc)) in
        absurd (omega (arith, lower))
    by (no later) (no after) =
        let e : slot' ≡ slot = omega arith in
        absurd (omega (arith, lower, ap (λ (m : ℕ). slot_line m / sy s (j % s.nc)) e))

-- ---- the counts before a code group leave the cells of other lines

module _ {S R : Type 0} (P : S → Type 0) (Q : R → Type 0) (turn : ℕ → S → Turn S R) (x : S) where
  then_keeps : (y : S) → P y → (u : Turn S R) → Kept P Q u → P (then u (λ z. z) (λ r. y))
  then_keeps y h (go z) k = k
  then_keeps y h (stop r) k = h

  -- what each turn keeps, the states before the turns keep
  pub before_keeps : P x → (n : ℕ) → ((g : ℕ) (y : S) → g < n → P y → Kept P Q (turn g y)) → P (before turn x n)
  unfolding before
  before_keeps h zero each = h
  before_keeps h (suc n) each =
      let rest = before_keeps h n (λ g y l. each g y (omega arith)) in
      then_keeps (before turn x n) rest (turn n (before turn x n)) (each n (before turn x n) (omega arith) rest)

module _ (s : List ℕ) (c : Setting) (p : Precinct) (slot at : ℕ) (cells : List ℤ) (a : ℕ)
    (apart : (j : ℕ) → j < candidates c.shape slot → (line c p slot j).present ≡ true → Apart (line c p slot j) a) where
  lines_leave : (j : ℕ) → j ≤ candidates c.shape slot → cell (before_counts s c p slot at cells j).2 a ≡ cell cells a
  unfolding count_turn
  lines_leave j b =
      before_keeps (λ (x : Counting). cell x.2 a ≡ cell cells a) (λ (r : LineCounts × List ℤ). Unit {0})
      (count_turn s c p slot (count_bytes s c p slot at) (mark_bytes s c p slot at) (raw s c p slot at)) (0, 0, cells) refl j (λ n x l h. pick n x (omega arith) h (line c p slot n).present refl)
    where
      counting : ℕ → Counting → LineCounts × List ℤ
      counting n x =
          line_counts (count_bytes s c p slot at) (mark_bytes s c p slot at) (coding_in s c p slot at n) (place_of (line c p slot n)) x.0
          (marks s c p slot (raw s c p slot at) n) x.2

      by : (need : ℕ) (y : LineCounts × List ℤ) → cell y.1 a ≡ cell cells a
          → Kept (λ (x : Counting). cell x.2 a ≡ cell cells a) (λ (r : LineCounts × List ℤ). Unit {0}) (counted need y)
      by need (Ok k, l) h = h
      by need (Err f, l) h = tt

      pick : (n : ℕ) (x : Counting) → n < candidates c.shape slot → cell x.2 a ≡ cell cells a → (there : Bool) → (line c p slot n).present ≡ there
          → Kept (λ (x : Counting). cell x.2 a ≡ cell cells a) (λ (r : LineCounts × List ℤ). Unit {0}) (cond there (counted x.1 (counting n x)) (go x))
      pick n x l h true e =
          by x.1 (counting n x)
          (counts_other (count_bytes s c p slot at) (mark_bytes s c p slot at) (coding_in s c p slot at n) (place_of (line c p slot n)) x.0
          (marks s c p slot (raw s c p slot at) n) x.2 a (λ g f. (apart n l e).count (4 * g) (omega arith))
          ∙ h)
      pick n x l h false e = h

  pub groups_leave : (j g : ℕ) → j < candidates c.shape slot → (line c p slot j).present ≡ true → g ≤ Ncg (line c p slot j).width
      → cell (before_group s c p slot at cells j g).2 a ≡ cell cells a
  unfolding turn
  groups_leave j g l e b =
      before_keeps (λ (x : State). cell x.2 a ≡ cell cells a) (λ (r : Left). Unit {0})
      (turn (count_bytes s c p slot at) (mark_bytes s c p slot at) (coding_in s c p slot at j) (place_of (line c p slot j)) (marks s c p slot (raw s c p slot at) j))
      ((before_counts s c p slot at cells j).0, 0, (before_counts s c p slot at cells j).2)
      (lines_leave j (omega arith)) g
      (λ n x m h.
      by n x (omega arith) h
      (unpack (coding_in s c p slot at j).mode (count_bytes s c p slot at) (mark_bytes s c p slot at) (coding_in s c p slot at j) (place_of (line c p slot j))
      (marks s c p slot (raw s c p slot at) j) n x.0 x.2))
    where
      by : (n : ℕ) (x : State) → n < Ncg (line c p slot j).width → cell x.2 a ≡ cell cells a → (u : Group)
          → Kept (λ (x : State). cell x.2 a ≡ cell cells a) (λ (r : Left). Unit {0}) (stored (coding_in s c p slot at j) (count_cell (place_of (line c p slot j)) n) x u)
      by n x m h (Ok k) =
          get_or-set_other x.2 (count_cell (place_of (line c p slot j)) n) a (packed k.m (coding_in s c p slot at j).t) (pos 0) ((apart j l e).count (4 * n) (omega arith)) ∙ h
      by n x m h (Err f) = tt
