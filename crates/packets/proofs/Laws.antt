-- What a packet leaves, for the layers above: where it ends, and which cells it changes. Assumes nothing.
use Rattle.std.specs.Prelude.{Ok, Err}
use mathlib.Core.Path.{◌≡◌, refl, ◌∙◌}
use mathlib.Core.Bool.{Bool, true, false, cond}
use mathlib.Core.List.{List, ◌++◌}
use Prim.Native.Nat.{ℕ, zero, suc, ◌+◌, ◌*◌, ◌^◌, ◌≤◌, ◌<◌}
use native.Mathlib.Omega.{arith}
use borrow.Author.Tests.{eqb-true, eqb-false}
use lib.Dec.{eqb}
use lib.Pow.{pow_pos, pow_mono}
use lib.Seq.{get_or-set_same, get_or-set_other}
use lib.IntN.{ℤ, pos, nat_abs}
use lib.ListN.{length, set, length-set}
use Rattle.whole.specs.Cells.{cell, Bounded}
use Rattle.loops.specs.Run.{go}
use Rattle.loops.proofs.Laws.{Kept, run_keeps}
use Rattle.rows.specs.Rows.{first, Fine, Refused, Verdict}
use Rattle.rows.specs.declared.Check.{Check}
use Rattle.rows.proofs.Tables.{held}
use Rattle.layout.specs.declared.Line.{Line}
use Rattle.layout.specs.Slots.{candidates}
use Rattle.counts.specs.declared.group.Coding.{Coding}
use Rattle.counts.specs.Lines.{Line as LineCounts}
use Rattle.counts.specs.declared.group.Fault.TheVariants.{Cut, High, Long}
use Rattle.counts.specs.Lines.{line_counts, Founded}
use Rattle.counts.proofs.Laws.{line_founded, line_keeps, line_length as counts_length, line_other as counts_other}
use Rattle.values.specs.declared.Next.{Next}
use Rattle.values.specs.Line.{placed, value_at, line_values}
use Rattle.values.proofs.Laws.{value_small, line_length as values_length, line_other as values_other}
use Rattle.packets.specs.declared.Setting.{Setting}
use Rattle.packets.specs.declared.Precinct.{Precinct}
use Rattle.packets.specs.Ready.{Settled}
use Rattle.packets.specs.Precincts.{T}
use Rattle.packets.specs.Passes.{line, marks, coding_of, place_of, Counting, counted, count_turn, packet_counts, values_of, valued, value_turn, packet_values}
use Rattle.packets.specs.Packets.{past, dat_at, head_checks, count_checks, data_checks, values_by, after_counts, counts_by, packet, counts_of}
use Rattle.packets.proofs.LinePasses.{T_most}
use Rattle.packets.proofs.Stretches.{head_inside}

-- ---- the counts of a packet are refused for what is out of range, as each line's are

module _ (s : List ℕ) (c : Setting) (p : Precinct) (slot : ℕ) (cnt sig : List ℕ) (raw : Bool) where
  abbrev Stands : LineCounts × List ℤ → Type 0
  Stands x = Founded c.br x.0

  counted_founded : (need : ℕ) (x : LineCounts × List ℤ) → Stands x → Kept (λ (y : Counting). Unit {0}) Stands (counted need x)
  counted_founded need (Ok k, cells) h = tt
  counted_founded need (Err f, cells) h = h

  pub counts_founded : (cells : List ℤ) → Founded c.br (packet_counts s c p slot cnt sig raw cells).0
  unfolding packet_counts count_turn
  counts_founded cells =
      run_keeps (λ (y : Counting). Unit {0}) Stands (count_turn s c p slot cnt sig raw) _ (candidates c.shape slot)
      (λ x h. tt) (λ j x l h. pick j x (line c p slot j).present) (candidates c.shape slot) 0 (0, 0, cells) (omega arith) tt
    where
      pick : (j : ℕ) (x : Counting) (b : Bool) → Kept (λ (y : Counting). Unit {0}) Stands
          (cond b (counted x.1 (line_counts cnt sig (coding_of s c p raw (line c p slot j).band) (place_of (line c p slot j)) x.0 (marks s c p slot raw j) x.2)) (go x))
      pick j x true =
          let code = coding_of s c p raw (line c p slot j).band in
          let place = place_of (line c p slot j) in
          counted_founded x.1 (line_counts cnt sig code place x.0 (marks s c p slot raw j) x.2) (line_founded cnt sig code place x.0 (marks s c p slot raw j) x.2)
      pick j x false = tt

-- ---- where a packet ends

pub clash : {A : Type 0} {k : Check} → Refused k ≡ Fine → A
clash e = let z : ◌≡◌ {A = ℕ} 0 1 = cc in absurd (omega arith)

module _ (s : List ℕ) (c : Setting) (p : Precinct) (slot at : ℕ) where
  pub values_fine : (v : Verdict) (cells : List ℤ) → (values_by s c p slot at v cells).0 ≡ Fine → v ≡ Fine
  values_fine (Ok _) cells e = refl
  values_fine (Err k) cells e = clash e

  -- counts that are cut, or too high, or of codes that are too long, refuse the packet
  pub cut_refused : (cells : List ℤ) → (after_counts s c p slot at (Err Cut, cells)).0 ≡ Fine → ⊥
  cut_refused cells e =
      let t = held (count_checks s c p slot at (Err Cut)) (values_fine _ cells e) in
      omega (arith, t.0.least)

  pub high_refused : (m : ℕ) (cells : List ℤ) → 31 < m → (after_counts s c p slot at (Err (High m), cells)).0 ≡ Fine → ⊥
  high_refused m cells h e =
      let t = held (count_checks s c p slot at (Err (High m))) (values_fine _ cells e) in
      omega (arith, t.0.most)

  pub long_refused : (n : ℕ) (cells : List ℤ) → 2 ^ (c.br + 1) ≤ n → (after_counts s c p slot at (Err (Long n), cells)).0 ≡ Fine → ⊥
  long_refused n cells h e =
      let t = held (count_checks s c p slot at (Err (Long n))) (values_fine _ cells e) in
      omega (arith, t.0.most, pow_pos (c.br + 1))

  after_fine : (x : LineCounts × List ℤ) → Founded c.br x.0 → dat_at s c p slot at ≤ p.end → (after_counts s c p slot at x).0 ≡ Fine → past s c p slot at ≤ p.end
  after_fine (Ok k, cells) f h e =
      let t = held (data_checks s c p slot at (Ok k)) (values_fine _ cells e) in
      omega (arith, t.0.most, t.1.1.0.most)
  after_fine (Err Cut, cells) f h e = absurd (cut_refused cells e)
  after_fine (Err (High m), cells) f h e = absurd (high_refused m cells f e)
  after_fine (Err (Long n), cells) f h e = absurd (long_refused n cells f e)

  counts_fine : (v : Verdict) (cells : List ℤ) → (v ≡ Fine → dat_at s c p slot at ≤ p.end) → (counts_by s c p slot at v cells).0 ≡ Fine → past s c p slot at ≤ p.end
  counts_fine (Ok _) cells h e = after_fine (counts_of s c p slot at cells) (counts_founded s c p slot _ _ _ cells) (h refl) e
  counts_fine (Err k) cells h e = clash e

  -- where nothing is refused, not past its precinct
  pub packet_inside : (raws : List ℕ) (cells : List ℤ) → at ≤ p.end → (packet s c p slot at raws cells).0 ≡ Fine → past s c p slot at ≤ p.end
  unfolding packet
  packet_inside raws cells h e = counts_fine (first (head_checks s c p slot at raws)) cells (head_inside s c p slot at raws h) e

-- ---- what each line keeps, the packet keeps

module _ (c : Setting) (p : Precinct) (slot : ℕ) (P : List ℤ → Type 0) where
  abbrev CountsKeep : Type 0
  CountsKeep =
      (j : ℕ) → j < candidates c.shape slot → (line c p slot j).present ≡ true
      → (cnt sig : List ℕ) (k : Coding) → k.t ≡ T c p (line c p slot j).band → (i z : ℕ) (cells : List ℤ) → P cells → P (line_counts cnt sig k (place_of (line c p slot j)) i z cells).1

  abbrev ValuesKeep : Type 0
  ValuesKeep =
      (j : ℕ) → j < candidates c.shape slot → (line c p slot j).present ≡ true
      → (dat sgn : List ℕ) (from : Next) (cells : List ℤ) → P cells → P (line_values dat sgn (values_of c) (valued c p (line c p slot j)) from cells).1

  counted_keeps : (need : ℕ) (x : LineCounts × List ℤ) → P x.1 → Kept (λ (x : Counting). P x.2) (λ (x : LineCounts × List ℤ). P x.1) (counted need x)
  counted_keeps need (Ok k, cells) h = h
  counted_keeps need (Err f, cells) h = h

  pub counts_keep : CountsKeep → (s cnt sig : List ℕ) (raw : Bool) (cells : List ℤ) → P cells → P (packet_counts s c p slot cnt sig raw cells).1
  unfolding packet_counts count_turn
  counts_keep counts s cnt sig raw cells h =
      run_keeps (λ (x : Counting). P x.2) (λ (x : LineCounts × List ℤ). P x.1) (count_turn s c p slot cnt sig raw) _ (candidates c.shape slot)
      (λ x k. k) (λ j x l k. pick j x l k (line c p slot j).present refl) (candidates c.shape slot) 0 (0, 0, cells) (omega arith) h
    where
      pick : (j : ℕ) (x : Counting) → j < candidates c.shape slot → P x.2 → (b : Bool) → (line c p slot j).present ≡ b
          → Kept (λ (x : Counting). P x.2) (λ (x : LineCounts × List ℤ). P x.1)
          (cond b (counted x.1 (line_counts cnt sig (coding_of s c p raw (line c p slot j).band) (place_of (line c p slot j)) x.0 (marks s c p slot raw j) x.2)) (go x))
      pick j x l k true e =
          let code = coding_of s c p raw (line c p slot j).band in
          counted_keeps x.1 (line_counts cnt sig code (place_of (line c p slot j)) x.0 (marks s c p slot raw j) x.2) (counts j l e cnt sig code refl x.0 (marks s c p slot raw j) x.2 k)
      pick j x l k false e = k

  pub values_keep : ValuesKeep → (dat sgn : List ℕ) (cells : List ℤ) → P cells → P (packet_values c p slot dat sgn cells).1
  unfolding packet_values value_turn
  values_keep values dat sgn cells h =
      run_keeps (λ (x : Next × List ℤ). P x.1) (λ (x : Next × List ℤ). P x.1) (value_turn c p slot dat sgn) _ (candidates c.shape slot)
      (λ x k. k) (λ j x l k. pick j x l k (line c p slot j).present refl) (candidates c.shape slot) 0 (record { at = 0; sign = 0 }, cells) (omega arith) h
    where
      pick : (j : ℕ) (x : Next × List ℤ) → j < candidates c.shape slot → P x.1 → (b : Bool) → (line c p slot j).present ≡ b
          → P (cond b (line_values dat sgn (values_of c) (valued c p (line c p slot j)) x.0 x.1) x).1
      pick j x l k true e = values j l e dat sgn x.0 x.1 k
      pick j x l k false e = k

  module _ (counts : CountsKeep) (values : ValuesKeep) (s : List ℕ) (at : ℕ) where
    by_values : (v : Verdict) (cells : List ℤ) → P cells → P (values_by s c p slot at v cells).1
    by_values (Ok _) cells h = values_keep values _ _ cells h
    by_values (Err k) cells h = h

    by_counts : (v : Verdict) (cells : List ℤ) → P cells → P (counts_by s c p slot at v cells).1
    by_counts (Ok _) cells h =
        let x = counts_of s c p slot at cells in
        by_values (first (count_checks s c p slot at x.0 ++ data_checks s c p slot at x.0)) x.1 (counts_keep counts s _ _ _ cells h)
    by_counts (Err k) cells h = h

    pub packet_keeps : (raws : List ℕ) (cells : List ℤ) → P cells → P (packet s c p slot at raws cells).1
    unfolding packet
    packet_keeps raws cells h = by_counts (first (head_checks s c p slot at raws)) cells h

-- ---- the cells

-- cell n is no coefficient's and no count's of a line
pub record Apart (l : Line) (n : ℕ) : Type 0 where
  pub coefficient : (x : ℕ) → x < l.width → n ≡ l.cell + x * l.stride → ⊥
  pub count : (x : ℕ) → x < l.width → n ≡ l.cell + x * l.stride + l.area → ⊥

module _ (s : List ℕ) (c : Setting) (p : Precinct) (slot at : ℕ) (raws : List ℕ) (cells : List ℤ) where
  pub packet_length : length (packet s c p slot at raws cells).1 ≡ length cells
  packet_length =
      packet_keeps c p slot (λ l. length l ≡ length cells)
      (λ j h e cnt sig k t i z l q. counts_length cnt sig k (place_of (line c p slot j)) i z l ∙ q)
      (λ j h e dat sgn from l q. values_length dat sgn (values_of c) (valued c p (line c p slot j)) from l refl ∙ q)
      s at raws cells refl

  -- a packet changes the cells of its own lines alone
  pub packet_other : (n : ℕ) → ((j : ℕ) → j < candidates c.shape slot → (line c p slot j).present ≡ true → Apart (line c p slot j) n)
      → cell (packet s c p slot at raws cells).1 n ≡ cell cells n
  packet_other n apart =
      packet_keeps c p slot (λ l. cell l n ≡ cell cells n)
      (λ j h e cnt sig k t i z l q. counts_other cnt sig k (place_of (line c p slot j)) i z l n (λ g f. (apart j h e).count (4 * g) (omega arith)) ∙ q)
      (λ j h e dat sgn from l q. values_other dat sgn (values_of c) (valued c p (line c p slot j)) from l refl n (apart j h e).coefficient ∙ q)
      s at raws cells refl

-- ---- the size of what the cells hold

bounded_set : {B : ℕ} {l : List ℤ} (a : ℕ) (v : ℤ) → Bounded B l → nat_abs v ≤ B → Bounded B (set l a v)
bounded_set {B} {l} a v h k = record { most = λ j i. pick j (omega (arith, i, length-set l a v)) (eqb j a) refl }
  where
    pick : (j : ℕ) → j < length l → (b : Bool) → eqb j a ≡ b → nat_abs (cell (set l a v) j) ≤ B
    pick j i true e =
        let q = eqb-true j a e in
        rw (q, get_or-set_same l a v (pos 0) (rw q at i)) k
    pick j i false e = rw (get_or-set_other l a j v (pos 0) (eqb-false j a e)) (h.most j i)

placed_keeps : (P : List ℤ → Type 0) (first stride : ℕ) (f : ℕ → ℤ) → ((x : ℕ) (l : List ℤ) → P l → P (set l (first + x * stride) (f x)))
    → (n : ℕ) (cells : List ℤ) → P cells → P (placed first stride f n cells)
unfolding placed
placed_keeps P first stride f each zero cells h = h
placed_keeps P first stride f each (suc n) cells h = each n _ (placed_keeps P first stride f each n cells h)

values_bounded : (c : Setting) (p : Precinct) (l : Line) (dat sgn : List ℕ) (from : Next) (cells : List ℤ) {B : ℕ} → 2 ^ (31 + c.fq) ≤ B → Bounded B cells
    → Bounded B (line_values dat sgn (values_of c) (valued c p l) from cells).1
unfolding line_values
values_bounded c p l dat sgn from cells {B} h k =
    placed_keeps (Bounded B) l.cell l.stride (value_at dat sgn (values_of c) (valued c p l) from cells)
    (λ x l' q. bounded_set _ _ q (omega (arith, h, value_small dat sgn (values_of c) (valued c p l) from cells x {F = c.fq} (omega arith)))) l.width cells k

-- counts and coefficients are small
pub packet_bounded : (s : List ℕ) (c : Setting) (p : Precinct) (slot at : ℕ) (raws : List ℕ) (cells : List ℤ) {B : ℕ} → Settled c → 2 ^ (31 + c.fq) ≤ B
    → Bounded B cells → Bounded B (packet s c p slot at raws cells).1
packet_bounded s c p slot at raws cells {B} settled h =
    packet_keeps c p slot (Bounded B)
    (λ j f e cnt sig k t i z l q.
    line_keeps cnt sig k (place_of (line c p slot j)) i z l (Bounded B)
    (λ g m l' u v w. bounded_set _ _ w (omega (arith, h, v, t, T_most c p (line c p slot j).band settled, pow_mono {i = 31} {j = 31 + c.fq} (omega arith)))) q)
    (λ j f e dat sgn from l q. values_bounded c p (line c p slot j) dat sgn from l h q)
    s at raws cells
