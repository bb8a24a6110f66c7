-- An accepted packet leaves in the count cell of each code group of its lines the M that Table C.8 reads there, and T of its own precinct and band. Assumes
-- nothing.
use Rattle.counts.specs.declared.Counted.{Counted}
use Rattle.std.specs.Prelude.{Ok, Err}
use mathlib.Core.Path.{◌≡◌, refl, sym, ap, ◌∙◌}
use mathlib.Core.Bool.{Bool, true, false, cond}
use mathlib.Core.List.{List}
use Prim.Native.Nat.{ℕ, ◌+◌, ◌*◌, ◌≤◌, ◌<◌}
use native.Mathlib.Nat.{mul-lt-mul_of_pos_right}
use native.Mathlib.Decide.{dec_lt}
use native.Mathlib.Omega.{arith}
use lib.IntN.{ℤ, pos}
use lib.ListN.{length, set, length-set}
use lib.Seq.{get_or-set_same, get_or-set_other}
use Rattle.whole.specs.Cells.{cell}
use Rattle.loops.specs.Run.{Turn, go, stop, then}
use Rattle.loops.specs.Before.{before}
use Rattle.loops.proofs.Before.{Turns, run_turns, before_carries}
use Rattle.rows.specs.Rows.{first, Fine, Verdict}
use Rattle.layout.specs.Cells.{start}
use Rattle.layout.specs.Slots.{candidates}
use Rattle.bits.specs.Groups.{Ncg, packed}
use Rattle.counts.specs.Lines.{count_cell, State, Left, stored, unpack, turn, end, line_counts, Founded}
use Rattle.counts.specs.declared.group.Coding.{Coding}
use Rattle.counts.specs.Groups.{Group}
use Rattle.counts.specs.declared.Place.{Place}
use Rattle.counts.specs.Lines.{Line as LineCounts, end as counts_left}
use Rattle.counts.specs.declared.group.Fault.TheVariants.{Cut, High, Long}
use Rattle.counts.proofs.Lines.{Sound, unpack_sound}
use Rattle.counts.proofs.Laws.{line_length as counts_length, line_other as counts_other}
use Rattle.values.proofs.Laws.{line_other as values_other}
use Rattle.packets.specs.declared.Setting.{Setting}
use Rattle.packets.specs.declared.Precinct.{Precinct}
use Rattle.packets.specs.Precincts.{T}
use Rattle.packets.specs.Ready.{Slotted}
use Rattle.packets.specs.Passes.{line, marks, place_of, Counting, counted, count_turn, packet_counts, values_of, valued}
use Rattle.packets.specs.Packets.{raw, head_checks, data_checks, values_by, after_counts, counts_by, packet, counts_of, count_bytes, mark_bytes}
use Rattle.packets.specs.Counted.{coding_in, before_counts, before_group}
use Rattle.packets.specs.Stored.{group_m, stored_m}
use Rattle.packets.proofs.Addresses.{same_counts, count_apart}
use Rattle.packets.proofs.Lines.{lies, there_in, stride_some}
use Rattle.packets.proofs.Laws.{clash, counts_founded, cut_refused, high_refused, long_refused, values_keep}

-- what stops is not done
stopped : {S A : Type 0} {v : LineCounts} {z : A} {r : LineCounts × A} {k : Counted} {l : A} → ◌≡◌ {A = Turn S (LineCounts × A)} (stop (v, z)) (stop r) → r ≡ (Ok k, l)
    → v ≡ Ok k
stopped {A = A} {v} {z} {r} e f =
    let q : ◌≡◌ {A = LineCounts × A} (v, z) r = cc in
    ap (λ (y : LineCounts × A). y.0) (q ∙ f)

-- a count is at most 31
group_few : (s : List ℕ) (br i : ℕ) (y : Group) → Sound s br i y → group_m y ≤ 31
group_few s br i (Ok k) f = f.0
group_few s br i (Err e) f = omega arith

-- ---- a line that is done

module _ (s sig : List ℕ) (c : Coding) (p : Place) (i z : ℕ) (cells : List ℤ) {k : Counted} {l : List ℤ} (done : line_counts s sig c p i z cells ≡ (Ok k, l)) where
  -- before group g, and what Table C.8 reads there
  abbrev state : ℕ → State
  state g = before (turn s sig c p z) (i, 0, cells) g

  abbrev reads : ℕ → Group
  reads g = unpack c.mode s sig c p z g (state g).0 (state g).2

  line_stops : (x : State) (to : ℕ) (y : Group) (r : Left) → stored c to x y ≡ stop r → r ≡ (Ok k, l) → ⊥
  line_stops x to (Ok g) r e f = let w : ◌≡◌ {A = ℕ} 0 1 = cc in omega arith
  line_stops x to (Err g) r e f = let d = stopped e f in let w : ◌≡◌ {A = ℕ} 0 1 = cc in omega arith

  turns : Turns (turn s sig c p z) (i, 0, cells) end (Ncg p.width)
  unfolding turn line_counts
  turns =
      run_turns (turn s sig c p z) (i, 0, cells) (λ (r : Left). r ≡ (Ok k, l)) end (Ncg p.width)
      (λ g r. line_stops (state g) (count_cell p g) (reads g) r) done

  -- the count goes to its cell
  group_stored : (g : ℕ) → g < Ncg p.width → (state (g + 1)).2 ≡ set (state g).2 (count_cell p g) (packed (group_m (reads g)) c.t)
  unfolding turn
  group_stored g h = by (reads g) (turns.goes g h)
    where
      by : (y : Group) → stored c (count_cell p g) (state g) y ≡ go (state (g + 1)) → (state (g + 1)).2 ≡ set (state g).2 (count_cell p g) (packed (group_m y) c.t)
      by (Ok r) e = sym (ap (λ (u : Turn State Left). then u (λ x. x.2) (λ r. r.1)) e)
      by (Err f) e = let w : ◌≡◌ {A = ℕ} 0 1 = cc in absurd (omega arith)

  module _ (inside : (g : ℕ) → g < Ncg p.width → count_cell p g < length cells) (wide : 0 < p.stride) (g : ℕ) (h : g < Ncg p.width) where
    abbrev Reached : ℕ → State → Type 0
    Reached n x = (length x.2 ≡ length cells) × (g < n → cell x.2 (count_cell p g) ≡ packed (group_m (reads g)) c.t)

    -- the cells of two groups differ
    later : (n : ℕ) → g < n → count_cell p g ≡ count_cell p n → ⊥
    later n b e = let far : 4 * g * p.stride < 4 * n * p.stride = mul-lt-mul_of_pos_right (omega arith) wide in omega arith

    step : (n : ℕ) → n < Ncg p.width → Reached n (state n) → Reached (n + 1) (state (n + 1))
    step n b q = rw (group_stored n b) (length-set (state n).2 (count_cell p n) (packed (group_m (reads n)) c.t) ∙ q.0, λ u. pick (dec_lt g n) u)
      where
        pick : Dec (g < n) → g < n + 1 → cell (set (state n).2 (count_cell p n) (packed (group_m (reads n)) c.t)) (count_cell p g) ≡ packed (group_m (reads g)) c.t
        pick (yes before) u =
            get_or-set_other (state n).2 (count_cell p n) (count_cell p g) (packed (group_m (reads n)) c.t) (pos 0) (later n before) ∙ q.1 before
        pick (no after) u =
            let same : n ≡ g = omega arith in
            let q' = rw same at q in
            rw same (get_or-set_same (state g).2 (count_cell p g) (packed (group_m (reads g)) c.t) (pos 0) (omega (arith, q'.0, inside g h)))

    -- the line leaves it there
    line_held : cell l (count_cell p g) ≡ packed (group_m (reads g)) c.t
    unfolding line_counts
    line_held =
        let q : (state (Ncg p.width)).2 ≡ l = ap (λ (r : Left). r.1) (sym turns.ends ∙ done) in
        rw (← q) ((before_carries (turn s sig c p z) (i, 0, cells) Reached (Ncg p.width) (refl, λ u. absurd (omega arith)) step).1 h)

-- ---- group g of line j of a packet

module _ (c : Setting) (p : Precinct) (slot : ℕ) (h : Slotted c p slot) (j g : ℕ) (k : j < candidates c.shape slot)
    (there : (line c p slot j).present ≡ true) (f : g < Ncg (line c p slot j).width) (s : List ℕ) (from : ℕ) (cells : List ℤ)
    (room : start c.shape c.shape.nc ≤ length cells) where
  abbrev at : ℕ
  at = count_cell (place_of (line c p slot j)) g

  -- its count cell holds M and T
  abbrev own : List ℤ → Type 0
  own l = cell l at ≡ packed (stored_m s c p slot from cells j g) (T c p (line c p slot j).band)

  pub stored_few : stored_m s c p slot from cells j g ≤ 31
  unfolding stored_m
  stored_few =
      let x = before_group s c p slot from cells j g in
      let code = coding_in s c p slot from j in
      let place = place_of (line c p slot j) in
      let z = marks s c p slot (raw s c p slot from) j in
      group_few (count_bytes s c p slot from) code.br x.0 (unpack code.mode (count_bytes s c p slot from) (mark_bytes s c p slot from) code place z g x.0 x.2)
      (unpack_sound (count_bytes s c p slot from) x.0 code.mode (mark_bytes s c p slot from) code place z g x.2)

  -- the counts of line n
  abbrev reached : ℕ → Counting
  reached n = before_counts s c p slot from cells n

  abbrev counting : ℕ → LineCounts × List ℤ
  counting n =
      line_counts (count_bytes s c p slot from) (mark_bytes s c p slot from) (coding_in s c p slot from n) (place_of (line c p slot n)) (reached n).0
      (marks s c p slot (raw s c p slot from) n) (reached n).2

  -- the line itself stores it, and no other line of the packet writes over it
  stores : {k : Counted} {l : List ℤ} → length (reached j).2 ≡ length cells → counting j ≡ (Ok k, l) → own l
  unfolding stored_m
  stores long e =
      line_held (count_bytes s c p slot from) (mark_bytes s c p slot from) (coding_in s c p slot from j) (place_of (line c p slot j)) (reached j).0
      (marks s c p slot (raw s c p slot from) j) (reached j).2 e
      (λ i m. omega (arith, (lies c p slot j h k there).inside (4 * i) (omega arith))) (stride_some c p slot j) g f

  leaves : (n : ℕ) → n < candidates c.shape slot → (line c p slot n).present ≡ true → (j ≡ n → ⊥) → cell (counting n).1 at ≡ cell (reached n).2 at
  leaves n l e other =
      counts_other (count_bytes s c p slot from) (mark_bytes s c p slot from) (coding_in s c p slot from n) (place_of (line c p slot n)) (reached n).0
      (marks s c p slot (raw s c p slot from) n) (reached n).2 at
      (λ i m z.
      other (same_counts c.shape h.settled.shape (there_in h k there) (there_in h l e) (4 * g) (4 * i) (omega arith) (omega arith) z).candidates)

  module _ {read : Counted} {l : List ℤ} (done : counts_of s c p slot from cells ≡ (Ok read, l)) where
    packet_stops : (x : Counting) (b : Bool) (y r : LineCounts × List ℤ) → cond b (counted x.1 y) (go x) ≡ stop r → r ≡ (Ok read, l) → ⊥
    packet_stops x true (Ok k, l') r e d = let w : ◌≡◌ {A = ℕ} 0 1 = cc in omega arith
    packet_stops x true (Err f, l') r e d = let v = stopped e d in let w : ◌≡◌ {A = ℕ} 0 1 = cc in omega arith
    packet_stops x false y r e d = let w : ◌≡◌ {A = ℕ} 0 1 = cc in omega arith

    lines_turn : Turns (count_turn s c p slot (count_bytes s c p slot from) (mark_bytes s c p slot from) (raw s c p slot from)) (0, 0, cells)
        counts_left (candidates c.shape slot)
    unfolding packet_counts count_turn
    lines_turn =
        run_turns (count_turn s c p slot (count_bytes s c p slot from) (mark_bytes s c p slot from) (raw s c p slot from)) (0, 0, cells)
        (λ (r : LineCounts × List ℤ). r ≡ (Ok read, l)) counts_left (candidates c.shape slot)
        (λ n r. packet_stops (reached n) (line c p slot n).present (counting n) r) done

    abbrev Carries : ℕ → Counting → Type 0
    Carries n x = (length x.2 ≡ length cells) × (j < n → own x.2)

    line_carries : (n : ℕ) → n < candidates c.shape slot → Carries n (reached n) → Carries (n + 1) (reached (n + 1))
    unfolding count_turn
    line_carries n b q = by (line c p slot n).present refl (lines_turn.goes n b)
      where
        by_line : (line c p slot n).present ≡ true → (y : LineCounts × List ℤ) → counting n ≡ y → counted (reached n).1 y ≡ go (reached (n + 1)) → Carries (n + 1) (reached (n + 1))
        by_line e (Ok k, l') r w =
            let after : reached (n + 1) ≡ (k.next, (reached n).1 + k.need, l') = cc in
            rw after (
              ap (λ (y : LineCounts × List ℤ). length y.1) (sym r)
                  ∙ counts_length (count_bytes s c p slot from) (mark_bytes s c p slot from) (coding_in s c p slot from n) (place_of (line c p slot n)) (reached n).0
                  (marks s c p slot (raw s c p slot from) n) (reached n).2
                  ∙ q.0,
              λ u. pick (dec_lt j n) u,
            )
          where
            pick : Dec (j < n) → j < n + 1 → own l'
            pick (yes before) u = ap (λ (y : LineCounts × List ℤ). cell y.1 at) (sym r) ∙ leaves n b e (λ z. omega arith) ∙ q.1 before
            pick (no past) u =
                let same : n ≡ j = omega arith in
                stores (rw same at q.0) (rw same at r)
        by_line e (Err f, l') r w = let z : ◌≡◌ {A = ℕ} 0 1 = cc in absurd (omega arith)

        by : (t : Bool) → (line c p slot n).present ≡ t → cond t (counted (reached n).1 (counting n)) (go (reached n)) ≡ go (reached (n + 1)) → Carries (n + 1) (reached (n + 1))
        by true e w = by_line e (counting n) refl w
        by false e w =
            let after : reached (n + 1) ≡ reached n = cc in
            rw after (q.0, λ u. pick (dec_lt j n) u)
          where
            pick : Dec (j < n) → j < n + 1 → own (reached n).2
            pick (yes before) u = q.1 before
            pick (no past) u =
                let same : n ≡ j = omega arith in
                let absent : true ≡ false = sym there ∙ (rw same at e) in
                let z : ◌≡◌ {A = ℕ} 0 1 = cc in
                absurd (omega arith)

    counts_hold : own l
    unfolding packet_counts
    counts_hold =
        let q : (reached (candidates c.shape slot)).2 ≡ l = ap (λ (r : LineCounts × List ℤ). r.1) (sym lines_turn.ends ∙ done) in
        rw (← q)
        ((before_carries (count_turn s c p slot (count_bytes s c p slot from) (mark_bytes s c p slot from) (raw s c p slot from)) (0, 0, cells) Carries
        (candidates c.shape slot) (refl, λ u. absurd (omega arith)) line_carries).1 k)

  -- the data and the signs leave it
  values_leave : (v : Verdict) (l : List ℤ) → own l → own (values_by s c p slot from v l).1
  values_leave (Ok _) l q =
      values_keep c p slot own
      (λ n b e dat sgn next l' r.
      values_other dat sgn (values_of c) (valued c p (line c p slot n)) next l' refl at
      (λ y m z. count_apart c.shape h.settled.shape (there_in h k there) (there_in h b e) (4 * g) y (omega arith) m z)
      ∙ r)
      _ _ l q
  values_leave (Err r) l q = q

  after_counts_lem : (x : LineCounts × List ℤ) → counts_of s c p slot from cells ≡ x → Founded c.br x.0 → (after_counts s c p slot from x).0 ≡ Fine
      → own x.1 × own (after_counts s c p slot from x).1
  after_counts_lem (Ok r, l) q b e = let held = counts_hold q in (held, values_leave (first (data_checks s c p slot from (Ok r))) l held)
  after_counts_lem (Err Cut, l) q b e = absurd (cut_refused s c p slot from l e)
  after_counts_lem (Err (High m), l) q b e = absurd (high_refused s c p slot from m l b e)
  after_counts_lem (Err (Long n), l) q b e = absurd (long_refused s c p slot from n l b e)

  by_counts : (v : Verdict) → (counts_by s c p slot from v cells).0 ≡ Fine → own (counts_of s c p slot from cells).1 × own (counts_by s c p slot from v cells).1
  by_counts (Ok _) e = after_counts_lem (counts_of s c p slot from cells) refl (counts_founded s c p slot _ _ _ cells) e
  by_counts (Err r) e = clash e

  module _ (raws : List ℕ) (fine : (packet s c p slot from raws cells).0 ≡ Fine) where
    -- behind its counts, and where the packet ends
    pub packet_counts_lem : own (counts_of s c p slot from cells).1
    unfolding packet
    packet_counts_lem = (by_counts (first (head_checks s c p slot from raws)) fine).0

    pub packet_holds : own (packet s c p slot from raws cells).1
    unfolding packet
    packet_holds = (by_counts (first (head_checks s c p slot from raws)) fine).1
