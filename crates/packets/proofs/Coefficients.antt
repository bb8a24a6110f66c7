-- What an accepted packet writes: each coefficient of its lines, by the quantiser and T of its own precinct and band. Assumes nothing.
use Rattle.std.specs.Prelude.{Ok, Err}
use mathlib.Core.Path.{◌≡◌, refl, sym, ap, ◌∙◌}
use mathlib.Core.Bool.{Bool, true, false, cond}
use mathlib.Core.List.{List, ◌++◌}
use Prim.Native.Nat.{ℕ, ◌+◌, ◌*◌, ◌/◌, ◌%◌, ◌≤◌, ◌<◌}
use native.Mathlib.Numerals.{add-one}
use native.Mathlib.Decide.{dec_lt}
use native.Mathlib.Omega.{arith}
use lib.IntN.{ℤ, nat_abs}
use lib.ListN.{length}
use Rattle.whole.specs.Cells.{cell}
use Rattle.rows.specs.Rows.{first, Fine, Verdict}
use Rattle.quantiser.specs.Inverse.{coefficient_of, scaled, Carried}
use Rattle.layout.specs.Cells.{start}
use Rattle.layout.specs.Slots.{candidates, line as line_of, line_at}
use Rattle.loops.specs.Run.{Turn, go, stop}
use Rattle.loops.specs.Before.{before}
use Rattle.loops.proofs.Before.{Turns, run_turns, before_carries}
use Rattle.counts.proofs.Laws.{held_m_lem, line_length as counts_length}
use Rattle.values.specs.declared.Next.{Next}
use Rattle.bits.specs.Groups.{Ncg, held_m}
use Rattle.values.specs.Group.{index}
use Rattle.values.specs.Line.{count_place, M, behind, group_at, index_at, line_values}
use Rattle.values.proofs.Laws.{index_carried, behind_same, line_coefficient, line_length as values_length, line_other as values_other}
use Rattle.packets.specs.declared.Setting.{Setting}
use Rattle.packets.specs.declared.Precinct.{Precinct}
use Rattle.packets.specs.Precincts.{T}
use Rattle.packets.specs.Ready.{Slotted}
use Rattle.packets.specs.Passes.{line, place_of, values_of, valued, value_turn, packet_values}
use Rattle.packets.specs.Packets.{head_checks, count_checks, data_checks, values_by, counts_by, packet, counts_of, data_bytes, sign_bytes}
use Rattle.packets.specs.Stored.{stored_m, before_line, stored_index}
use Rattle.packets.proofs.Addresses.{same_line, count_apart}
use Rattle.packets.proofs.Lines.{lies, there_in, stride_some}
use Rattle.packets.proofs.Laws.{clash, counts_keep}
use Rattle.packets.proofs.Counts.{stored_few, packet_counts_lem}

-- ---- the data and the signs, line after line

module _ (c : Setting) (p : Precinct) (slot : ℕ) (dat sgn : List ℕ) (cells : List ℤ) where
  -- what the lines before g leave
  abbrev lines_leave : ℕ → Next × List ℤ
  lines_leave g = before (value_turn c p slot dat sgn) (record { at = 0; sign = 0 }, cells) g

  goes_not : {y r : Next × List ℤ} → ◌≡◌ {A = Turn (Next × List ℤ) (Next × List ℤ)} (go y) (stop r) → ⊥
  goes_not e = let z : ◌≡◌ {A = ℕ} 0 1 = cc in omega arith

  turns : Turns (value_turn c p slot dat sgn) (record { at = 0; sign = 0 }, cells) (λ y. y) (candidates c.shape slot)
  unfolding value_turn
  turns = run_turns (value_turn c p slot dat sgn) (record { at = 0; sign = 0 }, cells) (λ r. Unit {0}) (λ y. y) (candidates c.shape slot) (λ g r e u. goes_not e) tt

  next : (g : ℕ) → g < candidates c.shape slot
      → lines_leave (g + 1)
      ≡ cond (line c p slot g).present (line_values dat sgn (values_of c) (valued c p (line c p slot g)) (lines_leave g).0 (lines_leave g).1) (lines_leave g)
  unfolding value_turn
  next g l =
      let q = turns.goes g l in
      cc

-- ---- coefficient x of line j

module _ (c : Setting) (p : Precinct) (slot : ℕ) (h : Slotted c p slot) (j x : ℕ) (k : j < candidates c.shape slot) (there : (line c p slot j).present ≡ true)
    (f : x < (line c p slot j).width) where
  -- the cell of coefficient x of line j
  abbrev to : ℕ
  to = (line c p slot j).cell + x * (line c p slot j).stride

  -- no line writes over the count
  still : (g : ℕ) → g < candidates c.shape slot → (line c p slot g).present ≡ true → (dat sgn : List ℕ) (from : Next) (cells : List ℤ)
      → M (valued c p (line c p slot j)) (line_values dat sgn (values_of c) (valued c p (line c p slot g)) from cells).1 (x / 4) ≡ M (valued c p (line c p slot j)) cells (x / 4)
  unfolding M
  still g l e dat sgn from cells =
      ap held_m
      (values_other dat sgn (values_of c) (valued c p (line c p slot g)) from cells refl (count_place (valued c p (line c p slot j)) (x / 4))
      (λ y n z. count_apart c.shape h.settled.shape (there_in h k there) (there_in h l e) (4 * (x / 4)) y (omega arith) n z))

  module _ (dat sgn : List ℕ) (cells : List ℤ) where
    abbrev from : ℕ → Next × List ℤ
    from g = lines_leave c p slot dat sgn cells g

    abbrev m : ℕ
    m = M (valued c p (line c p slot j)) cells (x / 4)

    abbrev indexed : ℤ
    indexed = index_at dat sgn (values_of c) (valued c p (line c p slot j)) (from j).0 (from j).1 x

    -- what the lines before g leave: no other line of the packet writes over the coefficient, and none over the count
    abbrev Carries : ℕ → Next × List ℤ → Type 0
    Carries g y =
        (length y.1 ≡ length cells) × (M (valued c p (line c p slot j)) y.1 (x / 4) ≡ m)
        × (j < g → cell y.1 to ≡ scaled c.fq (coefficient_of c.uniform m (T c p (line c p slot j).band) indexed))

    module _ (room : start c.shape c.shape.nc ≤ length cells) where
      step : (g : ℕ) → g < candidates c.shape slot → Carries g (from g) → Carries (g + 1) (from (g + 1))
      step g l q = rw (next c p slot dat sgn cells g l) (pick (line c p slot g).present refl)
        where
          pick : (b : Bool) → (line c p slot g).present ≡ b → Carries (g + 1) (cond b (line_values dat sgn (values_of c) (valued c p (line c p slot g)) (from g).0 (from g).1) (from g))
          pick true e = (
            values_length dat sgn (values_of c) (valued c p (line c p slot g)) (from g).0 (from g).1 refl ∙ q.0,
            still g l e dat sgn (from g).0 (from g).1 ∙ q.1,
            λ u. by (dec_lt j g) u,
          )
            where
              by : Dec (j < g) → j < g + 1
                  → cell (line_values dat sgn (values_of c) (valued c p (line c p slot g)) (from g).0 (from g).1).1 to ≡ scaled c.fq (coefficient_of c.uniform m (T c p (line c p slot j).band) indexed)
              by (yes before) u =
                  values_other dat sgn (values_of c) (valued c p (line c p slot g)) (from g).0 (from g).1 refl to
                  (λ x' f' z. omega (arith, (same_line c.shape h.settled.shape (there_in h k there) (there_in h l e) x x' f f' z).candidates))
                  ∙ q.2 before
              by (no after) u =
                  let same : g ≡ j = omega arith in
                  let q' = rw same at q in
                  let z = from j in
                  rw same
                  (line_coefficient dat sgn (values_of c) (valued c p (line c p slot j)) z.0 z.1 refl (stride_some c p slot j) x f
                  (omega (arith, (lies c p slot j h k there).inside x f, q'.0))
                  ∙ ap (λ (m : ℕ). scaled c.fq (coefficient_of c.uniform m (T c p (line c p slot j).band) indexed)) q'.1)
          pick false e = (q.0, q.1, λ u. by (dec_lt j g) u)
            where
              by : Dec (j < g) → j < g + 1 → cell (from g).1 to ≡ scaled c.fq (coefficient_of c.uniform m (T c p (line c p slot j).band) indexed)
              by (yes before) u = q.2 before
              by (no after) u =
                  let same : g ≡ j = omega arith in
                  let absent : true ≡ false = sym there ∙ (rw same at e) in
                  let z : ◌≡◌ {A = ℕ} 0 1 = cc in
                  absurd (omega arith)

      carries : (g : ℕ) → g ≤ candidates c.shape slot → Carries g (from g)
      carries g b =
          before_carries (value_turn c p slot dat sgn) (record { at = 0; sign = 0 }, cells) Carries g (refl, refl, λ l. absurd (omega arith))
          (λ n l. step n (omega arith))

      -- the coefficient by its index and its group's count, and the index carried by M − T planes
      record Written (l : List ℤ) : Type 0 where
        pub is : cell l to ≡ scaled c.fq (coefficient_of c.uniform m (T c p (line c p slot j).band) indexed)
        pub carried : Carried m (T c p (line c p slot j).band) (nat_abs indexed)

      values_write : Written (packet_values c p slot dat sgn cells).1
      unfolding packet_values
      values_write =
          let all = carries (candidates c.shape slot) (omega arith) in
          let end = ap (λ (y : Next × List ℤ). y.1) (turns c p slot dat sgn cells).ends in
          record {
            is = rw end (all.2 k);
            carried = rw (carries j (omega arith)).1 at (index_carried dat sgn (values_of c) (valued c p (line c p slot j)) (from j).0 (from j).1 x);
          }

  module _ (s : List ℕ) (at : ℕ) where
    abbrev dat : List ℕ
    dat = data_bytes s c p slot at

    abbrev sgn : List ℕ
    sgn = sign_bytes s c p slot at

    by_values : (v : Verdict) (cells : List ℤ) (room : start c.shape c.shape.nc ≤ length cells) → (values_by s c p slot at v cells).0 ≡ Fine
        → Written dat sgn cells room (values_by s c p slot at v cells).1
    by_values (Ok _) cells room e = values_write dat sgn cells room
    by_values (Err r) cells room e = clash e

    counts_room : (cells : List ℤ) → start c.shape c.shape.nc ≤ length cells → start c.shape c.shape.nc ≤ length (counts_of s c p slot at cells).1
    counts_room cells room =
        let kept : length (counts_of s c p slot at cells).1 ≡ length cells =
        counts_keep c p slot (λ l. length l ≡ length cells) (λ g a b cnt sig o t i z l q. counts_length cnt sig o (place_of (line c p slot g)) i z l ∙ q)
        s _ _ _ cells refl in
        omega (arith, kept)

    by_counts : (v : Verdict) (cells : List ℤ) (room : start c.shape c.shape.nc ≤ length cells) → (counts_by s c p slot at v cells).0 ≡ Fine
        → Written dat sgn (counts_of s c p slot at cells).1 (counts_room cells room) (counts_by s c p slot at v cells).1
    by_counts (Ok _) cells room e =
        let y = counts_of s c p slot at cells in
        by_values (first (count_checks s c p slot at y.0 ++ data_checks s c p slot at y.0)) y.1 (counts_room cells room) e
    by_counts (Err r) cells room e = clash e

    module _ (raws : List ℕ) (cells : List ℤ) (room : start c.shape c.shape.nc ≤ length cells) (fine : (packet s c p slot at raws cells).0 ≡ Fine) where
      written : Written dat sgn (counts_of s c p slot at cells).1 (counts_room cells room) (packet s c p slot at raws cells).1
      unfolding packet
      written = by_counts (first (head_checks s c p slot at raws)) cells room fine

      -- the count in its group's cell is the M that was read
      read : M (valued c p (line c p slot j)) (counts_of s c p slot at cells).1 (x / 4) ≡ stored_m s c p slot at cells j (x / 4)
      unfolding M
      read =
          let held = packet_counts_lem c p slot h j (x / 4) k there (omega arith) s at cells room raws fine in
          rw held (held_m_lem (stored_m s c p slot at cells j (x / 4)) (T c p (line c p slot j).band) (stored_few c p slot h j (x / 4) k there (omega arith) s at cells room))

      -- and the data are read by it
      seen : M (valued c p (line c p slot j)) (from dat sgn (counts_of s c p slot at cells).1 j).1 (x / 4) ≡ stored_m s c p slot at cells j (x / 4)
      seen = (carries dat sgn (counts_of s c p slot at cells).1 (counts_room cells room) j (omega arith)).1 ∙ read

-- ---- an accepted packet

module _ (c : Setting) (p : Precinct) (slot : ℕ) (h : Slotted c p slot) (s : List ℕ) (at : ℕ) (raws : List ℕ) (cells : List ℤ)
    (room : start c.shape c.shape.nc ≤ length cells) (fine : (packet s c p slot at raws cells).0 ≡ Fine) where
  -- what the lines of the data before j leave
  abbrev reached : ℕ → Next × List ℤ
  reached j = lines_leave c p slot (data_bytes s c p slot at) (sign_bytes s c p slot at) (counts_of s c p slot at cells).1 j

  abbrev line_m : ℕ → ℕ → ℕ
  line_m j g = M (valued c p (line c p slot j)) (reached j).1 g

  groups_are : (j : ℕ) → (line c p slot j).groups ≡ Ncg (line c p slot j).width
  unfolding line_at line_of
  groups_are j = refl

  module _ (j : ℕ) (k : j < candidates c.shape slot) (there : (line c p slot j).present ≡ true) where
    -- the data of line j are read by its own M
    sees : (g : ℕ) → g < Ncg (line c p slot j).width → line_m j g ≡ stored_m s c p slot at cells j g
    sees g l =
        let first : 4 * g / 4 ≡ g = omega arith in
        rw first at (seen c p slot h j (4 * g) k there (omega arith) s at raws cells room fine)

    behind_line : (g : ℕ) → g ≤ Ncg (line c p slot j).width
        → group_at (data_bytes s c p slot at) (values_of c) (valued c p (line c p slot j)) (reached j).0 (reached j).1 g
        ≡ behind (data_bytes s c p slot at) c.fs (T c p (line c p slot j).band) (stored_m s c p slot at cells j) (reached j).0 g
    behind_line g b =
        behind_same (data_bytes s c p slot at) c.fs (T c p (line c p slot j).band) (reached j).0 (line_m j) (stored_m s c p slot at cells j) g
        (λ i l. sees i (omega arith))

  abbrev Comes : ℕ → Next × List ℤ → Type 0
  Comes n y = y.0 ≡ before_line s c p slot at cells n

  -- the lines stand one after the other
  comes : (n : ℕ) → n < candidates c.shape slot → Comes n (reached n) → Comes (n + 1) (reached (n + 1))
  unfolding before_line line_values
  comes n l q =
      rw (next c p slot (data_bytes s c p slot at) (sign_bytes s c p slot at) (counts_of s c p slot at cells).1 n l, add-one n)
      (by (line c p slot n).present refl)
    where
      by : (b : Bool) → (line c p slot n).present ≡ b
          → (cond b (line_values (data_bytes s c p slot at) (sign_bytes s c p slot at) (values_of c) (valued c p (line c p slot n)) (reached n).0 (reached n).1) (reached n)).0
          ≡ cond b (behind (data_bytes s c p slot at) c.fs (T c p (line c p slot n).band) (stored_m s c p slot at cells n) (before_line s c p slot at cells n) (line c p slot n).groups) (before_line s c p slot at cells n)
      by true e =
          behind_line n l e (Ncg (line c p slot n).width) (omega arith)
          ∙ (λ i. behind (data_bytes s c p slot at) c.fs (T c p (line c p slot n).band) (stored_m s c p slot at cells n) (q i) (sym (groups_are n) i))
      by false e = q

  line_comes : (j : ℕ) → j ≤ candidates c.shape slot → (reached j).0 ≡ before_line s c p slot at cells j
  unfolding before_line
  line_comes j b =
      before_carries (value_turn c p slot (data_bytes s c p slot at) (sign_bytes s c p slot at)) (record { at = 0; sign = 0 }, (counts_of s c p slot at cells).1) Comes j refl
      (λ n l. comes n (omega arith))

  module _ (j x : ℕ) (k : j < candidates c.shape slot) (there : (line c p slot j).present ≡ true) (f : x < (line c p slot j).width) where
    index_is : index_at (data_bytes s c p slot at) (sign_bytes s c p slot at) (values_of c) (valued c p (line c p slot j)) (reached j).0 (reached j).1 x ≡ stored_index s c p slot at cells j x
    unfolding index_at stored_index
    index_is =
        let n =
        behind_line j k there (x / 4) (omega arith)
        ∙ ap (λ (y : Next). behind (data_bytes s c p slot at) c.fs (T c p (line c p slot j).band) (stored_m s c p slot at cells j) y (x / 4)) (line_comes j (omega arith)) in
        let m = sees j k there (x / 4) (omega arith) in
        λ i. index (data_bytes s c p slot at) c.fs (m i) (T c p (line c p slot j).band) (n i).at (sign_bytes s c p slot at) (n i).sign (x % 4)

    -- Annex D, E.3: an accepted packet leaves c'[p,λ,b,ξ] × 2^Fq, of the index stored for it, M of its group and T of its precinct and band
    pub packet_index : cell (packet s c p slot at raws cells).1 (to c p slot h j x k there f)
        ≡ scaled c.fq (coefficient_of c.uniform (stored_m s c p slot at cells j (x / 4)) (T c p (line c p slot j).band) (stored_index s c p slot at cells j x))
    packet_index = rw (← read c p slot h j x k there f s at raws cells room fine, ← index_is) (written c p slot h j x k there f s at raws cells room fine).is

    -- and the index is one that M − T planes carry
    pub packet_carried : Carried (stored_m s c p slot at cells j (x / 4)) (T c p (line c p slot j).band) (nat_abs (stored_index s c p slot at cells j x))
    packet_carried = rw (← read c p slot h j x k there f s at raws cells room fine, ← index_is) (written c p slot h j x k there f s at raws cells room fine).carried
