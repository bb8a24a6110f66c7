-- The nibbles of data that a packet's counts ask for, by which the data's length is judged, are those that are read. Assumes nothing.
use Rattle.counts.specs.declared.Counted.{Counted}
use Rattle.std.specs.Prelude.{Ok, Err}
use mathlib.Core.Path.{◌≡◌, refl, sym, ap, ◌∙◌}
use mathlib.Core.Bool.{Bool, true, false, cond}
use mathlib.Core.List.{List}
use Prim.Native.Nat.{ℕ, zero, suc, ◌+◌, ◌*◌, ◌≤◌, ◌<◌}
use native.Mathlib.Nat.{add-zero}
use native.Mathlib.Omega.{arith}
use lib.IntN.{ℤ}
use lib.ListN.{length}
use Rattle.bits.specs.Groups.{Ng, Ncg, held_m}
use Rattle.whole.specs.Numbers.{ceil_div}
use Rattle.loops.specs.Run.{go}
use Rattle.loops.proofs.Laws.{Kept, run_carries}
use Rattle.rows.specs.Rows.{first, Fine, Verdict}
use Rattle.rows.proofs.Tables.{held}
use Rattle.layout.specs.declared.Line.{Line}
use Rattle.layout.specs.Cells.{start}
use Rattle.layout.specs.Slots.{candidates}
use Rattle.counts.specs.Lines.{count_cell, line_counts, Founded}
use Rattle.counts.specs.Lines.{Line as LineCounts}
use Rattle.counts.specs.declared.group.Fault.TheVariants.{Cut, High, Long}
use Rattle.counts.proofs.Laws.{total, total_more, total_none, takes, done_sum, line_length as counts_length, line_other as counts_other}
use Rattle.values.specs.declared.Next.{Next}
use Rattle.values.specs.Line.{count_place, M, line_values}
use Rattle.values.proofs.Lines.{nibbles}
use Rattle.values.proofs.Laws.{nibbles_same, line_nibbles, line_other as values_other}
use Rattle.packets.specs.declared.Setting.{Setting}
use Rattle.packets.specs.declared.Precinct.{Precinct}
use Rattle.packets.specs.Ready.{Slotted}
use Rattle.packets.specs.Passes.{line, marks, coding_of, place_of, Counting, counted, count_turn, packet_counts, values_of, valued, value_turn, packet_values}
use Rattle.packets.specs.Packets.{head, head_checks, data_checks, after_counts, counts_by, packet, counts_of}
use Rattle.packets.specs.Table.{values_after}
use Rattle.packets.proofs.Addresses.{same_counts, count_apart}
use Rattle.packets.proofs.Lines.{lies, there_in, stride_some}
use Rattle.packets.proofs.Laws.{clash, counts_founded, values_fine, cut_refused, high_refused, long_refused}

-- ---- a line: both passes read M of a group from the same cell
module _ (s : List ℕ) (c : Setting) (p : Precinct) (raw : Bool) (l : Line) where
  nibbles_sum : (cells : List ℤ) (n : ℕ) → total (takes (coding_of s c p raw l.band) (place_of l) cells) n ≡ nibbles (valued c p l) cells c.fs n
  unfolding total nibbles M
  nibbles_sum cells zero = refl
  nibbles_sum cells (suc n) = ap (λ (k : ℕ). k + takes (coding_of s c p raw l.band) (place_of l) cells n) (nibbles_sum cells n)

  line_need : (cnt sig : List ℕ) (i z : ℕ) (cells : List ℤ) {k : Counted} {after : List ℤ}
      → line_counts cnt sig (coding_of s c p raw l.band) (place_of l) i z cells ≡ (Ok k, after)
      → ((g : ℕ) → g < Ncg l.width → count_cell (place_of l) g < length cells) → 0 < l.stride
      → k.need ≡ nibbles (valued c p l) after c.fs (Ncg l.width)
  line_need cnt sig i z cells {after = after} e inside wide =
      done_sum cnt sig (coding_of s c p raw l.band) (place_of l) i z cells e inside wide ∙ nibbles_sum after (Ncg l.width)

-- ---- the lines of a packet
module _ (c : Setting) (p : Precinct) (slot : ℕ) (h : Slotted c p slot) where
  -- what line j asks for, by the counts that the cells hold
  abbrev asks : Bool → List ℤ → ℕ → ℕ
  asks there l j = cond there (nibbles (valued c p (line c p slot j)) l c.fs (Ncg (line c p slot j).width)) 0

  abbrev asked : List ℤ → ℕ → ℕ
  asked l j = asks (line c p slot j).present l j

  -- cells that hold the same counts of line j
  abbrev Same : List ℤ → List ℤ → ℕ → Type 0
  Same l l' j = (line c p slot j).present ≡ true → (g : ℕ) → g < Ncg (line c p slot j).width → M (valued c p (line c p slot j)) l g ≡ M (valued c p (line c p slot j)) l' g

  asked_same : (l l' : List ℤ) (j : ℕ) → Same l l' j → asked l j ≡ asked l' j
  asked_same l l' j same = pick (line c p slot j).present refl
    where
      pick : (b : Bool) → (line c p slot j).present ≡ b → asks b l j ≡ asks b l' j
      pick true e = nibbles_same (valued c p (line c p slot j)) l l' c.fs (Ncg (line c p slot j).width) (same e)
      pick false e = refl

  -- ---- the counts
  module _ (s cnt sig : List ℕ) (raw : Bool) (cells : List ℤ) (room : start c.shape c.shape.nc ≤ length cells) where
    abbrev counting : ℕ → Counting → LineCounts × List ℤ
    counting n x = line_counts cnt sig (coding_of s c p raw (line c p slot n).band) (place_of (line c p slot n)) x.0 (marks s c p slot raw n) x.2

    -- line n writes over no count of another line
    leaves : (n : ℕ) (x : Counting) → n < candidates c.shape slot → (line c p slot n).present ≡ true → (j : ℕ) → j < n → Same x.2 (counting n x).1 j
    unfolding M
    leaves n x l e j k there g f =
        ap held_m
        (sym
        (counts_other cnt sig _ (place_of (line c p slot n)) x.0 (marks s c p slot raw n) x.2 (count_place (valued c p (line c p slot j)) g)
        (λ i m z.
        let same = (same_counts c.shape h.settled.shape (there_in h (omega arith) there) (there_in h l e) (Ng * g) (Ng * i) (omega arith) (omega arith) z).candidates in
        omega (arith, same))))

    abbrev Carries : ℕ → Counting → Type 0
    Carries n x = (length x.2 ≡ length cells) × (x.1 ≡ total (asked x.2) n)

    abbrev Asked : LineCounts × List ℤ → Type 0
    Asked (Ok k, l) = k.need ≡ total (asked l) (candidates c.shape slot)
    Asked (Err f, l) = Unit {0}

    by_result : (n : ℕ) (x : Counting) → n < candidates c.shape slot → Carries n x → (line c p slot n).present ≡ true → (y : LineCounts × List ℤ)
        → counting n x ≡ y → Kept (Carries (n + 1)) Asked (counted x.1 y)
    by_result n x l q e (Ok k, l') r = (
      ap (λ (y : LineCounts × List ℤ). length y.1) (sym r)
          ∙ counts_length cnt sig _ (place_of (line c p slot n)) x.0 (marks s c p slot raw n) x.2
          ∙ q.0,
      total_more (asked x.2) (asked l') n x.1 k.need q.1
          (λ j k. asked_same x.2 l' j (rw (ap (λ (y : LineCounts × List ℤ). y.1) r) at (leaves n x l e j k)))
          (rw e
          (line_need s c p raw (line c p slot n) cnt sig x.0 (marks s c p slot raw n) x.2 r
          (λ g m. omega (arith, q.0, (lies c p slot n h l e).inside (Ng * g) (omega arith))) (stride_some c p slot n))),
    )
    by_result n x l q e (Err f, l') r = tt

    pick : (n : ℕ) (x : Counting) → n < candidates c.shape slot → Carries n x → (b : Bool) → (line c p slot n).present ≡ b
        → Kept (Carries (n + 1)) Asked (cond b (counted x.1 (counting n x)) (go x))
    pick n x l q true e = by_result n x l q e (counting n x) refl
    pick n x l q false e = (q.0, sym (add-zero x.1) ∙ total_more (asked x.2) (asked x.2) n x.1 0 q.1 (λ j k. refl) (rw e))

    counts_ask : Asked (packet_counts s c p slot cnt sig raw cells)
    unfolding packet_counts count_turn
    counts_ask =
        run_carries Carries Asked (count_turn s c p slot cnt sig raw) _ (candidates c.shape slot) (λ x q. q.1)
        (λ n x l q. pick n x l q (line c p slot n).present refl) (candidates c.shape slot) 0 (0, 0, cells) (omega arith)
        (refl, total_none (asked cells))

  -- ---- the values
  module _ (dat sgn : List ℕ) (cells : List ℤ) where
    -- no line writes over a count
    still : (n : ℕ) (y : Next × List ℤ) → n < candidates c.shape slot → (line c p slot n).present ≡ true → (j : ℕ) → j < candidates c.shape slot
        → Same (line_values dat sgn (values_of c) (valued c p (line c p slot n)) y.0 y.1).1 y.1 j
    unfolding M
    still n y l e j k there g f =
        ap held_m
        (values_other dat sgn (values_of c) (valued c p (line c p slot n)) y.0 y.1 refl (count_place (valued c p (line c p slot j)) g)
        (λ x m z. count_apart c.shape h.settled.shape (there_in h k there) (there_in h l e) (Ng * g) x (omega arith) m z))

    abbrev Reads : ℕ → Next × List ℤ → Type 0
    Reads n y = ((j : ℕ) → j < candidates c.shape slot → Same y.1 cells j) × (y.0.at ≡ total (asked cells) n)

    reads_next : (n : ℕ) (y : Next × List ℤ) → n < candidates c.shape slot → Reads n y → (b : Bool) → (line c p slot n).present ≡ b
        → Reads (n + 1) (cond b (line_values dat sgn (values_of c) (valued c p (line c p slot n)) y.0 y.1) y)
    reads_next n y l q true e = (
      λ j k there g f. still n y l e j k there g f ∙ q.0 j k there g f,
      line_nibbles dat sgn (values_of c) (valued c p (line c p slot n)) y.0 y.1 refl
          ∙ total_more (asked cells) (asked cells) n y.0.at _ q.1 (λ j k. refl)
          (rw e (nibbles_same (valued c p (line c p slot n)) y.1 cells c.fs (Ncg (line c p slot n).width) (q.0 n l e))),
    )
    reads_next n y l q false e = (q.0, sym (add-zero y.0.at) ∙ total_more (asked cells) (asked cells) n y.0.at 0 q.1 (λ j k. refl) (rw e))

    values_read : (packet_values c p slot dat sgn cells).0.at ≡ total (asked cells) (candidates c.shape slot)
    unfolding packet_values value_turn
    values_read =
        run_carries Reads (λ y. y.0.at ≡ total (asked cells) (candidates c.shape slot)) (value_turn c p slot dat sgn) _ (candidates c.shape slot)
        (λ y q. q.1) (λ n y l q. reads_next n y l q (line c p slot n).present refl) (candidates c.shape slot) 0 (record { at = 0; sign = 0 }, cells) (omega arith)
        (λ j k there g f. refl, total_none (asked cells))

  -- ---- both: whatever the data and the signs are, counts that are done ask for the nibbles that the values read
  pub need_is_read : (s cnt sig : List ℕ) (raw : Bool) (cells : List ℤ) → start c.shape c.shape.nc ≤ length cells → (dat sgn : List ℕ)
      {k : Counted} {l : List ℤ} → packet_counts s c p slot cnt sig raw cells ≡ (Ok k, l) → (packet_values c p slot dat sgn l).0.at ≡ k.need
  need_is_read s cnt sig raw cells room dat sgn {l = l} e = values_read dat sgn l ∙ sym (rw e at (counts_ask s cnt sig raw cells room))

  -- so of a packet's own subpackets
  pub packet_need : (s : List ℕ) (at : ℕ) (cells : List ℤ) → start c.shape c.shape.nc ≤ length cells → {k : Counted}
      → (counts_of s c p slot at cells).0 ≡ Ok k → (values_after s c p slot at cells).0.at ≡ k.need
  packet_need s at cells room e = need_is_read s _ _ _ cells room _ _ (λ i. (e i, (counts_of s c p slot at cells).1))

  -- and the data of an accepted packet hold all that is read of them
  module _ (s : List ℕ) (at : ℕ) (cells : List ℤ) (room : start c.shape c.shape.nc ≤ length cells) where
    abbrev Held : Type 0
    Held = ceil_div (values_after s c p slot at cells).0.at 2 ≤ (head s c p slot at).ldat

    by_counts : (x : LineCounts × List ℤ) → counts_of s c p slot at cells ≡ x → Founded c.br x.0 → (after_counts s c p slot at x).0 ≡ Fine → Held
    by_counts (Ok r, l) e k f =
        let t = held (data_checks s c p slot at (Ok r)) (values_fine s c p slot at _ l f) in
        rw (packet_need s at cells room (ap (λ (x : LineCounts × List ℤ). x.0) e)) t.1.0.least
    by_counts (Err Cut, l) e k f = absurd (cut_refused s c p slot at l f)
    by_counts (Err (High m), l) e k f = absurd (high_refused s c p slot at m l k f)
    by_counts (Err (Long n), l) e k f = absurd (long_refused s c p slot at n l k f)

    by_head : (v : Verdict) → (counts_by s c p slot at v cells).0 ≡ Fine → Held
    by_head (Ok _) e = by_counts (counts_of s c p slot at cells) refl (counts_founded s c p slot _ _ _ cells) e
    by_head (Err k) e = clash e

    pub data_held : (raws : List ℕ) → (packet s c p slot at raws cells).0 ≡ Fine → Held
    unfolding packet
    data_held raws e = by_head (first (head_checks s c p slot at raws)) e
