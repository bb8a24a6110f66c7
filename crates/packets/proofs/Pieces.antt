-- The pieces of an accepted packet tile it, from its header to the place behind it, and its contents are those that the decoders come to. Assumes nothing.
use Rattle.counts.specs.declared.Counted.{Counted}
use Rattle.std.specs.Prelude.{Result, Ok, Err}
use Prim.Native.Nat.{ℕ, ◌+◌, ◌-◌, ◌*◌, ◌≤◌}
use mathlib.Core.Bool.{Bool, true, false, cond}
use mathlib.Core.List.{List}
use mathlib.Core.Path.{◌≡◌, refl, sym, ap, subst, ◌∙◌}
use native.Mathlib.Omega.{arith}
use lib.IntN.{ℤ}
use lib.ListN.{length, drop, length-take}
use Rattle.whole.specs.Numbers.{ceil_div}
use Rattle.loops.specs.Run.{go}
use Rattle.loops.proofs.Laws.{Kept, run_keeps}
use Rattle.rows.specs.Rows.{first, answered, Fine, Refused, Verdict}
use Rattle.rows.specs.declared.Check.{Check}
use Rattle.rows.proofs.Tables.{held}
use Rattle.rows.proofs.Passing.{answered_ok, answered_err}
use Rattle.pieces.specs.declared.Bytes.{Bytes}
use Rattle.pieces.specs.Pieces.{Packets, Significance, Counts, Data, Signs, total, size, bytes_of, nothing, bytes_by}
use Rattle.layout.specs.Cells.{start}
use Rattle.layout.specs.Slots.{candidates}
use Rattle.counts.specs.Lines.{Line as LineCounts}
use Rattle.counts.specs.declared.group.Fault.TheVariants.{Cut, High, Long}
use Rattle.counts.specs.Lines.{line_counts, Founded}
use Rattle.counts.proofs.Laws.{done_to}
use Rattle.packets.specs.declared.Setting.{Setting}
use Rattle.packets.specs.declared.Precinct.{Precinct}
use Rattle.packets.specs.declared.Parts.{Parts}
use Rattle.packets.specs.declared.Content.{Content}
use Rattle.packets.specs.declared.Opened.{Opened}
use Rattle.packets.specs.Ready.{Slotted}
use Rattle.packets.specs.Passes.{line, marks, coding_of, place_of, Counting, counted, count_turn, packet_counts, packet_values}
use Rattle.packets.specs.Packets.{head, cnt_at, Lsign, past, count_bytes, data_bytes, sign_bytes, head_checks, data_checks, sign_checks, values_by, after_counts, counts_of, counts_by, packet}
use Rattle.packets.specs.Table.{values_after}
use Rattle.packets.specs.Pieces.{count_content, data_content, sign_content, packet_pieces}
use Rattle.packets.specs.Steps.{IsParts, Holds, part_bytes, contents_of, Opening, IsContent, IsPassed, Decoded}
use Rattle.packets.proofs.Laws.{clash, counts_founded, values_fine, cut_refused, high_refused, long_refused}
use Rattle.packets.proofs.Nibbles.{packet_need}
use Rattle.packets.proofs.Stretches.{long_cnt, long_dat, long_sgn}

-- ---- the counts end in their stretch

-- counts that are done: the next bit is not past the stretch
abbrev Ends : ℕ → LineCounts × List ℤ → Type 0
Ends bytes (Ok k, l) = k.next ≤ 8 * bytes
Ends bytes (Err f, l) = Unit {0}

module _ (s : List ℕ) (c : Setting) (p : Precinct) (slot : ℕ) (cnt sig : List ℕ) (raw : Bool) where
  abbrev counting : ℕ → Counting → LineCounts × List ℤ
  counting j x = line_counts cnt sig (coding_of s c p raw (line c p slot j).band) (place_of (line c p slot j)) x.0 (marks s c p slot raw j) x.2

  abbrev Before : Counting → Type 0
  Before x = x.0 ≤ 8 * length cnt

  line_ends : (j : ℕ) (x : Counting) → Before x → (y : LineCounts × List ℤ) → counting j x ≡ y → Kept Before (Ends (length cnt)) (counted x.1 y)
  line_ends j x h (Ok k, l) e = done_to cnt sig _ _ x.0 _ x.2 e h
  line_ends j x h (Err f, l) e = tt

  turn_ends : (j : ℕ) (x : Counting) → Before x → (b : Bool) → Kept Before (Ends (length cnt)) (cond b (counted x.1 (counting j x)) (go x))
  turn_ends j x h true = line_ends j x h (counting j x) refl
  turn_ends j x h false = h

  counts_end : (cells : List ℤ) → Ends (length cnt) (packet_counts s c p slot cnt sig raw cells)
  unfolding packet_counts count_turn
  counts_end cells =
      run_keeps Before (Ends (length cnt)) (count_turn s c p slot cnt sig raw) _ (candidates c.shape slot) (λ x h. h)
      (λ j x l h. turn_ends j x h (line c p slot j).present) (candidates c.shape slot) 0 (0, 0, cells) (omega arith) (omega arith)

-- ---- the contents of a packet

module _ (s : List ℕ) (c : Setting) (p : Precinct) (slot at : ℕ) (cells : List ℤ) where
  abbrev counts : LineCounts × List ℤ
  counts = counts_of s c p slot at cells

  -- each fits in what its subpacket declares
  pub record Fits : Type 0 where
    pub counts : count_content (counts_of s c p slot at cells).0 ≤ (head s c p slot at).lcnt
    pub nibbles : data_content (counts_of s c p slot at cells).0 ≤ (head s c p slot at).ldat
    pub signs : sign_content (values_after s c p slot at cells).0 ≤ Lsign s c p slot at

  counts_fit : (x : LineCounts × List ℤ) → Ends (length (count_bytes s c p slot at)) x → count_content x.0 ≤ (head s c p slot at).lcnt
  counts_fit (Ok k, l) h = omega (arith, h, length-take (head s c p slot at).lcnt (drop (cnt_at s c p slot at) s))
  counts_fit (Err f, l) h = omega arith

  founded : Founded c.br counts.0
  founded = counts_founded s c p slot _ _ _ cells

  by_counts : (x : LineCounts × List ℤ) → counts ≡ x → Founded c.br x.0 → (after_counts s c p slot at x).0 ≡ Fine → Fits
  by_counts (Ok r, l) e k f =
      let w = values_fine s c p slot at _ l f in
      let t = held (data_checks s c p slot at (Ok r)) w in
      let read = (packet_values c p slot (data_bytes s c p slot at) (sign_bytes s c p slot at) l).0 in
      let judged : first (sign_checks s c p slot at read.sign) ≡ Fine = (λ i. (values_by s c p slot at (sym w i) l).0) ∙ f in
      record {
        counts = counts_fit counts (counts_end s c p slot _ _ _ cells);
        nibbles = rw e t.1.0.least;
        signs = rw e (held (sign_checks s c p slot at read.sign) judged).0.least;
      }
  by_counts (Err Cut, l) e k f = absurd (cut_refused s c p slot at l f)
  by_counts (Err (High m), l) e k f = absurd (high_refused s c p slot at m l k f)
  by_counts (Err (Long n), l) e k f = absurd (long_refused s c p slot at n l k f)

  by_head : (v : Verdict) → (counts_by s c p slot at v cells).0 ≡ Fine → Fits
  by_head (Ok _) e = by_counts counts refl founded e
  by_head (Err k) e = clash e

  pub packet_fits : (raws : List ℕ) → (packet s c p slot at raws cells).0 ≡ Fine → Fits
  unfolding packet
  packet_fits raws e = by_head (first (head_checks s c p slot at raws)) e

  -- what a packet's decoders come to is the packet
  pub packet_tiles : (raws : List ℕ) → (packet s c p slot at raws cells).0 ≡ Fine → at + size (packet_pieces s c p slot at cells) ≡ past s c p slot at
  unfolding packet_pieces size
  packet_tiles raws e = let fits = packet_fits raws e in omega (arith, fits.counts, fits.nibbles, fits.signs)

  -- the nibbles of the data's content are those that the data's decoder reads
  pub data_content_lem : Slotted c p slot → start c.shape c.shape.nc ≤ length cells → {k : Counted} → (counts_of s c p slot at cells).0 ≡ Ok k
      → data_content (counts_of s c p slot at cells).0 ≡ ceil_div (values_after s c p slot at cells).0.at 2
  data_content_lem slotted room e = ap data_content e ∙ (λ i. ceil_div (sym (packet_need c p slot slotted s at cells room e) i) 2)

  -- ---- as the code has them

  module _ {parts : Parts} (is : IsParts s c p slot at parts) where
    -- the parts of a packet whose contents fit
    pub parts_hold : Fits → Holds parts (contents_of s c p slot at counts)
    parts_hold fits =
        record {
          sig = omega (arith, is.place, is.sig);
          cnt = omega (arith, is.sig, is.cnt);
          dat = omega (arith, is.cnt, is.dat, fits.counts);
          sgn = omega (arith, is.dat, is.sgn, fits.nibbles);
          past = omega (arith, is.sgn, is.past, fits.signs);
          small = is.small;
        }

    pub parts_bytes : bytes_of (packet_pieces s c p slot at cells) ≡ part_bytes parts (contents_of s c p slot at counts)
    unfolding packet_pieces total
    parts_bytes =
        let ps = packet_pieces s c p slot at cells in
        let header : total Packets ps ≡ parts.sig - parts.at = omega (arith, is.place, is.sig) in
        let flags : total Significance ps ≡ parts.cnt - parts.sig = omega (arith, is.sig, is.cnt) in
        let codes : total Counts ps ≡ count_content counts.0 = omega arith in
        let nibbles : total Data ps ≡ data_content counts.0 = omega arith in
        let signs : total Signs ps ≡ sign_content (values_after s c p slot at cells).0 = omega arith in
        let filler =
        joined ((head s c p slot at).lcnt - count_content counts.0) ((head s c p slot at).ldat - data_content counts.0) (Lsign s c p slot at - sign_content (values_after s c p slot at cells).0)
        ∙ (λ i.
        sym (long_cnt s c p slot at is) i - count_content counts.0
        + (sym (long_dat s c p slot at is) i - data_content counts.0)
        + (sym (long_sgn s c p slot at is) i - sign_content (values_after s c p slot at cells).0)) in
        λ i. record { markers = 0; precincts = 0; packets = header i; significance = flags i; counts = codes i; «data» = nibbles i; signs = signs i; filler = filler i; spoilt = 0 }
      where
        joined : (k n g : ℕ) → 0 + (0 + (0 + (k + (0 + (n + (0 + (g + 0))))))) ≡ k + n + g
        joined k n g = omega arith

    -- what the decoders of the subpackets answer
    module _ {x : LineCounts × List ℤ} {q : Result Content Check} {cells' : List ℤ} (e : counts ≡ x) (h : IsContent s c p slot at x q cells') where
      -- where they refuse nothing, the contents of the packet
      accepted : {k : Content} → q ≡ Ok k → ((after_counts s c p slot at counts).0 ≡ Fine) × (contents_of s c p slot at counts ≡ k)
      accepted f =
          let both = answered_ok (after_counts s c p slot at x).0 (contents_of s c p slot at x) (sym h.read ∙ f) in
          ((λ i. (after_counts s c p slot at (e i)).0) ∙ both.0, ap (contents_of s c p slot at) e ∙ both.1)

      pub content_holds : {k : Content} → q ≡ Ok k → Holds parts k
      content_holds f =
          let both = accepted f in
          subst (Holds parts) both.1 (parts_hold (by_counts counts refl founded both.0))

      pub passed_on : {v : Verdict} {k : Content} {b : Bytes} → v ≡ Fine → q ≡ Ok k → b ≡ part_bytes parts k → IsPassed s c p slot at v cells (Ok b) cells'
      passed_on fine f g =
          let both = accepted f in
          let same = g ∙ ap (part_bytes parts) (sym both.1) ∙ sym parts_bytes in
          record {
            read = (λ i. answered (sym both.0 i) (same i)) ∙ (λ i. answered (counts_by s c p slot at (sym fine i) cells).0 (bytes_of (packet_pieces s c p slot at cells)));
            left = h.left ∙ (λ i. (after_counts s c p slot at (sym e i)).1) ∙ (λ i. (counts_by s c p slot at (sym fine i) cells).1);
          }

-- the packet, by its header and what follows it
module _ (s : List ℕ) (c : Setting) (p : Precinct) (slot at : ℕ) (raws : List ℕ) (cells : List ℤ) {o : Opened} (o_is : Opening s c p slot at raws o) where
  decoded : {v : Verdict} {b : Bytes} {cells' : List ℤ} → (v, cells') ≡ counts_by s c p slot o.parts.at o.verdict cells
      → b ≡ bytes_by v (bytes_of (packet_pieces s c p slot o.parts.at cells))
      → Decoded s c p slot at raws cells (record { verdict = v; dr = o.dr; past = o.parts.past; bytes = b }) cells'
  unfolding packet
  decoded {v} e g =
      record {
        left = (λ i. counts_by s c p slot (sym o_is.parts.place i) (sym o_is.verdict i) cells) ∙ sym e;
        dr = o_is.dr;
        past = o_is.parts.past;
        bytes = g ∙ (λ i. bytes_by v (bytes_of (packet_pieces s c p slot (o_is.parts.place i) cells)));
      }

  module _ {r : Result Bytes Check} {cells' : List ℤ} (h : IsPassed s c p slot o.parts.at o.verdict cells r cells') where
    abbrev says : Verdict
    says = (counts_by s c p slot o.parts.at o.verdict cells).0

    abbrev whole : Bytes
    whole = bytes_of (packet_pieces s c p slot o.parts.at cells)

    pub decoded_read : {b : Bytes} → r ≡ Ok b → Decoded s c p slot at raws cells (record { verdict = Fine; dr = o.dr; past = o.parts.past; bytes = b }) cells'
    decoded_read f =
        let both = answered_ok says whole (sym h.read ∙ f) in
        decoded (λ i. (sym both.0 i, h.left i)) (sym both.1)

    pub decoded_refused : {k : Check} → r ≡ Err k → Decoded s c p slot at raws cells (record { verdict = Refused k; dr = o.dr; past = o.parts.past; bytes = nothing }) cells'
    decoded_refused f =
        let refused = answered_err says whole (sym h.read ∙ f) in
        decoded (λ i. (sym refused i, h.left i)) refl
