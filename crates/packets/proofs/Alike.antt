-- A packet depends on its precinct's header, on the fields of its own header and on the bytes of its subpackets: streams that are the same in these leave the
-- same. An accepted packet so depends on the bytes of its precinct. Assumes nothing.
use Rattle.std.specs.Prelude.{Ok, Err}
use Prim.Native.Nat.{ℕ, zero, suc, ◌+◌, ◌-◌, ◌*◌, ◌/◌, ◌^◌, ◌≤◌, ◌<◌}
use mathlib.Core.Path.{◌≡◌, refl, ◌∙◌}
use mathlib.Core.Bool.{Bool, true, false, not, cond, ◌&&◌}
use mathlib.Core.List.{List, [], ◌∷◌, ◌++◌}
use native.Mathlib.Omega.{arith}
use lib.Dec.{eqb}
use lib.IntN.{ℤ}
use lib.ListN.{get_or}
use Rattle.whole.specs.Numbers.{ceil_div}
use Rattle.loops.specs.Run.{go}
use Rattle.loops.proofs.Same.{run_same}
use Rattle.rows.specs.Rows.{check, ample, first, each, Fine, Verdict}
use Rattle.rows.specs.declared.Row.TheVariants.{Length, Count, Mode}
use Rattle.rows.specs.declared.Field.TheVariants.{Packet, Dr, Significance, Counts, M, Ones, Data, Signs}
use Rattle.bits.specs.Packet.{header_bits, header_bytes}
use Rattle.bits.specs.Alike.{Alike}
use Rattle.bits.proofs.Alike.{alike_part, field_alike, stretch_alike}
use Rattle.layout.specs.Bands.{NL, band_exists}
use Rattle.layout.specs.Headers.{mode_bit, header_bytes_of}
use Rattle.layout.specs.Slots.{candidates, sharing}
use Rattle.layout.proofs.Sums.{modes_past}
use Rattle.counts.specs.Lines.{Line as LineCounts, end as counts_left}
use Rattle.counts.specs.declared.group.Fault.TheVariants.{Cut, High, Long}
use Rattle.counts.specs.Lines.{line_counts}
use Rattle.packets.specs.declared.Setting.{Setting}
use Rattle.packets.specs.declared.Precinct.{Precinct}
use Rattle.packets.specs.Precincts.{D, T, stretch}
use Rattle.packets.specs.Ready.{Slotted}
use Rattle.packets.specs.Passes.{line, flags, marks, mode_of, place_of, coding_of, Counting, counted, count_turn, packet_counts, packet_values}
use Rattle.packets.specs.Packets.{sign_length, head, raw, sig_at, Lsig, cnt_at, dat_at, sgn_at, Lsign, past, data_bytes, sign_bytes, flag_checks, head_checks, count_checks, data_checks, sign_checks, after_values, values_by, after_counts, counts_of, counts_by, packet}
use Rattle.packets.specs.Pieces.{pieces_of, packet_pieces}
use Rattle.packets.specs.Leftover.{SameLeft}
use Rattle.packets.proofs.Lines.{lies}
use Rattle.packets.proofs.Laws.{packet_inside}

-- ---- the modes, which stand in the precinct's header

pub D_alike : (s s' : List ℕ) (c : Setting) (p : Precinct) → Alike s s' p.at (p.at + header_bytes_of c.shape) → (b : ℕ) → b < NL c.shape
    → band_exists c.shape b ≡ true → D s' c p b ≡ D s c p b
unfolding D
D_alike s s' c p header b l e =
    field_alike header (8 * p.at + mode_bit c.shape b) 2 (omega arith) (omega (arith, modes_past c.shape b (NL c.shape) l e))

module _ (s s' : List ℕ) (c : Setting) (p : Precinct) (slot : ℕ) (slotted : Slotted c p slot) (header : Alike s s' p.at (p.at + header_bytes_of c.shape)) where
  mode_alike : (j : ℕ) → j < candidates c.shape slot → (line c p slot j).present ≡ true → D s' c p (line c p slot j).band ≡ D s c p (line c p slot j).band
  mode_alike j l there =
      let own = lies c p slot j slotted l there in
      D_alike s s' c p header (line c p slot j).band own.band own.exists

  flags_alike : (raw : Bool) (j : ℕ) → j < candidates c.shape slot → flags s' c p raw (line c p slot j) ≡ flags s c p raw (line c p slot j)
  flags_alike raw j l = by (line c p slot j).present refl
    where
      by : (b : Bool) → (line c p slot j).present ≡ b → flags s' c p raw (line c p slot j) ≡ flags s c p raw (line c p slot j)
      by true there = λ i. cond ((line c p slot j).present && not raw && eqb (mode_alike j l there i / 2) 1) (line c p slot j).marks 0
      by false none = rw none

  marks_alike : (raw : Bool) (j : ℕ) → j ≤ candidates c.shape slot → marks s' c p slot raw j ≡ marks s c p slot raw j
  unfolding marks
  marks_alike raw zero l = refl
  marks_alike raw (suc j) l = λ i. marks_alike raw j (omega arith) i + flags_alike raw j (omega arith) i

  counts_alike : (cnt sig : List ℕ) (raw : Bool) (cells : List ℤ) → packet_counts s' c p slot cnt sig raw cells ≡ packet_counts s c p slot cnt sig raw cells
  unfolding packet_counts count_turn
  counts_alike cnt sig raw cells =
      run_same (count_turn s c p slot cnt sig raw) (count_turn s' c p slot cnt sig raw) counts_left (candidates c.shape slot)
      (λ j x l. by j x l (line c p slot j).present refl) (candidates c.shape slot) 0 (0, 0, cells) (omega arith)
    where
      by : (j : ℕ) (x : Counting) → j < candidates c.shape slot → (b : Bool) → (line c p slot j).present ≡ b
          → cond b (counted x.1 (line_counts cnt sig (coding_of s' c p raw (line c p slot j).band) (place_of (line c p slot j)) x.0 (marks s' c p slot raw j) x.2)) (go x)
          ≡ cond b (counted x.1 (line_counts cnt sig (coding_of s c p raw (line c p slot j).band) (place_of (line c p slot j)) x.0 (marks s c p slot raw j) x.2)) (go x)
      by j x l true there =
          let d = mode_alike j l there in
          λ i. counted x.1 (line_counts cnt sig
          (record { mode = mode_of raw (d i); flags = eqb (d i / 2) 1; run = c.rm; fs = c.fs; t = T c p (line c p slot j).band; br = c.br })
          (place_of (line c p slot j)) x.0 (marks_alike raw j (omega arith) i) x.2)
      by j x l false none = refl

  -- ---- a packet whose header has the same flag and lengths

  module _ (at : ℕ) (dr : (head s' c p slot at).dr ≡ (head s c p slot at).dr) (ldat : (head s' c p slot at).ldat ≡ (head s c p slot at).ldat)
      (lcnt : (head s' c p slot at).lcnt ≡ (head s c p slot at).lcnt) (signs : Lsign s' c p slot at ≡ Lsign s c p slot at) where
    sig_alike : Lsig s' c p slot at ≡ Lsig s c p slot at
    unfolding Lsig
    sig_alike =
        let n = candidates c.shape slot in
        (λ i. ceil_div (marks s' c p slot (eqb (dr i) 1) n) 8) ∙ (λ i. ceil_div (marks_alike (raw s c p slot at) n (omega arith) i) 8)

    dat_alike : dat_at s' c p slot at ≡ dat_at s c p slot at
    dat_alike = λ i. at + header_bytes c.widths + sig_alike i + lcnt i

    pub past_alike : past s' c p slot at ≡ past s c p slot at
    past_alike = λ i. dat_alike i + ldat i + signs i

    flag_checks_alike : (raws : List ℕ) → flag_checks s' c p slot at raws ≡ flag_checks s c p slot at raws
    unfolding flag_checks
    flag_checks_alike raws = λ i.
        cond c.rl [] (each slot (λ k. cond (sharing c.shape p.row slot k) (check Mode at Dr (dr i) (get_or raws k 0) (get_or raws k 0) ∷ []) []))

    head_checks_alike : (raws : List ℕ) → head_checks s' c p slot at raws ≡ head_checks s c p slot at raws
    head_checks_alike raws = λ i.
        let cnt = sig_at s c p slot at + sig_alike i in
        check Length p.at Packet (header_bytes c.widths) 0 (p.end - at)
        ∷ (flag_checks_alike raws i
        ++ (check Length (sig_at s c p slot at) Significance (sig_alike i) 0 (p.end - sig_at s c p slot at)
        ∷ check Length cnt Counts (lcnt i) 0 (p.end - cnt)
        ∷ []))

    counted_alike : (k : LineCounts) → count_checks s' c p slot at k ++ data_checks s' c p slot at k ≡ count_checks s c p slot at k ++ data_checks s c p slot at k
    counted_alike (Ok r) = λ i.
        check Length (dat_alike i) Data (ldat i) 0 (p.end - dat_alike i)
        ∷ check Length (dat_alike i) Data (ldat i) (ceil_div r.need 2) ample
        ∷ check Length (dat_alike i + ldat i) Signs (signs i) 0 (p.end - (dat_alike i + ldat i))
        ∷ []
    counted_alike (Err Cut) = λ i. check Length (sig_at s c p slot at + sig_alike i) Counts (lcnt i) (lcnt i + 1) ample ∷ []
    counted_alike (Err (High m)) = λ i. check Count (sig_at s c p slot at + sig_alike i) M m 0 31 ∷ []
    counted_alike (Err (Long n)) = λ i. check Count (sig_at s c p slot at + sig_alike i) Ones n 0 (2 ^ (c.br + 1) - 1) ∷ []

    sign_checks_alike : (used : ℕ) → sign_checks s' c p slot at used ≡ sign_checks s c p slot at used
    sign_checks_alike used = λ i. check Length (dat_alike i + ldat i) Signs (signs i) (ceil_div used 8) ample ∷ []

    -- and whose subpackets have the same bytes
    module _ (body : Alike s s' (sig_at s c p slot at) (past s c p slot at)) where
      packet_values_alike : (cells : List ℤ)
          → packet_values c p slot (data_bytes s' c p slot at) (sign_bytes s' c p slot at) cells ≡ packet_values c p slot (data_bytes s c p slot at) (sign_bytes s c p slot at) cells
      packet_values_alike cells =
          let dat = stretch_alike body (dat_at s c p slot at) (head s c p slot at).ldat (omega arith) (omega arith) in
          let sgn = stretch_alike body (sgn_at s c p slot at) (Lsign s c p slot at) (omega arith) (omega arith) in
          (λ i. packet_values c p slot (stretch s' (dat_alike i) (ldat i)) (stretch s' (dat_alike i + ldat i) (signs i)) cells) ∙ (λ i. packet_values c p slot (dat i) (sgn i) cells)

      values_alike : (v : Verdict) (cells : List ℤ) → values_by s' c p slot at v cells ≡ values_by s c p slot at v cells
      values_alike (Ok _) cells =
          (λ i. after_values s' c p slot at (packet_values_alike cells i))
          ∙ (λ i.
          let x = packet_values c p slot (data_bytes s c p slot at) (sign_bytes s c p slot at) cells in
          (first (sign_checks_alike x.0.sign i), x.1))
      values_alike (Err k) cells = refl

      after_alike : (x : LineCounts × List ℤ) → after_counts s' c p slot at x ≡ after_counts s c p slot at x
      after_alike x =
          (λ i. values_by s' c p slot at (first (counted_alike x.0 i)) x.1)
          ∙ values_alike (first (count_checks s c p slot at x.0 ++ data_checks s c p slot at x.0)) x.1

      counts_of_alike : (cells : List ℤ) → counts_of s' c p slot at cells ≡ counts_of s c p slot at cells
      counts_of_alike cells =
          let sig = sig_at s c p slot at in
          let cnt = stretch_alike body (cnt_at s c p slot at) (head s c p slot at).lcnt (omega arith) (omega arith) in
          let flags = stretch_alike body sig (Lsig s c p slot at) (omega arith) (omega arith) in
          (λ i. packet_counts s' c p slot (stretch s' (sig + sig_alike i) (lcnt i)) (stretch s' sig (sig_alike i)) (eqb (dr i) 1) cells)
          ∙ (λ i. packet_counts s' c p slot (cnt i) (flags i) (raw s c p slot at) cells)
          ∙ counts_alike _ _ (raw s c p slot at) cells

      -- accepted or refused
      pub packet_alike : (raws : List ℕ) (cells : List ℤ) → packet s' c p slot at raws cells ≡ packet s c p slot at raws cells
      unfolding packet
      packet_alike raws cells = (λ i. counts_by s' c p slot at (first (head_checks_alike raws i)) cells) ∙ by (first (head_checks s c p slot at raws))
        where
          by : (v : Verdict) → counts_by s' c p slot at v cells ≡ counts_by s c p slot at v cells
          by (Ok _) = (λ i. after_counts s' c p slot at (counts_of_alike cells i)) ∙ after_alike (counts_of s c p slot at cells)
          by (Err k) = refl

      -- and the same pieces
      pub pieces_alike : (cells : List ℤ) → packet_pieces s' c p slot at cells ≡ packet_pieces s c p slot at cells
      unfolding packet_pieces
      pieces_alike cells =
          (λ i. pieces_of c (sig_alike i) (lcnt i) (ldat i) (signs i) (counts_of_alike cells i).0 (packet_values c p slot (data_bytes s' c p slot at) (sign_bytes s' c p slot at) (counts_of_alike cells i).1).0)
          ∙ (λ i. pieces_of c (Lsig s c p slot at) (head s c p slot at).lcnt (head s c p slot at).ldat (Lsign s c p slot at) (counts_of s c p slot at cells).0 (packet_values_alike (counts_of s c p slot at cells).1 i).0)

-- ---- an accepted packet, where the precinct has the same bytes

-- Table C.4's header is made of whole bytes
abbrev pub WholeHeader : Setting → Type 0
WholeHeader c = 8 * header_bytes c.widths ≡ header_bits c.widths

-- its header and its subpackets end in the precinct
pub accepted_alike : {s s' : List ℕ} (c : Setting) (p : Precinct) (slot : ℕ) → Slotted c p slot → WholeHeader c → Alike s s' p.at p.end
    → p.at + header_bytes_of c.shape ≤ p.end → (at : ℕ) → p.at ≤ at → at ≤ p.end → (raws : List ℕ) (cells : List ℤ) → (packet s c p slot at raws cells).0 ≡ Fine
    → SameLeft s s' c p slot at raws cells
accepted_alike {s} {s'} c p slot slotted whole alike wide at behind inside raws cells fine =
    let ends = packet_inside s c p slot at raws cells inside fine in
    let w = c.widths in
    let same : head s' c p slot at ≡ head s c p slot at = λ i. record {
      dr = field_alike alike (8 * at) 1 (omega arith) (omega (arith, whole)) i;
      ldat = field_alike alike (8 * at + 1) w.dat (omega arith) (omega (arith, whole)) i;
      lcnt = field_alike alike (8 * at + 1 + w.dat) w.cnt (omega arith) (omega (arith, whole)) i;
      lsgn = field_alike alike (8 * at + 1 + w.dat + w.cnt) w.sgn (omega arith) (omega (arith, whole)) i;
    } in
    let header = alike_part p.at (p.at + header_bytes_of c.shape) alike (omega arith) wide in
    let body = alike_part (sig_at s c p slot at) (past s c p slot at) alike (omega arith) ends in
    record {
      left = packet_alike s s' c p slot slotted header at (λ i. (same i).dr) (λ i. (same i).ldat) (λ i. (same i).lcnt) (λ i. sign_length c (same i)) body raws cells;
      dr = λ i. (same i).dr;
      past = past_alike s s' c p slot slotted header at (λ i. (same i).dr) (λ i. (same i).ldat) (λ i. (same i).lcnt) (λ i. sign_length c (same i));
      pieces = pieces_alike s s' c p slot slotted header at (λ i. (same i).dr) (λ i. (same i).ldat) (λ i. (same i).lcnt) (λ i. sign_length c (same i)) body cells;
    }
