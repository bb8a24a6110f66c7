-- C.3 and C.4: a packet, its header and its subpackets in their order. Each subpacket is judged whole before the next: does it run past the precinct,
-- then its content. `slot` says which of its precinct's packets it is, `at` where its header stands.
use Rattle.std.specs.Prelude.{ℕ, zero, suc, ◌+◌, ◌-◌, ◌^◌, Bool, false, cond, ◌||◌, List, [], ◌∷◌, ◌++◌, eqb, ℤ, get_or, Ok, Err}
use Rattle.whole.specs.Numbers.{ceil_div}
use Rattle.rows.specs.Rows.{check, ample, first, each, Refused, Verdict}
use Rattle.rows.specs.declared.Check.{Check}
use Rattle.rows.specs.declared.Row.TheVariants.{Length, Count, Mode}
use Rattle.rows.specs.declared.Field.TheVariants.{Packet, Dr, Significance, Counts, M, Ones, Data, Signs}
use Rattle.bits.specs.Packet.{header_at, header_bytes}
use Rattle.bits.specs.declared.packet.PacketHeader.{PacketHeader}
use Rattle.layout.specs.Slots.{candidates, sharing}
use Rattle.counts.specs.Lines.{Line as LineCounts}
use Rattle.counts.specs.declared.group.Fault.TheVariants.{Cut, High, Long}
use Rattle.values.specs.declared.Next.{Next}
use Rattle.packets.specs.declared.Setting.{Setting}
use Rattle.packets.specs.declared.Precinct.{Precinct}
use Rattle.packets.specs.Precincts.{stretch}
use Rattle.packets.specs.Passes.{line, marks, packet_counts, packet_values}

-- 'An empty packet has no header': whether one of the first n candidates of the slot is there
unfoldable pub any_line : Setting → Precinct → ℕ → ℕ → Bool
any_line c p slot zero = false
any_line c p slot (suc n) = any_line c p slot n || (line c p slot n).present

-- Table C.4, Lsgn[p,s]: 'Size of the sign subpacket in bytes if Fs = 1. If Fs = 0, this field shall be present, but is ignored.'
abbrev pub sign_length : Setting → PacketHeader → ℕ
sign_length c h = cond c.fs h.lsgn 0

module _ (s : List ℕ) (c : Setting) (p : Precinct) (slot at : ℕ) where
  -- Table C.4
  abbrev pub head : PacketHeader
  head = header_at s at c.widths

  abbrev pub raw : Bool
  raw = eqb head.dr 1

  -- Table C.5: the places of the subpackets, and the place behind the packet. The significance subpacket's length is inferred
  abbrev pub sig_at : ℕ
  sig_at = at + header_bytes c.widths

  unfoldable pub Lsig : ℕ
  Lsig = ceil_div (marks s c p slot raw (candidates c.shape slot)) 8

  abbrev pub cnt_at : ℕ
  cnt_at = sig_at + Lsig

  abbrev pub dat_at : ℕ
  dat_at = cnt_at + head.lcnt

  abbrev pub sgn_at : ℕ
  sgn_at = dat_at + head.ldat

  abbrev pub Lsign : ℕ
  Lsign = sign_length c head

  abbrev pub past : ℕ
  past = sgn_at + Lsign

  -- document 01: 'Each decoder is given only its own stretch of bytes'
  abbrev pub mark_bytes : List ℕ
  mark_bytes = stretch s sig_at Lsig

  abbrev pub count_bytes : List ℕ
  count_bytes = stretch s cnt_at head.lcnt

  abbrev pub data_bytes : List ℕ
  data_bytes = stretch s dat_at head.ldat

  abbrev pub sign_bytes : List ℕ
  sign_bytes = stretch s sgn_at Lsign

  -- C.3, where Rl = 0: 'the Dr[p,s] flag shall be identical for all packets s that include band b within precinct p'. The packet has the flag of each earlier
  -- one of its precinct with which it shares a band. `raws` are the flags of the earlier slots
  unfoldable pub flag_checks : List ℕ → List Check
  flag_checks raws =
      cond c.rl []
      (each slot (λ k. cond (sharing c.shape p.row slot k) (check Mode at Dr head.dr (get_or raws k 0) (get_or raws k 0) ∷ []) []))

  -- the header, as far as the counts' length: 'a packet header runs past its precinct' and, of the subpackets, 'runs past its precinct' are 6. Document 01's 3 for
  -- a sign length with Fs = 0 is withdrawn (document 02, C-11)
  abbrev pub head_checks : List ℕ → List Check
  head_checks raws =
      check Length p.at Packet (header_bytes c.widths) 0 (p.end - at)
      ∷ (flag_checks raws
      ++ (check Length sig_at Significance Lsig 0 (p.end - sig_at)
      ∷ check Length cnt_at Counts head.lcnt 0 (p.end - cnt_at)
      ∷ []))

  -- the counts: a code that is cut wants more bytes than are declared. M is 0 to 31, and a code has fewer than 2^(Br+1) 1-bits
  abbrev pub count_checks : LineCounts → List Check
  count_checks (Ok k) = []
  count_checks (Err Cut) = check Length cnt_at Counts head.lcnt (head.lcnt + 1) ample ∷ []
  count_checks (Err (High m)) = check Count cnt_at M m 0 31 ∷ []
  count_checks (Err (Long n)) = check Count cnt_at Ones n 0 (2 ^ (c.br + 1) - 1) ∷ []

  -- the data, of `need` nibbles, and the signs' length
  abbrev pub data_checks : LineCounts → List Check
  data_checks (Ok k) =
      check Length dat_at Data head.ldat 0 (p.end - dat_at)
      ∷ check Length dat_at Data head.ldat (ceil_div k.need 2) ample
      ∷ check Length sgn_at Signs Lsign 0 (p.end - sgn_at)
      ∷ []
  data_checks (Err f) = []

  -- the signs, of `used` bits
  abbrev pub sign_checks : ℕ → List Check
  sign_checks used = check Length sgn_at Signs Lsign (ceil_div used 8) ample ∷ []

  -- what a packet leaves: the verdict, and the cells
  abbrev pub Left : Type 0
  Left = Verdict × List ℤ

  abbrev pub after_values : Next × List ℤ → Left
  after_values x = (first (sign_checks x.0.sign), x.1)

  abbrev pub values_by : Verdict → List ℤ → Left
  values_by (Ok _) cells = after_values (packet_values c p slot data_bytes sign_bytes cells)
  values_by (Err k) cells = (Refused k, cells)

  abbrev pub after_counts : LineCounts × List ℤ → Left
  after_counts x = values_by (first (count_checks x.0 ++ data_checks x.0)) x.1

  -- the counts, from their own stretch and that of the significance flags
  abbrev pub counts_of : List ℤ → LineCounts × List ℤ
  counts_of cells = packet_counts s c p slot count_bytes mark_bytes raw cells

  abbrev pub counts_by : Verdict → List ℤ → Left
  counts_by (Ok _) cells = after_counts (counts_of cells)
  counts_by (Err k) cells = (Refused k, cells)

  unfoldable pub packet : List ℕ → List ℤ → Left
  packet raws cells = counts_by (first (head_checks raws)) cells
