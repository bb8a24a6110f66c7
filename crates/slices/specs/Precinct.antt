-- C.2: a precinct, its header and its packets, which fill it exactly.
use Rattle.std.specs.Prelude.{ℕ, zero, suc, ◌+◌, ◌-◌, ◌/◌, ◌%◌, ◌^◌, max, Bool, cond, ◌&&◌, List, [], ◌∷◌, ◌++◌, ltb, ℤ, length, get_or, set, Ok, Err}
use Rattle.loops.specs.Run.{Turn, go, stop, run}
use Rattle.rows.specs.Rows.{check, ample, first, each, Refused, Verdict}
use Rattle.rows.specs.declared.Check.{Check}
use Rattle.rows.specs.declared.Row.TheVariants.{Cut, Value, Length, Mode}
use Rattle.rows.specs.declared.Field.TheVariants.{Lprc, Precinct as PrecinctField, Q, R, D as ModeField, Rest}
use Rattle.bits.specs.Fields.{field_at}
use Rattle.layout.specs.Bands.{NL, band_exists}
use Rattle.layout.specs.Precincts.{lines}
use Rattle.layout.specs.Headers.{mode_bit, header_bytes_of, most_refinement}
use Rattle.layout.specs.Slots.{slots, candidates}
use Rattle.packets.specs.declared.Setting.{Setting}
use Rattle.packets.specs.declared.Precinct.{Precinct}
use Rattle.packets.specs.Precincts.{D, T}
use Rattle.packets.specs.Packets.{any_line, head, past, packet}

module _ (s : List ℕ) (c : Setting) (row column at : ℕ) where
  -- Table C.1
  abbrev pub lprc : ℕ
  lprc = field_at s at 24

  -- 'counts from the end of the precinct header .. up to, but not including the first byte of the next'
  abbrev pub body : ℕ
  body = at + header_bytes_of c.shape

  abbrev pub precinct_at : Precinct
  precinct_at = record { row = row; column = column; at = at; end = body + lprc; q = field_at s (at + 3) 8; r = field_at s (at + 4) 8 }

  -- Lprc from 1 to 2^20 − 1; 'whether a precinct, the rest of its header included, runs past the stream is checked at its length field'; Q from 0 to 31;
  -- R from 0 to 2 NL − 1
  abbrev pub field_checks : List Check
  field_checks =
      check Cut at Lprc (length s - at) 3 ample
      ∷ check Value at Lprc lprc 1 (2 ^ 20 - 1)
      ∷ check Length at PrecinctField (header_bytes_of c.shape + lprc) 0 (length s - at)
      ∷ check Value (at + 3) Q precinct_at.q 0 31
      ∷ check Value (at + 4) R precinct_at.r 0 (most_refinement c.shape)
      ∷ []

  -- row 8: no vertical prediction for an existing band in the top row of a slice. The place is the byte of that D's first bit
  abbrev pub mode_checks : Bool → ℕ → List Check
  mode_checks top b =
      cond (band_exists c.shape b) (check Mode (at + mode_bit c.shape b / 8) ModeField (D s c precinct_at b % 2) 0 (cond top 0 1) ∷ []) []

  abbrev pub header_checks : Bool → List Check
  header_checks top = field_checks ++ each (NL c.shape) (mode_checks top)

  -- the packets: the next place, the raw flags of the slots so far, and the cells
  abbrev pub Packing : Type 0
  Packing = ℕ × List ℕ × List ℤ

  abbrev pub packed : ℕ → ℕ → List ℕ → Verdict × List ℤ → Turn Packing (Verdict × List ℤ)
  packed slot place raws (Ok _, cells) = go (past s c precinct_at slot place, set raws slot (head s c precinct_at slot place).dr, cells)
  packed slot place raws (Err k, cells) = stop (Refused k, cells)

  unfoldable pub packet_turn : ℕ → Packing → Turn Packing (Verdict × List ℤ)
  packet_turn slot x =
      cond (any_line c precinct_at slot (candidates c.shape slot))
      (packed slot x.0 x.1 (packet s c precinct_at slot x.0 x.1 x.2))
      (go x)

  -- 'packets do not fill their precinct exactly' is 6
  abbrev pub rest_checks : ℕ → List Check
  rest_checks place = check Length at Rest (precinct_at.end - place) 0 0 ∷ []

  -- no slot has a flag yet
  abbrev pub no_flags : List ℕ
  no_flags = 0 ∷ 0 ∷ 0 ∷ 0 ∷ 0 ∷ 0 ∷ 0 ∷ 0 ∷ 0 ∷ 0 ∷ []

  unfoldable pub packets : List ℤ → Verdict × List ℤ
  packets cells = run packet_turn (λ x. (first (rest_checks x.0), x.2)) (slots c.shape) 0 (body, no_flags, cells)

  abbrev pub packets_by : Verdict → List ℤ → Verdict × List ℤ
  packets_by (Ok _) cells = packets cells
  packets_by (Err k) cells = (Refused k, cells)

  unfoldable pub precinct : Bool → List ℤ → Verdict × List ℤ
  precinct top cells = packets_by (first (header_checks top)) cells

-- a precinct that holds one of a band's coefficients: the band exists, and has a line there
abbrev pub holds : Setting → Precinct → ℕ → Bool
holds c p b = band_exists c.shape b && ltb 0 (lines c.shape p.row (b / c.shape.nc) (b % c.shape.nc))

-- document 01, distance rule 1: a band's largest T so far, raised by such a precinct
abbrev pub raised_by : Setting → Precinct → ℕ → ℕ → ℕ
raised_by c p b top = cond (holds c p b) (max top (T c p b)) top

-- of the bands below n
unfoldable pub raised : Setting → Precinct → ℕ → List ℕ → List ℕ
raised c p zero tops = tops
raised c p (suc n) tops = set (raised c p n tops) n (raised_by c p n (get_or tops n 0))
