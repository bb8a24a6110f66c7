-- The order of a table: 'Checking runs from the front. The first field at which a row applies decides; at one field the lowest number wins.' In an ordered
-- table the first broken check is the one that is meant: `first_decides`.
use Rattle.std.specs.Prelude.{ℕ, ◌+◌, ◌*◌, ◌≤◌, ◌<◌, ◌⊎◌, ◌≡◌}
use mathlib.Core.List.{List, [], ◌∷◌, Memᴰ}
use Rattle.rows.specs.Rows.{number, first, Fine}
use Rattle.rows.specs.declared.Check.{Check}
use Rattle.rows.specs.declared.Field.{Field}
use Rattle.rows.specs.declared.Field.TheVariants.{Soc, Cap, Lcap, Pih, Lpih, Lcod, Wf, Hf, Cw, Hsl, Nc, Ng, Ss, Bw, Fq, Br, Fslc, Ppoc, Cpih, Nlx, Nly, Qpih, Fs, Rm, Next, Cdt, Wgt, Nlt, Cwd, Cts, Crg, Tpc, Wgr, Sli, Lcdt, B, Sx, Sy, Across, Down, Lwgt, G, Lcom, Tcom, Lcrg, Lcwd, Sd, Samples, Work, Marks, Distances, Slh, Lslh, Ysl, Lprc, Precinct, Q, R, D, Packet, Dr, Significance, Counts, M, Ones, Data, Signs, Rest, Eoc, Tail}
use Rattle.picture.specs.Opening.{start_checks}
use Rattle.header.specs.Table.{header_checks}

-- the bit of its byte at which a field begins. Bytes that fields share: in Table A.7 Fq and Br; Fslc, Ppoc and Cpih; NLx and NLy; Lh, Rl, Qpih, Fs and Rm; in
-- Table A.15 sx and sy, and with each the samples that a filter joins in its direction. Every other field of a header begins its byte, and Cw's rule, which joins
-- Cw with sx, is checked at the last sx. What stands behind the header is not ordered by this
abbrev pub bit : Field → ℕ
bit Fq = 0
bit Br = 4
bit Fslc = 0
bit Ppoc = 1
bit Cpih = 4
bit Nlx = 0
bit Nly = 4
bit Qpih = 2
bit Fs = 4
bit Rm = 6
bit Sx = 0
bit Sy = 4
bit Across = 0
bit Down = 4
bit Soc = 0
bit Cap = 0
bit Lcap = 0
bit Pih = 0
bit Lpih = 0
bit Lcod = 0
bit Wf = 0
bit Hf = 0
bit Cw = 0
bit Hsl = 0
bit Nc = 0
bit Ng = 0
bit Ss = 0
bit Bw = 0
bit Next = 0
bit Cdt = 0
bit Wgt = 0
bit Nlt = 0
bit Cwd = 0
bit Cts = 0
bit Crg = 0
bit Tpc = 0
bit Wgr = 0
bit Sli = 0
bit Lcdt = 0
bit B = 0
bit Lwgt = 0
bit G = 0
bit Lcom = 0
bit Tcom = 0
bit Lcrg = 0
bit Lcwd = 0
bit Sd = 0
bit Samples = 0
bit Work = 0
bit Marks = 0
bit Distances = 0
bit Slh = 0
bit Lslh = 0
bit Ysl = 0
bit Lprc = 0
bit Precinct = 0
bit Q = 0
bit R = 0
bit D = 0
bit Packet = 0
bit Dr = 0
bit Significance = 0
bit Counts = 0
bit M = 0
bit Ones = 0
bit Data = 0
bit Signs = 0
bit Rest = 0
bit Eoc = 0
bit Tail = 0

-- the place of a field's first bit, counted in bits: by places, and at one place by the bits of the byte
abbrev pub begins : Check → ℕ
begins c = 8 * c.1 + bit c.2

-- c may stand before d: its field begins earlier, or they begin together and c's number is no larger
abbrev pub Before : Check → Check → Type 0
Before c d = (begins c < begins d) ⊎ ((begins c ≡ begins d) × (number c.0 ≤ number d.0))

-- every check may stand before all that stand behind it
abbrev pub Ordered : List Check → Type 0
Ordered [] = Unit {0}
Ordered (c ∷ cs) = ((d : Check) → Memᴰ d cs → Before c d) × Ordered cs

-- the header's table is ordered as far as a reading comes: `header_ordered`. Where the start of the codestream is refused the picture header has no place; a
-- length of 0 would put it at that length
pub record InOrder (s : List ℕ) : Type 0 where
  pub start : Ordered (start_checks s)
  pub whole : first (start_checks s) ≡ Fine → Ordered (header_checks s)
