-- A packet worked by hand from Tables C.4 to C.10: a picture of four samples in one row and one level across, so two bands of two coefficients. Assumes nothing.
use mathlib.Core.Bool.{false}
use mathlib.Core.List.{List, [], ◌∷◌}
use mathlib.Core.Path.{◌≡◌, refl}
use Prim.Native.Nat.{ℕ}
use lib.IntN.{ℤ, pos, negsuc}
use Rattle.loops.specs.Run.{run}
use Rattle.rows.specs.Rows.{each, check, ample, Fine, Refused}
use Rattle.rows.specs.declared.Row.TheVariants.{Length}
use Rattle.rows.specs.declared.Field.TheVariants.{Data}
use Rattle.bits.specs.Fields.{bit_at, field}
use Rattle.quantiser.specs.Inverse.{deadzone, terms, series, uniform, inverse, coefficient_of, scaled}
use Rattle.layout.specs.Bands.{Wc, Hc, kind, dx, dy, depth, Hb, exists}
use Rattle.layout.specs.Precincts.{largest, Cs, Npx, Wp, Wpb, first_x, lines, L0, L1}
use Rattle.layout.specs.Packets.{included}
use Rattle.layout.specs.Headers.{modes}
use Rattle.layout.specs.Cells.{area, samples, inner}
use Rattle.layout.specs.Slots.{slot_type, slot_types, slot_line, line, line_at}
use Rattle.counts.specs.Groups.{counted}
use Rattle.counts.specs.Lines.{unpack, turn, line_counts}
use Rattle.bits.specs.Groups.{nibbles_of}
use Rattle.values.specs.Group.{planes, sign_bits, v, sign_bits_of, s, index}
use Rattle.values.specs.Line.{M, behind, placed, index_at, value_at, line_values}
use Rattle.packets.specs.declared.Setting.{Setting}
use Rattle.packets.specs.declared.Precinct.{Precinct}
use Rattle.packets.specs.Precincts.{D, T}
use Rattle.packets.specs.Passes.{marks, count_turn, packet_counts, value_turn, packet_values}
use Rattle.packets.specs.Packets.{flag_checks, Lsig, Left, packet}

setting : Setting
setting =
    record {
      shape = record { wf = 4; hf = 1; cw = 0; hsl = 1; nc = 1; nlx = 1; nly = 0; sx = 1 ∷ 0 ∷ 0 ∷ 0 ∷ []; sy = 1 ∷ 0 ∷ 0 ∷ 0 ∷ [] };
      widths = record { dat = 15; cnt = 13; sgn = 11 };
      br = 4;
      fq = 0;
      uniform = false;
      fs = false;
      rm = false;
      rl = false;
      gains = [];
      priorities = [];
      modes = [];
      head = 6;
    }

-- its header is 6 bytes: Lprc is 8, Q, R and both D are 0
precinct : Precinct
precinct = record { row = 0; column = 0; at = 0; end = 14; q = 0; r = 0 }

-- a packet of raw counts, Dr = 1, with `size` bytes of data and one of counts. M is 3 and 0; of the first band the nibbles are 0100 (signs), 1000, 0100, 1000, so its
-- indices are 5 and −2
stream : ℕ → List ℕ
stream size = 0 ∷ 0 ∷ 8 ∷ 0 ∷ 0 ∷ 0 ∷ 0x80 ∷ size ∷ 0 ∷ 8 ∷ 0 ∷ 0x30 ∷ 0x48 ∷ 0x48 ∷ []

read : ℕ → List ℤ → Left [] setting precinct 0 6
read size cells = packet (stream size) setting precinct 0 6 [] cells

-- low-pass coefficients at even places, high-pass at odd ones, and behind the four the count of each band's group
reads : read 2 (pos 9 ∷ pos 9 ∷ pos 9 ∷ pos 9 ∷ pos 0 ∷ pos 9 ∷ pos 0 ∷ pos 0 ∷ [])
    ≡ (Fine, pos 5 ∷ pos 0 ∷ negsuc 1 ∷ pos 0 ∷ pos 3 ∷ pos 0 ∷ pos 0 ∷ pos 0 ∷ [])
unfolding read stream precinct setting packet flag_checks each Lsig marks D T packet_counts count_turn run line_counts turn unpack counted field bit_at packet_values value_turn line_values value_at index_at behind placed M index s sign_bits_of v sign_bits nibbles_of planes scaled coefficient_of inverse uniform series terms deadzone line_at line slot_type slot_types slot_line included exists kind dx dy depth Hb Wc Hc largest Cs Npx Wp Wpb first_x lines L0 L1 area samples inner modes
reads = refl

-- one byte of data is too few: the four nibbles want two
short : read 1 (pos 9 ∷ pos 9 ∷ pos 9 ∷ pos 9 ∷ pos 0 ∷ pos 9 ∷ pos 0 ∷ pos 0 ∷ [])
    ≡ (Refused (check Length 12 Data 1 2 ample), pos 9 ∷ pos 9 ∷ pos 9 ∷ pos 9 ∷ pos 3 ∷ pos 0 ∷ pos 0 ∷ pos 0 ∷ [])
unfolding read stream precinct setting packet flag_checks each Lsig marks D T packet_counts count_turn run line_counts turn unpack counted nibbles_of field bit_at line_at line slot_type slot_types slot_line included exists kind dx dy depth Hb Wc Hc largest Cs Npx Wp Wpb first_x lines L0 L1 area samples inner modes
short = refl
