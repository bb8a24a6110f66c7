-- Where the bytes of a page went, by C-16's definitions: of the largest page of the table, apart from its other answers, and of a damaged page. A theorem
-- for each, since one declaration may take only so many steps. Assumes nothing.
use mathlib.Core.Bool.{true, false}
use mathlib.Core.Path.{refl}
use Rattle.whole.specs.Cells.{listed}
use Rattle.loops.specs.Run.{run, until}
use Rattle.loops.specs.Along.{along}
use Rattle.rows.specs.Rows.{each}
use Rattle.pieces.specs.Pieces.{total}
use Rattle.bits.specs.Fields.{bit_at, field}
use Rattle.bits.specs.Groups.{nibbles_of}
use Rattle.segments.specs.Bands.{existing}
use Rattle.segments.specs.Components.{widest}
use Rattle.segments.specs.Segments.{full_tail, kind_of}
use Rattle.layout.specs.Bands.{Hb, Hc, Wc, depth, dx, dy, exists, kind}
use Rattle.layout.specs.Headers.{modes}
use Rattle.layout.specs.Packets.{included, includes, share, turns}
use Rattle.layout.specs.Precincts.{Cs, L0, L1, Npx, Npy, Wp, Wpb, first_x, largest, lines, slice_rows, slices}
use Rattle.layout.specs.Slots.{line, line_at, slot, slot_line, slot_type, slot_types}
use Rattle.layout.specs.Cells.{area, inner, samples as layout_samples}
use Rattle.header.specs.Header.{reading_of}
use Rattle.header.specs.Pieces.{header_pieces, segment_pieces}
use Rattle.header.specs.Turns.{turn as header_turn, walk}
use Rattle.header.specs.Walk.{step}
use Rattle.counts.specs.Codes.{ones, vlc}
use Rattle.counts.specs.Groups.{coded, counted}
use Rattle.counts.specs.Lines.{line_counts, turn as counts_turn, unpack}
use Rattle.values.specs.Group.{index, planes as values_planes, s, sign_bits, sign_bits_of, v}
use Rattle.values.specs.Line.{M, behind, index_at, line_values, placed, value_at}
use Rattle.packets.specs.Packets.{Lsig, any_line, flag_checks, packet}
use Rattle.packets.specs.Passes.{count_turn, marks, packet_counts, packet_values, value_turn}
use Rattle.packets.specs.Pieces.{packet_pieces}
use Rattle.packets.specs.Precincts.{D, T}
use Rattle.slices.specs.Precinct.{packet_turn, packets, precinct}
use Rattle.slices.specs.Pieces.{precinct_pieces, precincts_pieces, slice_pieces}
use Rattle.slices.specs.Slice.{precinct_turn, precincts, slice}
use Rattle.slices.specs.Stream.{slice_turn}
use Rattle.slices.specs.Walk.{walk_turn, walk_precincts, walk_slice}
use Rattle.damage.specs.Stream.{damaged_turn}
use Rattle.damage.specs.Pieces.{stream_pieces_by, spoilt_pieces, walked_pieces}
use Rattle.reader.specs.Modes.{pieces_in}
use Rattle.pages.specs.Streams.{two_columns, predicted_at_top}
use Rattle.pages.specs.Answers.{two_columns_read, predicted_at_top_bytes}
use Rattle.pages.specs.Table.{HasBytes}

pub two_columns_bytes : HasBytes false two_columns two_columns_read.page.bytes
unfolding listed run until along each total bit_at field existing widest full_tail kind_of Hb Hc Wc depth dx dy exists kind area inner layout_samples modes included includes share turns Cs L0 L1 Npx Npy Wp Wpb first_x largest lines slice_rows slices line line_at slot slot_line slot_type slot_types reading_of header_pieces segment_pieces step header_turn walk ones vlc coded counted line_counts counts_turn unpack index nibbles_of values_planes s sign_bits sign_bits_of v M behind index_at line_values placed value_at Lsig any_line flag_checks packet count_turn marks packet_counts packet_values value_turn packet_pieces D T packet_turn packets precinct precinct_pieces precinct_turn precincts precincts_pieces slice slice_pieces slice_turn stream_pieces_by pieces_in
two_columns_bytes = refl

pub spoilt_slice_bytes : HasBytes true predicted_at_top predicted_at_top_bytes
unfolding listed run until along each total bit_at field existing widest full_tail kind_of Hb Hc Wc depth dx dy exists kind area inner layout_samples modes included includes share turns Cs L0 L1 Npx Npy Wp Wpb first_x largest lines slice_rows slices line line_at slot slot_line slot_type slot_types reading_of header_pieces segment_pieces step header_turn walk ones vlc coded counted line_counts counts_turn unpack index nibbles_of values_planes s sign_bits sign_bits_of v M behind index_at line_values placed value_at Lsig any_line flag_checks packet count_turn marks packet_counts packet_values value_turn packet_pieces D T packet_turn packets precinct precinct_pieces precinct_turn precincts precincts_pieces slice slice_pieces slice_turn stream_pieces_by pieces_in damaged_turn walk_turn walk_precincts walk_slice spoilt_pieces walked_pieces
spoilt_slice_bytes = refl
