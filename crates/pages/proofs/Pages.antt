-- The answers of the table are what the definitions give. The largest page stands apart, since one declaration may take only so many steps. Assumes nothing.
use mathlib.Core.Bool.{false}
use mathlib.Core.List.{[], ◌∷◌}
use mathlib.Core.Path.{◌≡◌, refl, ap, ◌∙◌}
use Rattle.whole.specs.Cells.{listed}
use Rattle.loops.specs.Run.{run, until}
use Rattle.loops.specs.Along.{along}
use Rattle.rows.specs.Rows.{each, then}
use Rattle.pieces.specs.declared.Bytes.{Bytes}
use Rattle.pieces.specs.Pieces.{total}
use Rattle.bits.specs.Fields.{bit_at, field}
use Rattle.segments.specs.Bands.{existing}
use Rattle.segments.specs.Components.{widest}
use Rattle.segments.specs.Segments.{full_tail, kind_of}
use Rattle.wavelet.specs.Distance.{component_number}
use Rattle.wavelet.specs.Filter.{even_out, extended, filter, odd_out, samples as wavelet_samples}
use Rattle.wavelet.specs.Transform.{down, hor_transform, inverse as wavelet_inverse, table_E1, ver_transform, woven}
use Rattle.quantiser.specs.Distance.{band_number}
use Rattle.quantiser.specs.Inverse.{coefficient_of, deadzone, inverse as quantiser_inverse, scaled, series, terms, uniform}
use Rattle.colour.specs.Rct.{inverse_rct, numbers_rct}
use Rattle.output.specs.Linear.{distance, sample}
use Rattle.layout.specs.Bands.{Hb, Hc, Wc, depth, dx, dy, exists, kind}
use Rattle.layout.specs.Cells.{area, inner, samples as layout_samples}
use Rattle.layout.specs.Headers.{modes}
use Rattle.layout.specs.Packets.{included, includes, share, turns}
use Rattle.layout.specs.Precincts.{Cs, L0, L1, Npx, Npy, Wp, Wpb, first_x, largest, lines, slice_rows, slices}
use Rattle.layout.specs.Slots.{line, line_at, slot, slot_line, slot_type, slot_types}
use Rattle.planes.specs.Places.{coefficients_in}
use Rattle.planes.specs.Values.{coloured, planes as planes_planes, sampled, transformed}
use Rattle.distances.specs.Rule.{coloured_number, component_number_of, distance_of}
use Rattle.shapes.specs.Shapes.{shape_of}
use Rattle.header.specs.Header.{reading_of}
use Rattle.header.specs.Pieces.{header_pieces, segment_pieces}
use Rattle.header.specs.Turns.{turn as header_turn, walk}
use Rattle.header.specs.Walk.{step}
use Rattle.counts.specs.Codes.{ones, vlc}
use Rattle.counts.specs.Groups.{coded, counted}
use Rattle.counts.specs.Lines.{line_counts, turn as counts_turn, unpack}
use Rattle.bits.specs.Groups.{nibbles_of}
use Rattle.values.specs.Group.{index, planes as values_planes, s, sign_bits, sign_bits_of, v}
use Rattle.values.specs.Line.{M, behind, index_at, line_values, placed, value_at}
use Rattle.packets.specs.Packets.{Lsig, any_line, flag_checks, packet}
use Rattle.packets.specs.Passes.{count_turn, marks, packet_counts, packet_values, value_turn}
use Rattle.packets.specs.Pieces.{packet_pieces}
use Rattle.packets.specs.Precincts.{D, T}
use Rattle.slices.specs.Precinct.{packet_turn, packets, precinct, raised}
use Rattle.slices.specs.Pieces.{precinct_pieces, precincts_pieces, slice_pieces, stream_pieces}
use Rattle.slices.specs.Slice.{precinct_turn, precincts, slice}
use Rattle.slices.specs.Stream.{slice_turn, stream}
use Rattle.damage.specs.Pieces.{stream_pieces_by}
use Rattle.reader.specs.Decoding.{decoded, distances_from, handed, pieces, samples_from}
use Rattle.reader.specs.Page.{header_of, lent_verdict, page_by, samples_by, verdict}
use Rattle.reader.specs.Modes.{pieces_in}
use Rattle.pages.specs.Streams.{two_columns}
use Rattle.pages.specs.Answers.{Reading, two_columns_read}
use Rattle.pages.specs.Table.{Row, is_read, smaller, table, read_by, gives, says, HasBytes}
use Rattle.pages.proofs.Bytes.{two_columns_bytes}

-- ---- the largest page: `Bytes` has where its bytes went, and here is the rest

-- what the definitions give of a row, with these totals. What the slices leave is computed once
abbrev read_with : Row → Bytes → Reading
read_with r bytes =
    let h = header_of r.stream in
    let left = decoded r.stream h in
    let v = then (lent_verdict r.stream r.lent_samples r.lent_work) left.0 in
    record { page = page_by v h (distances_from h left.1.1) bytes; samples = samples_by v (handed h (coefficients_in (shape_of h) left.1.2)) [] }

given_with : (r : Row) → HasBytes false r.stream r.says.page.bytes → read_with r r.says.page.bytes ≡ r.says → read_by r ≡ r.says
unfolding pieces_in stream_pieces_by pieces stream_pieces verdict
given_with r h e = ap (read_with r) h ∙ e

two_columns_rest : read_with (is_read two_columns two_columns_read) two_columns_read.page.bytes ≡ two_columns_read
unfolding listed run until each bit_at field existing widest full_tail kind_of component_number even_out extended filter odd_out wavelet_samples down hor_transform wavelet_inverse table_E1 ver_transform woven band_number coefficient_of deadzone quantiser_inverse scaled series terms uniform inverse_rct numbers_rct distance sample Hb Hc Wc depth dx dy exists kind area inner layout_samples modes included includes share turns Cs L0 L1 Npx Npy Wp Wpb first_x largest lines slice_rows slices line line_at slot slot_line slot_type slot_types coloured planes_planes sampled transformed coloured_number component_number_of distance_of reading_of step header_turn walk ones vlc coded counted line_counts counts_turn unpack index nibbles_of values_planes s sign_bits sign_bits_of v M behind index_at line_values placed value_at Lsig any_line flag_checks packet count_turn marks packet_counts packet_values value_turn D T packet_turn packets precinct raised precinct_turn precincts slice slice_turn stream decoded distances_from handed samples_from lent_verdict verdict
two_columns_rest = refl

two_columns_lem : read_by (is_read two_columns two_columns_read) ≡ two_columns_read
two_columns_lem = given_with (is_read two_columns two_columns_read) two_columns_bytes two_columns_rest

-- ---- the table

smaller_pages : gives smaller ≡ says smaller
unfolding listed run until along each total bit_at field existing widest full_tail kind_of component_number even_out extended filter odd_out wavelet_samples down hor_transform wavelet_inverse table_E1 ver_transform woven band_number coefficient_of deadzone quantiser_inverse scaled series terms uniform inverse_rct numbers_rct distance sample Hb Hc Wc depth dx dy exists kind area inner layout_samples modes included includes share turns Cs L0 L1 Npx Npy Wp Wpb first_x largest lines slice_rows slices line line_at slot slot_line slot_type slot_types coloured planes_planes sampled transformed coloured_number component_number_of distance_of reading_of header_pieces segment_pieces step header_turn walk ones vlc coded counted line_counts counts_turn unpack index nibbles_of values_planes s sign_bits sign_bits_of v M behind index_at line_values placed value_at Lsig any_line flag_checks packet count_turn marks packet_counts packet_values value_turn packet_pieces D T packet_turn packets precinct precinct_pieces raised precinct_turn precincts precincts_pieces slice slice_pieces slice_turn stream stream_pieces decoded distances_from handed pieces samples_from lent_verdict verdict smaller
smaller_pages = refl

pub pages : gives table ≡ says table
unfolding table
pages = λ i. two_columns_lem i ∷ smaller_pages i
