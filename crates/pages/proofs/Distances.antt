-- The distances that C-22's definitions give the samples of some pages, place by place: slice by slice, column by column of precincts, and through the colour
-- transform. A theorem for each, since one declaration may take only so many steps. Assumes nothing.
use mathlib.Core.Path.{refl}
use Rattle.whole.specs.Cells.{listed}
use Rattle.loops.specs.Run.{run, until}
use Rattle.loops.specs.Before.{before}
use Rattle.rows.specs.Rows.{each}
use Rattle.bits.specs.Fields.{bit_at, field}
use Rattle.segments.specs.Bands.{existing}
use Rattle.segments.specs.Components.{widest}
use Rattle.segments.specs.Segments.{full_tail, kind_of}
use Rattle.wavelet.specs.Distance.{numbers}
use Rattle.wavelet.specs.Filter.{even_out, extended, filter, odd_out}
use Rattle.wavelet.specs.Transform.{down, hor_transform, inverse, table_E1, ver_transform, woven}
use Rattle.quantiser.specs.Distance.{band_number}
use Rattle.colour.specs.Rct.{numbers_rct}
use Rattle.colour.specs.Table.{coloured_number}
use Rattle.output.specs.Linear.{distance}
use Rattle.layout.specs.Bands.{Hb, Hc, Wc, depth, dx, dy, exists, kind}
use Rattle.layout.specs.Headers.{modes}
use Rattle.layout.specs.Precincts.{Cs, Npx, Npy, largest, slice_rows, slices}
use Rattle.planes.specs.Values.{planes}
use Rattle.planes.specs.Numbers.{measured}
use Rattle.header.specs.Header.{reading_of}
use Rattle.header.specs.Turns.{turn, walk}
use Rattle.header.specs.Walk.{step}
use Rattle.packets.specs.Precincts.{T}
use Rattle.slices.specs.Walk.{walk_turn, walk_precincts, walk_slice, walk_slice_turn}
use Rattle.places.specs.Own.{truncation_at}
use Rattle.reader.specs.Places.{place_distance, distance_in, distance_plane}
use Rattle.pages.specs.Streams.{coarse_slices, coarse_columns, coarse_colours}
use Rattle.pages.specs.Answers.{coarse_slices_distances, coarse_columns_distances, coarse_colours_distances}
use Rattle.pages.specs.Table.{HasDistances}

pub coarse_slices_lem : HasDistances coarse_slices coarse_slices_distances
unfolding listed run until before each bit_at field existing widest full_tail kind_of numbers even_out extended filter odd_out down hor_transform inverse table_E1 ver_transform woven band_number numbers_rct coloured_number distance Hb Hc Wc depth dx dy exists kind modes Cs Npx Npy largest slice_rows slices planes measured reading_of turn walk step T walk_turn walk_precincts walk_slice walk_slice_turn truncation_at place_distance distance_in distance_plane
coarse_slices_lem = refl

pub coarse_columns_lem : HasDistances coarse_columns coarse_columns_distances
unfolding listed run until before each bit_at field existing widest full_tail kind_of numbers even_out extended filter odd_out down hor_transform inverse table_E1 ver_transform woven band_number numbers_rct coloured_number distance Hb Hc Wc depth dx dy exists kind modes Cs Npx Npy largest slice_rows slices planes measured reading_of turn walk step T walk_turn walk_precincts walk_slice walk_slice_turn truncation_at place_distance distance_in distance_plane
coarse_columns_lem = refl

pub coarse_colours_lem : HasDistances coarse_colours coarse_colours_distances
unfolding listed run until before each bit_at field existing widest full_tail kind_of numbers even_out extended filter odd_out down hor_transform inverse table_E1 ver_transform woven band_number numbers_rct coloured_number distance Hb Hc Wc depth dx dy exists kind modes Cs Npx Npy largest slice_rows slices planes measured reading_of turn walk step T walk_turn walk_precincts walk_slice walk_slice_turn truncation_at place_distance distance_in distance_plane
coarse_colours_lem = refl
