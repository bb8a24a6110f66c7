-- B.5 and B.11 by rows of cells: a coefficient stands in the row of the samples that it becomes, and so a slice owns whole rows of each component.
use Rattle.std.specs.Prelude.{ℕ, ◌*◌, ◌/◌, ◌^◌}
use Rattle.layout.specs.declared.Shape.{Shape}
use Rattle.layout.specs.Bands.{sy}

-- B.5: the rows of component i in a row of precincts, which is 2^N_L,y lines of the sampling grid
abbrev pub precinct_cell_rows : Shape → ℕ → ℕ
precinct_cell_rows s i = 2 ^ s.nly / sy s i

-- B.11: and in a slice. The last slice may have fewer
abbrev pub slice_cell_rows : Shape → ℕ → ℕ
slice_cell_rows s i = s.hsl * precinct_cell_rows s i

-- the slice that owns row Y of component i: that of the row of precincts in which the row's line of the sampling grid lies
abbrev pub slice_of_row : Shape → ℕ → ℕ → ℕ
slice_of_row s i Y = Y * sy s i / 2 ^ s.nly / s.hsl
