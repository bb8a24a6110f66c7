-- What stands behind an accepted header: coefficients, each band's largest T, samples and distances.
use Rattle.std.specs.Prelude.{List, ◌++◌, ℕ, ◌*◌, ℤ, pos, replicate}
use Rattle.rows.specs.Rows.{Verdict}
use Rattle.pieces.specs.Pieces.{Piece}
use Rattle.header.specs.Pieces.{header_pieces}
use Rattle.header.specs.declared.header.Header.{Header}
use Rattle.shapes.specs.Shapes.{shape_of}
use Rattle.slices.specs.Slice.{State, Left}
use Rattle.slices.specs.Stream.{stream}
use Rattle.slices.specs.Pieces.{stream_pieces}
use Rattle.planes.specs.Values.{Coefficients, Values, samples_of, planes}
use Rattle.planes.specs.Places.{coefficients_in}
use Rattle.distances.specs.Rule.{distances_of}
use Rattle.reader.specs.Settings.{setting_of, depth_of, N}

-- ---- from coefficients T[β, x, y] to samples, and from each band's largest T to distances

module _ (h : Header) where
  -- Annexes E, F and G
  unfoldable pub samples_from : Coefficients → Values ℕ
  samples_from T = samples_of (shape_of h) h.picture.cpih h.picture.bw (depth_of h) T

  -- the N samples as they are handed over
  unfoldable pub handed : Coefficients → List ℕ
  handed T = planes (shape_of h) (samples_from T) h.picture.nc

  unfoldable pub distances_from : List ℕ → List ℕ
  distances_from tops = distances_of (shape_of h) h.picture.fq h.picture.cpih h.picture.bw (depth_of h) tops

-- ---- the same of a stream

-- where a reading of the slices begins: the first slice header, no T yet, and 2N cells that are 0
abbrev pub begun : Header → State
begun h = (h.slice, replicate 40 0, replicate (2 * N h) (pos 0))

module _ (s : List ℕ) (h : Header) where
  -- Annexes A, C and D from there on
  unfoldable pub decoded : Left
  decoded = stream s (setting_of h) (begun h)

  abbrev pub decoded_verdict : Verdict
  decoded_verdict = decoded.0

  -- the largest T of each band
  abbrev pub tops : List ℕ
  tops = decoded.1.1

  -- the cells, with the coefficients of each component
  abbrev pub cells : List ℤ
  cells = decoded.1.2

  abbrev pub coefficients : Coefficients
  coefficients = coefficients_in (shape_of h) cells

  -- document 02, C-16: the pieces of the whole stream
  unfoldable pub pieces : List Piece
  pieces = header_pieces s ++ stream_pieces s (setting_of h) (begun h)
