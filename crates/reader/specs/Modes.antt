-- The two modes of reading, and what each leaves: a page that is whole or refused, and document 02's C-15, in which spoilt slices are lost and marked.
use Rattle.std.specs.Prelude.{Bool, true, cond, List, [], ◌∷◌, ◌++◌, ◌≡◌, ℕ, ◌*◌, ℤ, length}
use Rattle.rows.specs.Rows.{check, ample, first, then, Verdict}
use Rattle.rows.specs.declared.Check.{Check}
use Rattle.rows.specs.declared.Row.TheVariants.{Lent}
use Rattle.rows.specs.declared.Field.TheVariants.{Marks}
use Rattle.layout.specs.Precincts.{slice_with}
use Rattle.pieces.specs.Pieces.{Piece, bytes_of}
use Rattle.header.specs.Header.{reading_of}
use Rattle.header.specs.Pieces.{header_pieces}
use Rattle.header.specs.declared.header.Header.{Header}
use Rattle.shapes.specs.Shapes.{shape_of}
use Rattle.slices.specs.Slice.{Left}
use Rattle.damage.specs.Stream.{stream_by, spoilt}
use Rattle.damage.specs.Pieces.{stream_pieces_by}
use Rattle.planes.specs.Values.{Bands, Coefficients, Values, planes}
use Rattle.planes.specs.Marks.{mark_of, bit}
use Rattle.planes.specs.Places.{coefficients_in}
use Rattle.distances.specs.Rule.{type_of}
use Rattle.reader.specs.declared.page.Page.{Page}
use Rattle.reader.specs.Settings.{setting_of, N, room_checks}
use Rattle.reader.specs.Decoding.{handed, distances_from, begun}
use Rattle.reader.specs.Page.{header_of, page_by, samples_by, work_by}

-- B.5, B.11: what is told of each slice, of the coefficients that it has
abbrev pub by_slice : Header → (ℕ → Bool) → Bands Bool
by_slice h told i k dx dy x y = told (slice_with (shape_of h) (type_of (shape_of h) k dx) i y)

-- ---- what stands behind an accepted header

module _ (s : List ℕ) (h : Header) where
  -- Annexes A, C and D from there on
  unfoldable pub decoded_by : Bool → Left
  decoded_by damaged = stream_by s (setting_of h) damaged (begun h)

  abbrev pub verdict_in : Bool → Verdict
  verdict_in damaged = (decoded_by damaged).0

  -- the largest T of each band: of a damaged page over its unspoilt slices
  abbrev pub tops_in : Bool → List ℕ
  tops_in damaged = (decoded_by damaged).1.1

  -- document 02, C-16: the pieces of the whole stream
  unfoldable pub pieces_in : Bool → List Piece
  pieces_in damaged = header_pieces s ++ stream_pieces_by s (setting_of h) damaged (begun h)

  -- the coefficients: 0 where they are lost
  abbrev pub coefficients_of : Bool → Coefficients
  coefficients_of damaged = coefficients_in (shape_of h) (decoded_by damaged).1.2

  -- ---- what is lost

  -- slice t is spoilt
  abbrev pub spoilt_slice : ℕ → Bool
  spoilt_slice t = spoilt s (setting_of h) (begun h) t

  -- a coefficient is lost where the slice is spoilt into which B.5 and B.11 put it
  abbrev pub lost_at : Bands Bool
  lost_at = by_slice h spoilt_slice

  -- a sample 'depends on a lost coefficient, directly or through Annex E's filters or the colour transform'
  unfoldable pub lost_sample : Values Bool
  lost_sample = mark_of (shape_of h) h.picture.cpih lost_at

  -- '1 where a sample depends on a lost coefficient, and 0 elsewhere', in the order of the samples
  unfoldable pub lost_marks : List ℕ
  lost_marks = planes (shape_of h) (λ i x y. bit (lost_sample i x y)) h.picture.nc

-- ---- the verdict, where `a` sample cells, `w` work cells and `m` marks are lent

-- row 5: samples, then work, then of a damaged page one mark for each sample
abbrev pub room_checks_in : Bool → Header → ℕ → ℕ → ℕ → List Check
room_checks_in damaged h a w m = room_checks h a w ++ cond damaged (check Lent h.slice Marks m (N h) ample ∷ []) []

unfoldable pub lent_verdict_in : Bool → List ℕ → ℕ → ℕ → ℕ → Verdict
lent_verdict_in damaged s a w m = then (reading_of s).verdict (first (room_checks_in damaged (header_of s) a w m))

unfoldable pub verdict_of : Bool → List ℕ → ℕ → ℕ → ℕ → Verdict
verdict_of damaged s a w m = then (lent_verdict_in damaged s a w m) (verdict_in s (header_of s) damaged)

-- the record
abbrev pub page_in : Bool → List ℕ → ℕ → ℕ → ℕ → Page
page_in damaged s a w m = page_by (verdict_of damaged s a w m) (header_of s) (distances_from (header_of s) (tops_in s (header_of s) damaged)) (bytes_of (pieces_in s (header_of s) damaged))

-- ---- what is left: `lent` is the verdict by row 5, and `all` that of the whole stream. The samples a, the work cells w and the marks m become a', w' and m'

pub record LeavesIn (damaged : Bool) (s : List ℕ) (h : Header) (lent all : Verdict) (a : List ℕ) (w : List ℤ) (m : List ℕ) (r : Page) (a' : List ℕ) (w' : List ℤ) (m' : List ℕ) : Type 0 where
  pub page : r ≡ page_by all h (distances_from h (tops_in s h damaged)) (bytes_of (pieces_in s h damaged))
  pub samples : a' ≡ samples_by all (handed h (coefficients_of s h damaged)) a
  pub work : w' ≡ work_by lent (2 * N h) w
  -- 'a page answered other than 0 leaves the plane unchanged', and a plain reading has none
  pub marks : m' ≡ samples_by all (cond damaged (lost_marks s h) []) m

abbrev pub ReadsIn : Bool → List ℕ → List ℕ → List ℤ → List ℕ → Page → List ℕ → List ℤ → List ℕ → Type 0
ReadsIn damaged s a w m r a' w' m' =
    LeavesIn damaged s (header_of s) (lent_verdict_in damaged s (length a) (length w) (length m)) (verdict_of damaged s (length a) (length w) (length m)) a w m r a' w' m'

-- a damaged page, as `read_damaged` reads it
abbrev pub ReadsDamaged : List ℕ → List ℕ → List ℤ → List ℕ → Page → List ℕ → List ℤ → List ℕ → Type 0
ReadsDamaged = ReadsIn true
