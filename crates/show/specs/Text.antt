-- The text of a page as document 01 says: the answer and its place; then, for each component in order, a heading and one line of samples for each row. Of a
-- page that was read in spite of damage (request C-15) then, for each component in order, a line 'marks I' and one line of marks for each row; of one that was
-- read with a plane of distances (request C-22) last, likewise, a line 'distances I' and one line of distances for each row. Or, behind the samples, also of a
-- refused page, one line that tells where the stream's bytes went (request C-16).
use Rattle.std.specs.Prelude.{cond, List, [], ◌∷◌, ◌++◌, ℕ, zero, suc, ◌+◌, ◌/◌, ◌%◌, ltb, leb, eqb, length, get_or}
use Rattle.io.specs.Digits.{hex_digit_ascii}
use Rattle.fields.specs.Letters.{ascii}
use Rattle.pieces.specs.declared.Bytes.{Bytes}
use Rattle.reader.specs.declared.page.Page.{Page}

-- ---- words and numbers, in ASCII

-- the decimal digits of a number, the last `most` of them
unfoldable pub digits_of : ℕ → ℕ → List ℕ
digits_of zero n = []
digits_of (suc most) n = cond (ltb n 10) [] (digits_of most (n / 10)) ++ (hex_digit_ascii (n % 10) ∷ [])

-- of a number below 2^64, which has at most 20
abbrev pub decimal : ℕ → List ℕ
decimal n = digits_of 20 n

abbrev pub field : List ℕ → ℕ → List ℕ
field name n = name ++ decimal n

abbrev pub line : List ℕ → ℕ → List ℕ
line name n = field name n ++ ascii "\n"

-- 'answer A at P'
abbrev pub answer_line : ℕ → ℕ → List ℕ
answer_line answer place = field (ascii "answer ") answer ++ line (ascii " at ") place

-- ---- where the bytes went

-- 'bytes markers A precincts B packets C significance D counts E data F signs G filler H spoilt I'
unfoldable pub bytes_text : Bytes → List ℕ
bytes_text b =
    field (ascii "bytes markers ") b.markers
    ++ (field (ascii " precincts ") b.precincts
    ++ (field (ascii " packets ") b.packets
    ++ (field (ascii " significance ") b.significance
    ++ (field (ascii " counts ") b.counts
    ++ (field (ascii " data ") b.«data»
    ++ (field (ascii " signs ") b.signs ++ (field (ascii " filler ") b.filler ++ line (ascii " spoilt ") b.spoilt)))))))

-- ---- the planes of a page: samples, marks, and distances

pub data Kind : Type 0 where
  Samples : Kind
  Marks : Kind
  Distances : Kind

-- a single space between two cells of a row
abbrev pub space : ℕ → List ℕ
space x = cond (eqb x 0) [] (ascii " ")

-- what stands before cell x of a row: samples and distances are 'separated by single spaces', marks are 'digits without spaces'
abbrev pub gap : Kind → ℕ → List ℕ
gap Samples x = space x
gap Marks x = []
gap Distances x = space x

-- ---- parts of the text that use up cells

-- a part's text, and the first cell that is left
abbrev pub Part : Type 0
Part = List ℕ × ℕ

-- a part, and then one from where it ends
abbrev pub also : Part → (ℕ → Part) → Part
also p f = (p.0 ++ (f p.1).0, (f p.1).1)

module _ (kind : Kind) (cells : List ℕ) where
  -- x cells from `next` on
  unfoldable pub cells_text : ℕ → ℕ → List ℕ
  cells_text next zero = []
  cells_text next (suc x) = cells_text next x ++ (gap kind x ++ decimal (get_or cells (next + x) 0))

  abbrev pub row_text : ℕ → ℕ → List ℕ
  row_text next width = cells_text next width ++ ascii "\n"

  -- the row of `width` cells from `next` on; none where there are not so many
  abbrev pub next_row : ℕ → ℕ → Part
  next_row width next = cond (leb (next + width) (length cells)) (row_text next width, next + width) ([], next)

  unfoldable pub rows : ℕ → ℕ → ℕ → Part
  rows width next zero = ([], next)
  rows width next (suc y) = also (rows width next y) (next_row width)

-- ---- the page

module _ (p : Page) where
  abbrev pub width_of : ℕ → ℕ
  width_of i = get_or p.width i 0

  abbrev pub height_of : ℕ → ℕ
  height_of i = get_or p.height i 0

  abbrev pub distance_of : ℕ → ℕ
  distance_of i = get_or p.distance i 0

  -- 'component I width W height H distance D'
  abbrev pub heading : ℕ → List ℕ
  heading i =
      field (ascii "component ") i
      ++ (field (ascii " width ") (width_of i)
      ++ (field (ascii " height ") (height_of i) ++ (field (ascii " distance ") (distance_of i) ++ ascii "\n")))

  -- the line above the rows of component i
  abbrev pub title : Kind → ℕ → List ℕ
  title Samples i = heading i
  title Marks i = line (ascii "marks ") i
  title Distances i = line (ascii "distances ") i

  module _ (kind : Kind) (cells : List ℕ) where
    -- component i, where the page has it
    abbrev pub component : ℕ → ℕ → Part
    component i next =
        cond
        (ltb i p.components)
        (also (title kind i, next) (λ n. rows kind cells (width_of i) n (height_of i)))
        ([], next)

    -- the components before i
    unfoldable pub components : ℕ → Part
    components zero = ([], 0)
    components (suc i) = also (components i) (component i)

  unfoldable pub page_text : List ℕ → List ℕ
  page_text samples = answer_line p.answer p.place ++ (components Samples samples 4).0

  -- a refused page has no components, so neither marks nor distances follow its answer
  unfoldable pub damaged_text : List ℕ → List ℕ → List ℕ
  damaged_text samples marks = page_text samples ++ (components Marks marks 4).0

  -- the distances, behind either
  unfoldable pub distances_text : List ℕ → List ℕ
  distances_text distances = (components Distances distances 4).0

  unfoldable pub places_text : List ℕ → List ℕ → List ℕ
  places_text samples distances = page_text samples ++ distances_text distances

  unfoldable pub damaged_places_text : List ℕ → List ℕ → List ℕ → List ℕ
  damaged_places_text samples marks distances = damaged_text samples marks ++ distances_text distances

  unfoldable pub counted_text : List ℕ → List ℕ
  counted_text samples = page_text samples ++ bytes_text p.bytes
