-- What the exported functions leave, by the reader's and the header's definitions.
use Rattle.std.specs.Prelude.{Bool, true, false, cond, List, [], ◌∷◌, ◌++◌, ◌≡◌, ℕ, ◌-◌, ◌*◌, ◌/◌, ◌%◌, ◌^◌, eqb, ℤ, length, get_or, replicate, Ok, Err}
use Rattle.rows.specs.Rows.{number, Verdict}
use Rattle.fields.specs.Names.{name_of, codes}
use Rattle.header.specs.Header.{reading_of}
use Rattle.header.specs.declared.header.Header.{Header}
use Rattle.pieces.specs.declared.Bytes.{Bytes}
use Rattle.reader.specs.Settings.{N}
use Rattle.reader.specs.Page.{header_of, lent_verdict, work_by, page_of, Reads}
use Rattle.reader.specs.Modes.{page_in, ReadsDamaged}
use Rattle.reader.specs.Places.{lent_verdict_by, verdict_by, page_with, ReadsBy}
use Rattle.reader.specs.declared.page.Page.{Page}
use Rattle.reasons.specs.Why.{told_of, why_of}
use Rattle.reasons.specs.declared.Why.{Why}
use Rattle.pitchladle.specs.declared.Reason.{Reason}

-- ---- the page record, cell by cell

-- of component i, 0 where there is none
abbrev pub cells_for : Page → ℕ → List ℕ
cells_for p i = get_or p.width i 0 ∷ get_or p.height i 0 ∷ get_or p.precision i 0 ∷ get_or p.distance i 0 ∷ []

-- where the bytes of the stream went, in the order of C-16
abbrev pub total_cells : Bytes → List ℕ
total_cells t =
    t.markers ∷ t.precincts ∷ t.packets ∷ t.significance ∷ t.counts ∷ t.«data» ∷ t.signs ∷ t.filler ∷ t.spoilt ∷ []

abbrev pub cells_of : Page → List ℕ
cells_of p =
    (p.answer ∷ p.place ∷ p.components ∷ cond p.caption 1 0 ∷ [])
    ++ (cells_for p 0 ++ (cells_for p 1 ++ (cells_for p 2 ++ (cells_for p 3 ++ total_cells p.bytes))))

-- a reading of the stream s into the samples a, by the work cells w: the record as cells, and both buffers behind it
pub record Handed (s a : List ℕ) (w : List ℤ) (cells a' : List ℕ) (w' : List ℤ) : Type 0 where
  pub cells_are : cells ≡ cells_of (page_of s (length a) (length w))
  pub reads : Reads s a w (page_of s (length a) (length w)) a' w'

-- the same of a damaged page, with the marks m
pub record HandedDamaged (s a : List ℕ) (w : List ℤ) (m cells a' : List ℕ) (w' : List ℤ) (m' : List ℕ) : Type 0 where
  pub cells_are : cells ≡ cells_of (page_in true s (length a) (length w) (length m))
  pub reads : ReadsDamaged s a w m (page_in true s (length a) (length w) (length m)) a' w' m'

-- either with the plane of distances d: a page that is not read as a damaged one has no marks
pub record HandedBy (damaged : Bool) (s a : List ℕ) (w : List ℤ) (m d cells a' : List ℕ) (w' : List ℤ) (m' d' : List ℕ) : Type 0 where
  pub cells_are : cells ≡ cells_of (page_with damaged true s (length a) (length w) (length m) (length d))
  pub reads : ReadsBy damaged true s a w m d (page_with damaged true s (length a) (length w) (length m) (length d)) a' w' m' d'

abbrev pub HandedPlaces : List ℕ → List ℕ → List ℤ → List ℕ → List ℕ → List ℕ → List ℤ → List ℕ → Type 0
HandedPlaces s a w d cells a' w' d' = HandedBy false s a w [] d cells a' w' [] d'

abbrev pub HandedDamagedPlaces : List ℕ → List ℕ → List ℤ → List ℕ → List ℕ → List ℕ → List ℕ → List ℤ → List ℕ → List ℕ → Type 0
HandedDamagedPlaces = HandedBy true

-- ---- N, how many samples the page has: 0 where the header is refused

abbrev pub needed_by : Verdict → Header → ℕ
needed_by (Ok _) h = N h
needed_by (Err c) h = 0

unfoldable pub needed : List ℕ → ℕ
needed s = needed_by (reading_of s).verdict (reading_of s).header

-- ---- why a page is refused

-- number, place, the value found, least and most, and whether these are codes. Of a page that is read all is 0 but the place, which is `end`
abbrev pub reason_cells : Verdict → ℕ → List ℕ
reason_cells (Ok _) end = 0 ∷ end ∷ 0 ∷ 0 ∷ 0 ∷ 0 ∷ []
reason_cells (Err c) end = number c.0 ∷ c.1 ∷ c.3 ∷ c.4 ∷ c.5 ∷ cond (codes c.0 c.2) 1 0 ∷ []

-- the name of the field, and zeros behind it
abbrev pub reason_name : Verdict → List ℕ
reason_name (Ok _) = replicate 40 0
reason_name (Err c) = name_of c.2 ++ replicate (40 - length (name_of c.2)) 0

pub record IsReason (v : Verdict) (end : ℕ) (r : Reason) : Type 0 where
  pub cells_are : r.cells ≡ reason_cells v end
  pub name_is : r.name ≡ reason_name v

-- bit k of the mode is set
abbrev pub asked : ℕ → ℕ → Bool
asked mode k = eqb (mode / 2 ^ k % 2) 1

-- the way of reading that the mode tells, where a samples, m marks and d distances are lent by their number, and w work cells become w'
pub record Explained (s : List ℕ) (mode a : ℕ) (w : List ℤ) (m d : ℕ) (w' : List ℤ) (cells name : List ℕ) : Type 0 where
  pub cells_are : cells ≡ reason_cells (verdict_by (asked mode 0) (asked mode 1) s a (length w) m d) (header_of s).picture.lcod
  pub name_is : name ≡ reason_name (verdict_by (asked mode 0) (asked mode 1) s a (length w) m d)
  pub work : w' ≡ work_by (lent_verdict_by (asked mode 0) (asked mode 1) s a (length w) m d) (2 * N (header_of s)) w

-- ---- where a page is coarsest

-- of component i, 0 where there is none
abbrev pub coarsest_for : Why → ℕ → List ℕ
coarsest_for y i = (told_of y i).band ∷ (told_of y i).precinct ∷ (told_of y i).truncation ∷ []

abbrev pub coarsest_cells : Why → List ℕ
coarsest_cells y = (y.components ∷ []) ++ (coarsest_for y 0 ++ (coarsest_for y 1 ++ (coarsest_for y 2 ++ coarsest_for y 3)))

-- of the stream s, where a samples are lent by their number and the work cells w become w'
pub record HandedCoarsest (s : List ℕ) (a : ℕ) (w w' : List ℤ) (cells : List ℕ) : Type 0 where
  pub cells_are : cells ≡ coarsest_cells (why_of s a (length w))
  pub work : w' ≡ work_by (lent_verdict s a (length w)) (2 * N (header_of s)) w
