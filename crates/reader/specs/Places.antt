-- Document 02, C-22: a distance for each sample, by document 01's rule taken place by place, in a plane that is lent. The rest is left as without the plane.
use Rattle.std.specs.Prelude.{Bool, true, false, cond, ◌&&◌, List, [], ◌∷◌, ◌++◌, ◌≡◌, ℕ, ◌-◌, ◌^◌, ℤ, length}
use Rattle.rows.specs.Rows.{check, ample, first, then, Verdict}
use Rattle.rows.specs.declared.Check.{Check}
use Rattle.rows.specs.declared.Row.TheVariants.{Lent}
use Rattle.rows.specs.declared.Field.TheVariants.{Distances}
use Rattle.pieces.specs.Pieces.{bytes_of}
use Rattle.header.specs.Header.{reading_of}
use Rattle.header.specs.declared.header.Header.{Header}
use Rattle.shapes.specs.Shapes.{shape_of}
use Rattle.planes.specs.Values.{Values, planes}
use Rattle.planes.specs.Numbers.{distances_at}
use Rattle.places.specs.Own.{own_number}
use Rattle.reader.specs.declared.page.Page.{Page}
use Rattle.reader.specs.Settings.{setting_of, depth_of, N}
use Rattle.reader.specs.Decoding.{distances_from}
use Rattle.reader.specs.Page.{header_of, page_by, samples_by}
use Rattle.reader.specs.Modes.{verdict_in, tops_in, pieces_in, lost_sample, room_checks_in, LeavesIn}

-- ---- the distances

module _ (s : List ℕ) (h : Header) where
  -- rules 1 to 5, in their order: each coefficient's own number, and from there on the way that `samples_from` goes
  unfoldable pub place_distance : Values ℕ
  place_distance = distances_at (shape_of h) h.picture.cpih h.picture.bw (depth_of h) (own_number s (setting_of h) h.slice)

  -- 'Samples marked lost under C-15 get 2^B − 1 instead'
  unfoldable pub distance_in : Bool → Values ℕ
  distance_in damaged i x y = cond (damaged && lost_sample s h i x y) (2 ^ depth_of h i - 1) (place_distance i x y)

  -- in the order of the samples
  unfoldable pub distance_plane : Bool → List ℕ
  distance_plane damaged = planes (shape_of h) (distance_in damaged) h.picture.nc

-- ---- the verdict, where `d` cells of a plane are lent beside a sample cells, w work cells and m marks

-- row 5: samples, work, of a damaged page marks, and last, where a plane is asked for, one distance for each sample
abbrev pub room_checks_by : Bool → Bool → Header → ℕ → ℕ → ℕ → ℕ → List Check
room_checks_by damaged placed h a w m d = room_checks_in damaged h a w m ++ cond placed (check Lent h.slice Distances d (N h) ample ∷ []) []

unfoldable pub lent_verdict_by : Bool → Bool → List ℕ → ℕ → ℕ → ℕ → ℕ → Verdict
lent_verdict_by damaged placed s a w m d = then (reading_of s).verdict (first (room_checks_by damaged placed (header_of s) a w m d))

unfoldable pub verdict_by : Bool → Bool → List ℕ → ℕ → ℕ → ℕ → ℕ → Verdict
verdict_by damaged placed s a w m d = then (lent_verdict_by damaged placed s a w m d) (verdict_in s (header_of s) damaged)

-- the record
abbrev pub page_with : Bool → Bool → List ℕ → ℕ → ℕ → ℕ → ℕ → Page
page_with damaged placed s a w m d = page_by (verdict_by damaged placed s a w m d) (header_of s) (distances_from (header_of s) (tops_in s (header_of s) damaged)) (bytes_of (pieces_in s (header_of s) damaged))

-- ---- what is left, where the plane d becomes d'

pub record LeavesBy (damaged placed : Bool) (s : List ℕ) (h : Header) (lent all : Verdict) (a : List ℕ) (w : List ℤ) (m d : List ℕ) (r : Page) (a' : List ℕ) (w' : List ℤ) (m' d' : List ℕ) : Type 0 where
  pub beside : LeavesIn damaged s h lent all a w m r a' w' m'
  -- 'a refused page leaves the plane unchanged'; of one that is read cells past N keep their values
  pub distances : d' ≡ samples_by all (cond placed (distance_plane s h damaged) []) d

abbrev pub ReadsBy : Bool → Bool → List ℕ → List ℕ → List ℤ → List ℕ → List ℕ → Page → List ℕ → List ℤ → List ℕ → List ℕ → Type 0
ReadsBy damaged placed s a w m d r a' w' m' d' =
    LeavesBy damaged placed s (header_of s) (lent_verdict_by damaged placed s (length a) (length w) (length m) (length d))
    (verdict_by damaged placed s (length a) (length w) (length m) (length d)) a w m d r a' w' m' d'

-- a page with its plane, as `read_places` reads it: a plain reading has no marks
abbrev pub ReadsPlaces : List ℕ → List ℕ → List ℤ → List ℕ → Page → List ℕ → List ℤ → List ℕ → Type 0
ReadsPlaces s a w d r a' w' d' = ReadsBy false true s a w [] d r a' w' [] d'

-- a damaged page with its plane, as `read_damaged_places` reads it
abbrev pub ReadsDamagedPlaces : List ℕ → List ℕ → List ℤ → List ℕ → List ℕ → Page → List ℕ → List ℤ → List ℕ → List ℕ → Type 0
ReadsDamagedPlaces = ReadsBy true true
