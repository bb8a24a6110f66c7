-- What the steps of a reading ask and answer.
use Rattle.std.specs.Prelude.{Bool, true, false, cond, List, [], ◌∷◌, ◌≡◌, ℕ, ◌+◌, ◌*◌, ◌^◌, ◌≤◌, ◌<◌, ℤ, pos, negsuc, length, get_or, replicate, Ok, Err}
use Rattle.rows.specs.Rows.{Fine, Verdict}
use Rattle.whole.specs.Cells.{cell}
use Rattle.pieces.specs.declared.Bytes.{Bytes}
use Rattle.pieces.specs.Pieces.{Markers, bytes_of}
use Rattle.wavelet.specs.Places.{bands}
use Rattle.layout.specs.declared.Shape.{Shape}
use Rattle.layout.specs.Bands.{Wc}
use Rattle.layout.specs.Built.{Built}
use Rattle.layout.specs.Cells.{area, start}
use Rattle.header.specs.Accepted.{Ranges, Accepted}
use Rattle.header.specs.Pieces.{header_pieces}
use Rattle.header.specs.declared.header.Header.{Header}
use Rattle.shapes.specs.Shapes.{shape_of}
use Rattle.packets.specs.declared.Setting.{Setting}
use Rattle.packets.specs.Ready.{Settled}
use Rattle.slices.specs.declared.Reading.{Reading}
use Rattle.slices.specs.Walk.{walk_stream}
use Rattle.damage.specs.Pieces.{stream_pieces_by}
use Rattle.damage.specs.Steps.{Streamed}
use Rattle.planes.specs.Values.{Bands, planes}
use Rattle.planes.specs.Marks.{mark_of, bit}
use Rattle.planes.specs.Places.{coefficients_in, Ready}
use Rattle.reader.specs.declared.page.Page.{Page}
use Rattle.reader.specs.Settings.{setting_of, N}
use Rattle.reader.specs.Decoding.{handed, distances_from, begun}
use Rattle.reader.specs.Page.{page_by}
use Rattle.reader.specs.Modes.{decoded_by, verdict_in, tops_in, pieces_in, coefficients_of, lost_marks}
use Rattle.reader.specs.Places.{place_distance, distance_plane}

-- ---- what is asked

-- the header of a stream that is accepted up to and with its first slice marker: its bytes are markers and their segments
pub record Opened (s : List ℕ) (h : Header) : Type 0 where
  pub accepted : Accepted s h
  pub shape : Built (shape_of h)
  pub bytes : bytes_of (header_pieces s) ≡ bytes_of ((Markers, h.slice) ∷ [])

-- N samples, decoded cells, and each band's largest T
pub record Decoded (h : Header) (samples : ℕ) (tops : List ℕ) (cells : List ℤ) : Type 0 where
  pub ranges : Ranges h
  pub room : samples ≡ N h
  pub ready : Ready (shape_of h) (2 ^ 40) cells
  pub few : (b : ℕ) → get_or tops b 0 ≤ 31

-- room for the cells of the components, and for as many marks as there are samples
pub record Markable (h : Header) (marks : ℕ) (cells : List ℤ) : Type 0 where
  pub ranges : Ranges h
  pub built : Built (shape_of h)
  pub enough : start (shape_of h) (shape_of h).nc ≤ length cells
  pub room : marks ≡ N h

-- precincts that the walk finds, room for the cells of the components, and for as many distances as there are samples
pub record Placeable (s : List ℕ) (h : Header) (cells plane : ℕ) : Type 0 where
  pub opened : Opened s h
  pub walked : (walk_stream s (setting_of h) h.slice).0 ≡ Fine
  pub enough : cells ≡ 2 * N h
  pub room : plane ≡ N h

-- the verdict v of the slices; of a page that is read the marks that its mode has; and the distances only where a plane is asked for
pub record PlaceableBy (v : Verdict) (damaged placed : Bool) (s : List ℕ) (h : Header) (cells : ℕ) (m : List ℕ) (plane : ℕ) : Type 0 where
  pub opened : Opened s h
  pub verdict : v ≡ verdict_in s h damaged
  pub enough : cells ≡ 2 * N h
  pub marks : v ≡ Fine → m ≡ cond damaged (lost_marks s h) []
  pub room : plane ≡ cond placed (N h) 0

-- ---- what is answered

pub record IsSetting (h : Header) (c : Setting) : Type 0 where
  pub is : c ≡ setting_of h
  pub settled : Settled c

-- the slices behind an accepted header, and the end of the stream, read into 2N cells that were 0
abbrev pub Sliced : Bool → List ℕ → Header → Reading → List ℤ → Type 0
Sliced damaged s h = Streamed (decoded_by s h damaged) (stream_pieces_by s (setting_of h) damaged (begun h))

-- where N samples are lent, they are filled or left
abbrev pub filled_by : Verdict → List ℕ → List ℕ → List ℕ
filled_by (Ok _) new a = new
filled_by (Err c) new a = a

-- by the verdict v of what was decoded
pub record Shows (v : Verdict) (h : Header) (tops : List ℕ) (bytes : Bytes) (a : List ℕ) (w : List ℤ) (r : Page) (a' : List ℕ) (w' : List ℤ) : Type 0 where
  pub page : r ≡ page_by v h (distances_from h tops) bytes
  pub samples : a' ≡ filled_by v (handed h (coefficients_in (shape_of h) w)) a
  pub same : length w' ≡ length w
  -- and with the count cells as they were
  pub other : (n : ℕ) → ((i : ℕ) → i < (shape_of h).nc → start (shape_of h) i ≤ n → start (shape_of h) i + area (shape_of h) i ≤ n) → cell w' n ≡ cell w n

-- a lost coefficient's count cell is negative
abbrev pub is_lost : ℤ → Bool
is_lost (pos n) = false
is_lost (negsuc n) = true

-- the coefficients that the count cells tell to be lost
abbrev pub lost_in : Shape → List ℤ → Bands Bool
lost_in s l i = bands (λ x y. is_lost (cell l (start s i + area s i + (y * Wc s i + x))))

-- and the marks that they give
abbrev pub marks_from : Header → List ℤ → List ℕ
marks_from h w = planes (shape_of h) (λ i x y. bit (mark_of (shape_of h) h.picture.cpih (lost_in (shape_of h) w) i x y)) h.picture.nc

pub record Marked (h : Header) (w w' : List ℤ) (m' : List ℕ) : Type 0 where
  pub marks : m' ≡ marks_from h w
  pub same : length w' ≡ length w

-- by the verdict v, in either mode
pub record MarkedIn (v : Verdict) (damaged : Bool) (h : Header) (w w' : List ℤ) (m m' : List ℕ) : Type 0 where
  pub marks : m' ≡ filled_by v (cond damaged (marks_from h w) []) m
  pub same : length w' ≡ length w

-- the distances of a page in which nothing is lost
pub record Placed (s : List ℕ) (h : Header) (w w' : List ℤ) (d' : List ℕ) : Type 0 where
  pub distances : d' ≡ planes (shape_of h) (place_distance s h) h.picture.nc
  pub same : length w' ≡ length w

-- by the verdict v, in either mode, where a plane is asked for or not
pub record PlacedIn (v : Verdict) (damaged placed : Bool) (s : List ℕ) (h : Header) (w w' : List ℤ) (d d' : List ℕ) : Type 0 where
  pub distances : d' ≡ filled_by v (cond placed (distance_plane s h damaged) []) d
  pub same : length w' ≡ length w

pub record DecodesIn (damaged : Bool) (s : List ℕ) (h : Header) (a : List ℕ) (w : List ℤ) (m : List ℕ) (r : Page) (a' : List ℕ) (w' : List ℤ) (m' : List ℕ) : Type 0 where
  pub page : r ≡ page_by (verdict_in s h damaged) h (distances_from h (tops_in s h damaged)) (bytes_of (pieces_in s h damaged))
  pub samples : a' ≡ filled_by (verdict_in s h damaged) (handed h (coefficients_of s h damaged)) a
  pub work : w' ≡ replicate (length w) (pos 0)
  pub marks : m' ≡ filled_by (verdict_in s h damaged) (cond damaged (lost_marks s h) []) m

-- with a plane, or without one
pub record DecodesBy (damaged placed : Bool) (s : List ℕ) (h : Header) (a : List ℕ) (w : List ℤ) (m d : List ℕ) (r : Page) (a' : List ℕ) (w' : List ℤ) (m' d' : List ℕ) : Type 0 where
  pub beside : DecodesIn damaged s h a w m r a' w' m'
  pub distances : d' ≡ filled_by (verdict_in s h damaged) (cond placed (distance_plane s h damaged) []) d
