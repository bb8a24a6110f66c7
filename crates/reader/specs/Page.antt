-- The page: the answer, its record, and each lent cell, for every stream and every pair of lent buffers.
use Rattle.std.specs.Prelude.{false, List, ◌++◌, ◌≡◌, ℕ, ◌*◌, ℤ, pos, length, drop, replicate, Ok, Err}
use Rattle.rows.specs.Rows.{first, then, answer, place_of, Refused, Verdict}
use Rattle.layout.specs.Bands.{Wc, Hc}
use Rattle.header.specs.Header.{reading_of}
use Rattle.header.specs.declared.header.Header.{Header}
use Rattle.shapes.specs.Shapes.{shape_of}
use Rattle.pieces.specs.declared.Bytes.{Bytes}
use Rattle.pieces.specs.Pieces.{nothing, bytes_of}
use Rattle.distances.specs.Rule.{of_four}
use Rattle.reader.specs.declared.page.Page.{Page}
use Rattle.reader.specs.Settings.{depth_of, N, room_checks}
use Rattle.reader.specs.Decoding.{handed, distances_from, decoded_verdict, tops, coefficients, pieces}

-- ---- the verdict: 'checking runs from the front', and an earlier refusal stands

abbrev pub header_of : List ℕ → Header
header_of s = (reading_of s).header

-- the header with the first slice marker, and row 5 there, where `a` sample cells and `w` work cells are lent
unfoldable pub lent_verdict : List ℕ → ℕ → ℕ → Verdict
lent_verdict s a w = then (reading_of s).verdict (first (room_checks (header_of s) a w))

-- and all that stands behind it
unfoldable pub verdict : List ℕ → ℕ → ℕ → Verdict
verdict s a w = then (lent_verdict s a w) (decoded_verdict s (header_of s))

-- ---- the record

-- 'for four components width, height, precision and distance. Unused components are all 0'; 'success gives Lcod'; and, by document 02's C-16, where the bytes went
abbrev pub page_read : Header → List ℕ → Bytes → Page
page_read h distance bytes =
    record {
      answer = 0;
      place = h.picture.lcod;
      components = h.picture.nc;
      caption = h.caption;
      width = of_four h.picture.nc (Wc (shape_of h));
      height = of_four h.picture.nc (Hc (shape_of h));
      precision = of_four h.picture.nc (depth_of h);
      distance = distance;
      bytes = bytes;
    }

-- 'a refusal's record is 0 and "no" but for answer and place'; C-16: 'On refusal all are 0'
abbrev pub page_refused : Verdict → Page
page_refused v =
    record {
      answer = answer v;
      place = place_of v 0;
      components = 0;
      caption = false;
      width = replicate 4 0;
      height = replicate 4 0;
      precision = replicate 4 0;
      distance = replicate 4 0;
      bytes = nothing;
    }

abbrev pub page_by : Verdict → Header → List ℕ → Bytes → Page
page_by (Ok _) h distance bytes = page_read h distance bytes
page_by (Err c) h distance bytes = page_refused (Refused c)

-- the record of a reading of s
abbrev pub page_of : List ℕ → ℕ → ℕ → Page
page_of s a w = page_by (verdict s a w) (header_of s) (distances_from (header_of s) (tops s (header_of s))) (bytes_of (pieces s (header_of s)))

-- ---- the buffers

-- 'on success cells past N keep their values; on refusal all do'
abbrev pub samples_by : Verdict → List ℕ → List ℕ → List ℕ
samples_by (Ok _) new a = new ++ drop (length new) a
samples_by (Err c) new a = a

-- 'until row 5 has passed the work buffer is unchanged. From then on every answer returns its first 2N cells as 0 and the rest unchanged'
abbrev pub work_by : Verdict → ℕ → List ℤ → List ℤ
work_by (Ok _) n w = replicate n (pos 0) ++ drop n w
work_by (Err c) n w = w

-- ---- what is left by a reading of the stream s, of the header h: `lent` is the verdict by row 5, and `all` that of the whole stream. The samples a become
-- a', the work cells w become w'
pub record Leaves (s : List ℕ) (h : Header) (lent all : Verdict) (a : List ℕ) (w : List ℤ) (r : Page) (a' : List ℕ) (w' : List ℤ) : Type 0 where
  pub page : r ≡ page_by all h (distances_from h (tops s h)) (bytes_of (pieces s h))
  pub samples : a' ≡ samples_by all (handed h (coefficients s h)) a
  pub work : w' ≡ work_by lent (2 * N h) w

abbrev pub Reads : List ℕ → List ℕ → List ℤ → Page → List ℕ → List ℤ → Type 0
Reads s a w r a' w' = Leaves s (header_of s) (lent_verdict s (length a) (length w)) (verdict s (length a) (length w)) a w r a' w'
