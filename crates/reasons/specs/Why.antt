-- Document 02, C-19: what is told of a page, for every stream and every pair of lent buffers.
use Rattle.std.specs.Prelude.{List, ◌≡◌, ℕ, ◌*◌, ◌/◌, ◌%◌, ◌<◌, ℤ, length, get_or, replicate, Ok, Err}
use Rattle.whole.specs.Cells.{listed}
use Rattle.rows.specs.Rows.{place_of, Fine, Refused, Verdict}
use Rattle.header.specs.declared.header.Header.{Header}
use Rattle.shapes.specs.Shapes.{shape_of}
use Rattle.slices.specs.Reached.{stream_has}
use Rattle.reader.specs.Settings.{setting_of, N}
use Rattle.reader.specs.Decoding.{begun}
use Rattle.reader.specs.Page.{header_of, lent_verdict, verdict, work_by}
use Rattle.reasons.specs.declared.Coarse.{Coarse}
use Rattle.reasons.specs.declared.Why.{Why}
use Rattle.reasons.specs.Coarsest.{per_slice, all, precinct_of, nowhere, coarse_of, Coarsest}

-- of a page that is read: 'success gives Lcod', and of each component where it is coarsest
abbrev pub why_read : List ℕ → Header → Why
why_read s h =
    record {
      verdict = Fine;
      place = h.picture.lcod;
      components = h.picture.nc;
      coarsest = listed 4 (coarse_of s (setting_of h) h.slice);
    }

-- of a refused one: the check that decided, with its place
abbrev pub why_refused : Verdict → Why
why_refused v =
    record { verdict = v; place = place_of v 0; components = 0; coarsest = replicate 4 nowhere }

abbrev pub why_by : Verdict → List ℕ → Header → Why
why_by (Ok _) s h = why_read s h
why_by (Err k) s h = why_refused (Refused k)

-- of the stream s, where `a` sample cells and `w` work cells are lent
abbrev pub why_of : List ℕ → ℕ → ℕ → Why
why_of s a w = why_by (verdict s a w) s (header_of s)

-- what the record says of component i
abbrev pub told_of : Why → ℕ → Coarse
told_of r i = get_or r.coarsest i nowhere

-- what is told, and what is left of the work cells: as a reading leaves them
pub record Explains (s : List ℕ) (a : ℕ) (w : List ℤ) (r : Why) (w' : List ℤ) : Type 0 where
  pub why : r ≡ why_of s a (length w)
  pub work : w' ≡ work_by (lent_verdict s a (length w)) (2 * N (header_of s)) w

-- ---- what the record says of a page that is read, without any search: the band, the precinct and the truncation position of each component
pub record NamesCoarsest (s : List ℕ) (r : Why) : Type 0 where
  pub components : r.components ≡ (header_of s).picture.nc
  pub coarsest : (i : ℕ) → i < r.components → Coarsest s (setting_of (header_of s)) (header_of s).slice i (told_of r i).band (told_of r i).precinct (told_of r i).truncation
  -- the precincts that it speaks of are those that the reading takes
  pub precincts : (p : ℕ) → p < all (shape_of (header_of s))
      → precinct_of s (setting_of (header_of s)) (header_of s).slice p
      ≡ stream_has s (setting_of (header_of s)) (begun (header_of s)) (p / per_slice (shape_of (header_of s))) (p % per_slice (shape_of (header_of s)))
