-- Whole pages: for each stream what the definitions of a reading give, and what it must be.
use Rattle.std.specs.Prelude.{Bool, false, List, [], ◌∷◌, ◌≡◌, ℕ, ◌*◌, length, replicate}
use Rattle.pieces.specs.declared.Bytes.{Bytes}
use Rattle.pieces.specs.Pieces.{bytes_of, nothing}
use Rattle.reader.specs.Decoding.{handed, coefficients}
use Rattle.reader.specs.Page.{header_of, verdict, page_of, samples_by}
use Rattle.reader.specs.Modes.{pieces_in}
use Rattle.reader.specs.Places.{distance_plane}
use Rattle.pages.specs.Streams.{colours, four_components, two_columns, width_five, predicted, uniform, cut, trailing, sampled_colour, kept_out, past_precinct, high_count, predicted_at_top, mixed_raw}
use Rattle.pages.specs.Answers.{Reading, colours_read, four_components_read, two_columns_read, width_five_read, predicted_read, uniform_read}

-- a stream, how many sample cells and work cells are lent, and what the reading must be
pub record Row : Type 0 where
  pub stream : List ℕ
  pub lent_samples : ℕ
  pub lent_work : ℕ
  pub says : Reading

-- a page that is read, where as many cells are lent as it needs
abbrev pub is_read : List ℕ → Reading → Row
is_read s says = record { stream = s; lent_samples = length says.samples; lent_work = 2 * length says.samples; says = says }

-- a page that is refused with a number at a place: 0 and 'no' but for these, and no sample
abbrev pub is_refused : List ℕ → ℕ → ℕ → ℕ → ℕ → Row
is_refused s a w number place =
    record {
      stream = s;
      lent_samples = a;
      lent_work = w;
      says =
          record {
            page =
                record {
                  answer = number;
                  place = place;
                  components = 0;
                  caption = false;
                  width = replicate 4 0;
                  height = replicate 4 0;
                  precision = replicate 4 0;
                  distance = replicate 4 0;
                  bytes = nothing;
                };
            samples = [];
          };
    }

-- the last two numbers of a refused page are document 01's number and the place. Its program lends 2,048 and 4,096 cells; row 5 is met by one cell too few of
-- either kind
unfoldable pub smaller : List Row
smaller =
    is_read colours colours_read
    ∷ is_read four_components four_components_read
    ∷ is_read width_five width_five_read
    ∷ is_read predicted predicted_read
    ∷ is_read uniform uniform_read
    ∷ is_refused cut 2048 4096 1 48
    ∷ is_refused trailing 2048 4096 2 140
    ∷ is_refused sampled_colour 2048 4096 3 43
    ∷ is_refused kept_out 2048 4096 4 70
    ∷ is_refused colours 26 54 5 118
    ∷ is_refused colours 27 53 5 118
    ∷ is_refused past_precinct 2048 4096 6 65
    ∷ is_refused high_count 2048 4096 7 65
    ∷ is_refused predicted_at_top 2048 4096 8 77
    ∷ is_refused mixed_raw 2048 4096 8 113
    ∷ []

-- with the largest page
unfoldable pub table : List Row
table = is_read two_columns two_columns_read ∷ smaller

-- what the definitions give: the record, and the samples that stand in front in the lent cells
abbrev pub read_by : Row → Reading
read_by r =
    record {
      page = page_of r.stream r.lent_samples r.lent_work;
      samples = samples_by (verdict r.stream r.lent_samples r.lent_work) (handed (header_of r.stream) (coefficients r.stream (header_of r.stream))) [];
    }

-- the two columns
abbrev pub gives : List Row → List Reading
gives [] = []
gives (r ∷ rs) = read_by r ∷ gives rs

abbrev pub says : List Row → List Reading
says [] = []
says (r ∷ rs) = r.says ∷ says rs

-- ---- document 02, C-22: the definitions give the samples of a stream these distances

abbrev pub HasDistances : List ℕ → List ℕ → Type 0
HasDistances s distances = distance_plane s (header_of s) false ≡ distances

-- ---- document 02, C-16: the definitions have the bytes of a stream go there, in either mode

abbrev pub HasBytes : Bool → List ℕ → Bytes → Type 0
HasBytes damaged s bytes = bytes_of (pieces_in s (header_of s) damaged) ≡ bytes
