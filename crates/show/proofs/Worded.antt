-- Request C-19's text of single pages, computed from the definition: its own example, and each form of its lines. Assumes nothing.
use mathlib.Core.List.{[], ◌∷◌}
use mathlib.Core.Path.{◌≡◌, refl}
use lib.ListN.{replicate}
use Rattle.rows.specs.Rows.{check, place_of, ample, Fine, Refused}
use Rattle.rows.specs.declared.Check.{Check}
use Rattle.rows.specs.declared.Field.TheVariants.{Bw, Next, Tcom, Work, Precinct, Counts}
use Rattle.rows.specs.declared.Row.TheVariants.{Cut, Marker, Value, Lent, Length}
use Rattle.fields.specs.Letters.{ascii}
use Rattle.reasons.specs.declared.Why.{Why}
use Rattle.reasons.specs.Coarsest.{nowhere}
use Rattle.show.specs.Text.{digits_of}
use Rattle.show.specs.Why.{coarsest_lines, why_text}

abbrev refused_by : Check → Why
refused_by c =
    record { verdict = Refused c; place = place_of (Refused c) 0; components = 0; coarsest = replicate 4 nowhere }

-- the request's example
too_long : why_text (refused_by (check Length 4100 Precinct 912 0 512)) ≡ ascii "answer 6 at 4100\nfield whole precinct in bytes\nfound 912\nexpected 0 to 512\n"
unfolding why_text digits_of
too_long = refl

-- row 1: bytes, decimal also where the field is a marker
cut_off : why_text (refused_by (check Cut 28 Next 1 2 ample)) ≡ ascii "answer 1 at 28\nfield marker\nbytes left 1\nbytes needed 2\n"
unfolding why_text digits_of
cut_off = refl

-- row 5: cells
too_few : why_text (refused_by (check Lent 54 Work 4096 4352 ample)) ≡ ascii "answer 5 at 54\nfield work cells\ncells lent 4096\ncells needed 4352\n"
unfolding why_text digits_of
too_few = refl

-- codes, in a range and with four digits
unknown : why_text (refused_by (check Marker 28 Next 0xff1c 0xff20 0xff21)) ≡ ascii "answer 2 at 28\nfield marker\nfound 0xff1c\nexpected 0xff20 to 0xff21\n"
unfolding why_text digits_of
unknown = refl

reserved : why_text (refused_by (check Value 60 Tcom 0x0002 0x0000 0x0001)) ≡ ascii "answer 3 at 60\nfield Tcom extension type\nfound 0x0002\nexpected 0x0000 to 0x0001\n"
unfolding why_text digits_of
reserved = refl

-- one value
only : why_text (refused_by (check Value 40 Bw 19 20 20)) ≡ ascii "answer 3 at 40\nfield Bw wavelet precision\nfound 19\nexpected 20\n"
unfolding why_text digits_of
only = refl

-- no most
more : why_text (refused_by (check Length 700 Counts 3 4 ample)) ≡ ascii "answer 6 at 700\nfield Lcnt count bytes\nfound 3\nexpected at least 4\n"
unfolding why_text digits_of
more = refl

-- a page that is read: its components in order, and no others
coarse : why_text
    (record {
      verdict = Fine;
      place = 1045;
      components = 2;
      coarsest = record { band = 0; precinct = 12; truncation = 5 } ∷ record { band = 7; precinct = 0; truncation = 0 } ∷ nowhere ∷ nowhere ∷ [];
    })
    ≡ ascii "answer 0 at 1045\ncomponent 0 band 0 precinct 12 truncation 5\ncomponent 1 band 7 precinct 0 truncation 0\n"
unfolding why_text coarsest_lines digits_of
coarse = refl
