-- Request C-19's text, line by line: of a refused page the field whose rule is broken, what was found there and what is expected; of one that is read, where each
-- component is coarsest.
use Rattle.std.specs.Prelude.{Bool, cond, List, [], ◌++◌, ℕ, zero, suc, ltb, eqb, Ok, Err}
use Rattle.io.specs.Digits.{last_digits}
use Rattle.rows.specs.Rows.{answer, ample, Verdict}
use Rattle.rows.specs.declared.Check.{Check}
use Rattle.rows.specs.declared.Field.{Field}
use Rattle.rows.specs.declared.Row.{Row}
use Rattle.rows.specs.declared.Row.TheVariants.{Cut, Marker, Value, Lacking, Lent, Length, Count, Mode}
use Rattle.fields.specs.Letters.{ascii}
use Rattle.fields.specs.Names.{name_of, codes}
use Rattle.reasons.specs.declared.Why.{Why}
use Rattle.reasons.specs.Why.{told_of}
use Rattle.show.specs.Text.{decimal, field, line, answer_line}
use Rattle.show.specs.declared.why.Tells.{Tells}
use Rattle.show.specs.declared.why.Tells.TheVariants.{Bytes, Cells, Values}

-- ---- numbers

-- '0x and four lower-case digits'
abbrev pub hexadecimal : ℕ → List ℕ
hexadecimal n = ascii "0x" ++ last_digits 16 4 n

-- a code in hexadecimal, 'everything else decimal'
abbrev pub numeral : Bool → ℕ → List ℕ
numeral code n = cond code (hexadecimal n) (decimal n)

-- 'L where least = most; at least L where there is no most; else L to M'
abbrev pub expected : Bool → ℕ → ℕ → List ℕ
expected code least most =
    cond
    (eqb least most)
    (numeral code least)
    (cond
    (eqb most ample)
    (ascii "at least " ++ numeral code least)
    (numeral code least ++ (ascii " to " ++ numeral code most)))

-- ---- the check that decided

-- 'for 5 the cells lent and needed, for 1 the bytes left and needed'; every other row tells the value found and what is expected
abbrev pub tells : Row → Tells
tells Cut = Bytes
tells Marker = Values
tells Value = Values
tells Lacking = Values
tells Lent = Cells
tells Length = Values
tells Count = Values
tells Mode = Values

-- 'field NAME'
abbrev pub field_line : Field → List ℕ
field_line f = ascii "field " ++ (name_of f ++ ascii "\n")

-- 'found V'
abbrev pub found_line : Bool → ℕ → List ℕ
found_line code found = ascii "found " ++ (numeral code found ++ ascii "\n")

-- 'expected E'
abbrev pub expected_line : Bool → ℕ → ℕ → List ℕ
expected_line code least most = ascii "expected " ++ (expected code least most ++ ascii "\n")

-- the third and the fourth line
abbrev pub number_lines : Tells → Bool → ℕ → ℕ → ℕ → List ℕ
number_lines Bytes code found least most = line (ascii "bytes left ") found ++ line (ascii "bytes needed ") least
number_lines Cells code found least most = line (ascii "cells lent ") found ++ line (ascii "cells needed ") least
number_lines Values code found least most = found_line code found ++ expected_line code least most

abbrev pub check_text : Check → List ℕ
check_text c = field_line c.2 ++ number_lines (tells c.0) (codes c.0 c.2) c.3 c.4 c.5

-- ---- a page that is read

module _ (w : Why) where
  -- 'component I band B precinct P truncation T'
  abbrev pub coarsest_line : ℕ → List ℕ
  coarsest_line i =
      field (ascii "component ") i
      ++ (field (ascii " band ") (told_of w i).band
      ++ (field (ascii " precinct ") (told_of w i).precinct ++ line (ascii " truncation ") (told_of w i).truncation))

  -- of component i, where the page has it
  abbrev pub coarsest_of : ℕ → List ℕ
  coarsest_of i = cond (ltb i w.components) (coarsest_line i) []

  -- of the components before i, in order
  unfoldable pub coarsest_lines : ℕ → List ℕ
  coarsest_lines zero = []
  coarsest_lines (suc i) = coarsest_lines i ++ coarsest_of i

-- ---- the whole text

-- what follows the answer
abbrev pub reason_text : Verdict → Why → List ℕ
reason_text (Ok _) w = coarsest_lines w 4
reason_text (Err c) w = check_text c

unfoldable pub why_text : Why → List ℕ
why_text w = answer_line (answer w.verdict) w.place ++ reason_text w.verdict w
