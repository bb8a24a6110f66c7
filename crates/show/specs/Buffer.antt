-- A text goes into a buffer byte by byte, as far as there is room.
use Rattle.std.specs.Prelude.{cond, List, [], ◌∷◌, ◌++◌, ◌≡◌, ℕ, ◌+◌, min, ltb, length, set, take, drop}
use Rattle.show.specs.Text.{Part, page_text, damaged_text, places_text, damaged_places_text, counted_text}
use Rattle.show.specs.declared.Progress.{Progress}
use Rattle.reader.specs.declared.page.Page.{Page}

-- the next free place, and the buffer
abbrev pub State : Type 0
State = ℕ × List ℕ

abbrev pub put_byte : ℕ → State → State
put_byte b s = (cond (ltb s.0 (length s.1)) (s.0 + 1) s.0, set s.1 s.0 b)

unfoldable pub puts : List ℕ → State → State
puts [] s = s
puts (b ∷ t) s = puts t (put_byte b s)

-- `text` is put into the buffer `o` from `at` on: the place behind it is r, and the buffer is then o'
pub record Put (text : List ℕ) (at : ℕ) (o : List ℕ) (r : ℕ) (o' : List ℕ) : Type 0 where
  pub state : ◌≡◌ {A = State} (r, o') (puts text (at, o))

-- the same of a part that uses up cells
pub record Shown (part : Part) (at : ℕ) (o : List ℕ) (r : Progress) (o' : List ℕ) : Type 0 where
  pub next_is : r.next ≡ part.1
  pub put : Put part.0 at o r.at o'

-- a whole text at the buffer's beginning: r bytes of it, as many as there is room for, and the rest of the buffer as it was
pub record Leads (whole o : List ℕ) (r : ℕ) (o' : List ℕ) : Type 0 where
  pub count : r ≡ min (length whole) (length o)
  pub text : o' ≡ take (length o) whole ++ drop (length whole) o

abbrev pub PageText : Page → List ℕ → List ℕ → ℕ → List ℕ → Type 0
PageText p samples = Leads (page_text p samples)

abbrev pub DamagedText : Page → List ℕ → List ℕ → List ℕ → ℕ → List ℕ → Type 0
DamagedText p samples marks = Leads (damaged_text p samples marks)

abbrev pub PlacesText : Page → List ℕ → List ℕ → List ℕ → ℕ → List ℕ → Type 0
PlacesText p samples distances = Leads (places_text p samples distances)

abbrev pub DamagedPlacesText : Page → List ℕ → List ℕ → List ℕ → List ℕ → ℕ → List ℕ → Type 0
DamagedPlacesText p samples marks distances = Leads (damaged_places_text p samples marks distances)

abbrev pub CountedText : Page → List ℕ → List ℕ → ℕ → List ℕ → Type 0
CountedText p samples = Leads (counted_text p samples)
