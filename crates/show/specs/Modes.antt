-- The modes of reading: what each reads, and its text.
use Rattle.std.specs.Prelude.{List, ◌≡◌, ℕ, ℤ, pos, replicate}
use Rattle.reader.specs.Page.{Reads}
use Rattle.reader.specs.Modes.{ReadsDamaged}
use Rattle.reader.specs.Places.{ReadsPlaces, ReadsDamagedPlaces}
use Rattle.reader.specs.declared.page.Page.{Page}
use Rattle.show.specs.Text.{page_text, damaged_text, places_text, damaged_places_text, counted_text}
use Rattle.show.specs.Buffer.{Leads}
use Rattle.show.specs.declared.modes.Mode.{Mode}
use Rattle.show.specs.declared.modes.Mode.TheVariants.{Plain, Damaged, Places, DamagedPlaces, Bytes, DamagedBytes}
use Rattle.show.specs.declared.modes.Told.{Told}

-- The contract of the function that reads in a mode. What the mode does not have stays as it was. The modes that tell of the bytes read as others do: a whole
-- page, or a damaged one
abbrev pub ReadsWhole : List ℕ → List ℕ → List ℤ → List ℕ → List ℕ → Page → List ℕ → List ℤ → List ℕ → List ℕ → Type 0
ReadsWhole s a w m d r a' w' m' d' = Reads s a w r a' w' × (m' ≡ m) × (d' ≡ d)

abbrev pub ReadsSpoilt : List ℕ → List ℕ → List ℤ → List ℕ → List ℕ → Page → List ℕ → List ℤ → List ℕ → List ℕ → Type 0
ReadsSpoilt s a w m d r a' w' m' d' = ReadsDamaged s a w m r a' w' m' × (d' ≡ d)

abbrev pub ReadsAs : Mode → List ℕ → List ℕ → List ℤ → List ℕ → List ℕ → Page → List ℕ → List ℤ → List ℕ → List ℕ → Type 0
ReadsAs Plain s a w m d r a' w' m' d' = ReadsWhole s a w m d r a' w' m' d'
ReadsAs Damaged s a w m d r a' w' m' d' = ReadsSpoilt s a w m d r a' w' m' d'
ReadsAs Places s a w m d r a' w' m' d' = ReadsPlaces s a w d r a' w' d' × (m' ≡ m)
ReadsAs DamagedPlaces s a w m d r a' w' m' d' = ReadsDamagedPlaces s a w m d r a' w' m' d'
ReadsAs Bytes s a w m d r a' w' m' d' = ReadsWhole s a w m d r a' w' m' d'
ReadsAs DamagedBytes s a w m d r a' w' m' d' = ReadsSpoilt s a w m d r a' w' m' d'

abbrev pub text_as : Mode → Page → List ℕ → List ℕ → List ℕ → List ℕ
text_as Plain p samples marks distances = page_text p samples
text_as Damaged p samples marks distances = damaged_text p samples marks
text_as Places p samples marks distances = places_text p samples distances
text_as DamagedPlaces p samples marks distances = damaged_places_text p samples marks distances
text_as Bytes p samples marks distances = counted_text p samples
text_as DamagedBytes p samples marks distances = counted_text p samples

-- the text of the stream s in a mode, in the buffer o, which becomes o'. The reading determines all that is written
pub record TextOf (mode : Mode) (s o : List ℕ) (r : Told) (o' : List ℕ) : Type 0 where
  pub page : Page
  pub samples : List ℕ
  pub work : List ℤ
  pub marks : List ℕ
  pub distances : List ℕ
  pub reads : ReadsAs mode s (replicate 2048 0) (replicate 4096 (pos 0)) (replicate 2048 0) (replicate 2048 0) page samples work marks distances
  pub text : Leads (text_as mode page samples marks distances) o r.size o'
  pub caption : r.caption ≡ page.caption
