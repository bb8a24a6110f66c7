-- Laws of the whole header. Assumes nothing.
use Rattle.std.specs.Prelude.{Ok, Err}
use Prim.Native.Nat.{ℕ}
use mathlib.Core.List.{List}
use mathlib.Core.Path.{◌≡◌, refl}
use Rattle.rows.specs.Rows.{Fine, Refused, Verdict}
use Rattle.rows.proofs.Tables.{refused_fine}
use Rattle.picture.specs.declared.picture.Picture.{Picture}
use Rattle.rows.specs.declared.Check.{Check}
use Rattle.picture.specs.Opening.{picture_place}
use Rattle.picture.specs.Picture.{picture_at}
use Rattle.header.specs.Header.{walk_by, walk_of, header_by, no_header, reading_of}

-- a walk is fine only behind an opening that is
pub opening_fine : (v : Verdict) (s : List ℕ) (h : Picture) (p : ℕ) → (walk_by v s h p).verdict ≡ Fine → v ≡ Fine
opening_fine (Ok _) s h p e = refl
opening_fine (Err c) s h p e = refused_fine e

-- a refused stream has no header
pub refused_header : (s : List ℕ) {k : Check} → (reading_of s).verdict ≡ Refused k → (reading_of s).header ≡ no_header
unfolding reading_of
refused_header s e = λ i. header_by (e i) s (picture_at s (picture_place s)) (walk_of s)
