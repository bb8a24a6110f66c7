-- From decoded cells to samples: what `show` rests on. Assumes nothing.
use mathlib.Core.Path.{◌≡◌, refl, ◌∙◌}
use mathlib.Core.List.{List}
use Prim.Native.Nat.{ℕ, ◌^◌}
use lib.IntN.{ℤ}
use Rattle.rows.specs.Rows.{Fine, Refused, Verdict}
use Rattle.rows.specs.declared.Check.{Check}
use Rattle.layout.specs.declared.Shape.{Shape}
use Rattle.layout.specs.Built.{Built}
use Rattle.header.specs.declared.header.Header.{Header}
use Rattle.shapes.specs.Shapes.{shape_of}
use Rattle.planes.specs.Values.{transformed, coloured, sampled, planes}
use Rattle.planes.specs.Places.{values_in, coefficients_in, Colours, Ready, Holding}
use Rattle.planes.specs.Numbers.{numbers_of, held, numbers_in}
use Rattle.planes.proofs.Planes.{planes_held}
use Rattle.planes.proofs.Laws.{values_small, numbers_small, held_ready}
use Rattle.distances.specs.Rule.{distances_of}
use Rattle.pieces.specs.declared.Bytes.{Bytes}
use Rattle.reader.specs.declared.page.Page.{Page}
use Rattle.reader.specs.Settings.{depth_of}
use Rattle.reader.specs.Decoding.{samples_from, handed, distances_from}
use Rattle.reader.specs.Page.{page_read, page_refused}
use Rattle.reader.specs.Steps.{Shows}

pub values_ready : {s : Shape} {cpih : ℕ} {l l' : List ℤ} → Ready s (2 ^ 40) l → Colours s cpih → Holding s (coloured cpih (transformed s (coefficients_in s l))) l l' → Ready s (2 ^ 60) l'
values_ready r c h = held_ready r (values_small r c) h

-- and numbers behind both annexes
pub numbered_ready : {s : Shape} {cpih : ℕ} {l l' : List ℤ} → Ready s (2 ^ 40) l → Colours s cpih → Holding s (held (numbers_of s cpih (numbers_in s l))) l l' → Ready s (2 ^ 60) l'
numbered_ready r c h = held_ready r (numbers_small r c) h

-- what the three parts of `show` leave
module _ {h : Header} {tops a a' d : List ℕ} {b : Bytes} {w w' : List ℤ} {r : Page} where
  pub shows : Built (shape_of h) → Holding (shape_of h) (coloured h.picture.cpih (transformed (shape_of h) (coefficients_in (shape_of h) w))) w w'
      → a' ≡ planes (shape_of h) (sampled h.picture.bw (depth_of h) (values_in (shape_of h) w')) h.picture.nc
      → d ≡ distances_of (shape_of h) h.picture.fq h.picture.cpih h.picture.bw (depth_of h) tops
      → r ≡ page_read h d b
      → Shows Fine h tops b a w r a' w'
  unfolding handed samples_from distances_from sampled
  shows built held made distant page =
      record {
        page = page ∙ (λ i. page_read h (distant i) b);
        samples = made ∙ planes_held built held h.picture.bw (depth_of h);
        same = held.same;
        other = held.other;
      }

-- and where the slices are refused
pub shows_none : {v : Verdict} {k : Check} {h : Header} {tops a : List ℕ} {b : Bytes} {w : List ℤ} {r : Page} → v ≡ Refused k → r ≡ page_refused v → Shows v h tops b a w r a w
shows_none e page = rw e (record { page = rw e at page; samples = refl; same = refl; other = λ n far. refl })
