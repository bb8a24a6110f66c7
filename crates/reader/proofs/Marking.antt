-- From the count cells to the marks: what `mark` rests on. Assumes nothing.
use mathlib.Core.Path.{◌≡◌, refl, ◌∙◌}
use mathlib.Core.Bool.{Bool, true, false, cond}
use mathlib.Core.List.{List, [], ◌∷◌}
use Prim.Native.Nat.{ℕ, ◌+◌, ◌*◌, ◌^◌, ◌≤◌}
use native.Mathlib.Omega.{arith}
use lib.IntN.{ℤ, pos, negsuc}
use lib.ListN.{length}
use Rattle.whole.specs.Cells.{cell}
use Rattle.rows.specs.Rows.{Fine}
use Rattle.layout.specs.declared.Shape.{Shape}
use Rattle.layout.specs.Built.{Built}
use Rattle.layout.specs.Bands.{Wc}
use Rattle.layout.specs.Cells.{area, start}
use Rattle.layout.proofs.Cells.{inside}
use Rattle.header.specs.declared.header.Header.{Header}
use Rattle.damage.specs.Steps.{lost_number, LostNumbers}
use Rattle.planes.specs.Values.{planes}
use Rattle.planes.specs.Places.{values_in, Inside, Colours, Ready, Holding}
use Rattle.planes.specs.Numbers.{numbers_of, held, numbers_in, HoldingNumbers}
use Rattle.planes.specs.Marks.{mark_of, bit, marks_in}
use Rattle.planes.proofs.Stretches.{offset_below}
use Rattle.planes.proofs.Marking.{marks_written}
use Rattle.reader.specs.Steps.{is_lost, lost_in, MarkedIn}
use Rattle.reader.proofs.Shown.{numbered_ready}

lost_bit : (z : ℤ) → lost_number z ≡ pos (bit (is_lost z))
lost_bit (pos n) = refl
lost_bit (negsuc n) = refl

bit_small : (b : Bool) → bit b ≤ 2 ^ 40
bit_small true = omega arith
bit_small false = omega arith

module _ {s : Shape} (built : Built s) {l l₁ : List ℤ} (room : start s s.nc ≤ length l) (lost : LostNumbers s l l₁) where
  number_is : (i x y : ℕ) → Inside s i x y → values_in s l₁ i x y ≡ pos (bit (is_lost (cell l (start s i + area s i + (y * Wc s i + x)))))
  number_is i x y p = lost.number i (y * Wc s i + x) p.component (offset_below s i x y p.column p.row) ∙ lost_bit (cell l (start s i + area s i + (y * Wc s i + x)))

  pub numbers_ready : Ready s (2 ^ 40) l₁
  numbers_ready = record { built = built; room = omega (arith, room, lost.same); small = λ i x y p. rw (number_is i x y p) (bit_small (is_lost (cell l (start s i + area s i + (y * Wc s i + x))))) }

  pub numbers_hold : HoldingNumbers s l₁
  numbers_hold = record { number = λ i x y p. rw (number_is i x y p) refl }

  -- where Annexes E and F have been undone with these numbers
  module _ {Cpih : ℕ} (colours : Colours s Cpih) {l₂ : List ℤ} (made : Holding s (held (numbers_of s Cpih (numbers_in s l₁))) l₁ l₂) where
    pub marks_ready : Ready s (2 ^ 60) l₂
    marks_ready = numbered_ready numbers_ready colours made

    pub marks_made : {m' : List ℕ} → m' ≡ planes s (marks_in s l₂) s.nc → m' ≡ planes s (λ i x y. bit (mark_of s Cpih (lost_in s l) i x y)) s.nc
    marks_made e =
        e
        ∙ marks_written built colours (lost_in s l)
        (λ i h k dx dy x y d. let p = inside d in number_is i _ _ (record { component = h; column = p.0; row = p.1 }))
        made

-- of a plane that is not asked for no cell is lent
no_element : (m : List ℕ) → length m ≡ 0 → m ≡ []
no_element [] e = refl
no_element (x ∷ m) e = absurd (omega (arith, e))

pub none_lent : {asked : Bool} (n : ℕ) (m : List ℕ) → asked ≡ false → length m ≡ cond asked n 0 → m ≡ []
none_lent n m e l = no_element m (l ∙ (λ i. cond (e i) n 0))

-- a plain reading is lent no marks, and leaves none
pub marked_not : {damaged : Bool} {h : Header} (n : ℕ) {w : List ℤ} (m : List ℕ) → damaged ≡ false → length m ≡ cond damaged n 0 → MarkedIn Fine damaged h w w m m
marked_not n m e l =
    let none = none_lent n m e l in
    rw e (record { marks = none; same = refl })
