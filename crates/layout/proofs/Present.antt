-- What a present line says: its coefficients exist, they lie where the line says, and no packet is empty. Assumes nothing.
use mathlib.Core.Path.{◌≡◌, refl, ap, ◌∙◌}
use mathlib.Core.Bool.{Bool, true, false, ◌&&◌}
use mathlib.Core.List.Memᴰ
use mathlib.Core.List.{List, [], ◌∷◌, Memᴰ}
use mathlib.Core.Logic.{◌⊎◌, inl, inr}
use Prim.Native.Nat.{ℕ, ◌+◌, ◌*◌, ◌-◌, ◌/◌, ◌%◌, ◌^◌, ◌<◌}
use native.Mathlib.Omega.{arith}
use borrow.Author.Tests.{ltb-true}
use lib.Dec.{eqb, ltb}
use lib.ListN.{length}
use Rattle.layout.specs.declared.Shape.{Shape}
use Rattle.layout.specs.Bands.{sy, Nβ, dx, dy, Hb, exists}
use Rattle.layout.specs.Built.{Built}
use Rattle.layout.specs.Precincts.{Npx, first_x, first_y, Wpb, L0}
use Rattle.layout.specs.Packets.{loop, when, nonempty, packets, included}
use Rattle.layout.specs.Cells.{area, start, cell}
use Rattle.layout.specs.Slots.{slot_type, slot_line, candidates, line, line_at, slot}
use Rattle.layout.proofs.Reaches.{included_is}
use Rattle.layout.proofs.Cover.{column_member}
use Rattle.layout.proofs.Cells.{Exists, cell_inside, later_column}

-- ---- a packet is not empty

pub no_empty : {A : Type 0} (l : List (List A)) → Memᴰ [] (nonempty l) → ⊥
unfolding nonempty
no_empty [] m = Memᴰ.not-nil m
no_empty ([] ∷ l) m = no_empty l m
no_empty {A} ((a ∷ p) ∷ l) m = by (Memᴰ.cases_cons m) (λ n. no_empty l n)
  where
    by : ([] ≡ a ∷ p) ⊎ Memᴰ [] (nonempty l) → (Memᴰ [] (nonempty l) → ⊥) → ⊥
    by (inl e) ih = omega (arith, ap length e)
    by (inr n) ih = ih n

pub packets_full : (s : Shape) (row : ℕ) → Memᴰ [] (packets s row) → ⊥
unfolding packets
packets_full s row = no_empty _

-- ---- the candidates are the lines of `line_at`, whatever the column of precincts

pub slot_lines : (s : Shape) (row column k : ℕ)
    → slot s row k
    ≡ loop 0 (candidates s k) 1 (λ j.
    when (line_at s row column k j).present
    (record { line = slot_line k + L0 s (slot_type s k + j / s.nc) (j % s.nc); band = (line_at s row column k j).band }))
unfolding slot line_at line
slot_lines s row column k = refl

-- ---- a present line

-- three tests that all hold
pub tests_true : (a b c : Bool) → (a && b && c) ≡ true → (a ≡ true) × (b ≡ true) × (c ≡ true)
tests_true true true c e = (refl, refl, e)
tests_true true false c e = absurd (let z : ◌≡◌ {A = ℕ} 0 1 = cc in omega arith)
tests_true false b c e = absurd (let z : ◌≡◌ {A = ℕ} 0 1 = cc in omega arith)

module _ (s : Shape) (built : Built s) (row column β i l : ℕ) (type : β < Nβ s) (h : i < s.nc) (fits : l < 2 ^ (s.nly - dy s β)) (c : column < Npx s)
    (there : included s row β i l ≡ true) where
  -- its coefficients are coefficients of an existing band
  pub line_exists : (n : ℕ) → n < Wpb s column β i → Exists s i β (first_x s column β i + n) (first_y s row β i + l / sy s i)
  line_exists n k =
      let b = tests_true (exists s β i) (eqb (l % sy s i) 0) (ltb (first_y s row β i + l / sy s i) (Hb s β i)) (included_is s β i built h row l fits ∙ there) in
      record {
        type = type;
        there = b.0;
        column = (column_member s built β i type h column (first_x s column β i + n) c (omega arith) (omega arith)).0;
        row = ltb-true (first_y s row β i + l / sy s i) (Hb s β i) b.2;
      }

  -- the n-th lies n strides behind the first, inside the component's coefficient cells
  pub line_inside : (n : ℕ) → n < Wpb s column β i
      → (cell s β i (first_x s column β i) (first_y s row β i + l / sy s i) + n * 2 ^ dx s β ≡ cell s β i (first_x s column β i + n) (first_y s row β i + l / sy s i))
      × (cell s β i (first_x s column β i) (first_y s row β i + l / sy s i) + n * 2 ^ dx s β < start s i + area s i)
  line_inside n k =
      let e = later_column s β i (first_x s column β i) (first_y s row β i + l / sy s i) n in
      (omega (arith, e), omega (arith, e, cell_inside s built i h (line_exists n k)))
