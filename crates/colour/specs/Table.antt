-- F.2, Table F.1, at a pixel, for values of any kind: Cpih is 1 for the reversible transform of F.3, on components 0 to 2, and 0 for none.
use Rattle.std.specs.Prelude.{Bool, cond, ℕ, zero, suc, eqb}
use Rattle.colour.specs.Rct.{numbers_rct, marks_rct}
use Rattle.colour.specs.declared.Pixel.{Pixel}

-- component i of red, green and blue; a fourth component takes no part
abbrev pub part_of : {A : Type 0} → A → A → A → A → ℕ → A
part_of red green blue rest zero = red
part_of red green blue rest (suc zero) = green
part_of red green blue rest (suc (suc zero)) = blue
part_of red green blue rest (suc (suc (suc i))) = rest

-- component i behind Annex F: of the v before it, and of what F.3 makes of components 0 to 2
abbrev pub table_F1 : {A : Type 0} → ℕ → A → A → A → (ℕ → A) → ℕ → A
table_F1 Cpih red green blue v i = cond (eqb Cpih 1) (part_of red green blue (v i) i) (v i)

-- document 01, distance rule 3: with the reversible transform, the numbers of components 0, 1 and 2
unfoldable pub coloured_number : ℕ → (ℕ → ℕ) → ℕ → ℕ
coloured_number Cpih e =
    let r : Pixel ℕ = numbers_rct (record { c0 = e 0; c1 = e 1; c2 = e 2 }) in
    table_F1 Cpih r.c0 r.c1 r.c2 e

-- the marks by the form of Annex F
unfoldable pub coloured_mark : ℕ → (ℕ → Bool) → ℕ → Bool
coloured_mark Cpih m =
    let r : Pixel Bool = marks_rct (record { c0 = m 0; c1 = m 1; c2 = m 2 }) in
    table_F1 Cpih r.c0 r.c1 r.c2 m
