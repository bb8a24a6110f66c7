-- Tables B.1 to B.3 and B.5 to B.9 of the standard, entry by entry, computed from the definitions. Assumes nothing.
use mathlib.Core.Path.{◌≡◌, refl}
use mathlib.Core.List.{List, [], ◌∷◌, map}
use Prim.Native.Nat.{ℕ}
use Rattle.wavelet.specs.Transform.{Kind, LL, HL, LH, HH}
use Rattle.layout.specs.declared.Shape.{Shape}
use Rattle.layout.specs.Bands.{filters, letters_of, across_of, down_of, kind, dx, dy, depth, exists, Wc, Hc, Hb}
use Rattle.layout.specs.Precincts.{lines, L0, L1}
use Rattle.layout.specs.Packets.{turns, nonempty, Part, included, first_packet, packet, packets}

-- ---- filter types: the letters, dx and dy of each β

pub record Type_row : Type 0 where
  pub number : ℕ
  pub letters : Kind
  pub across : ℕ
  pub down : ℕ

abbrev entry : ℕ → Kind → ℕ → ℕ → Type_row
entry β k x y = record { number = β; letters = k; across = x; down = y }

abbrev computed : ℕ → ℕ → ℕ → Type_row
computed NLx NLy β = entry β (letters_of NLx NLy β) (across_of NLx NLy β) (down_of NLx NLy β)

abbrev six : List ℕ
six = 0 ∷ 1 ∷ 2 ∷ 3 ∷ 4 ∷ 5 ∷ []

abbrev eight : List ℕ
eight = 0 ∷ 1 ∷ 2 ∷ 3 ∷ 4 ∷ 5 ∷ 6 ∷ 7 ∷ []

abbrev ten : List ℕ
ten = 0 ∷ 1 ∷ 2 ∷ 3 ∷ 4 ∷ 5 ∷ 6 ∷ 7 ∷ 8 ∷ 9 ∷ []

pub counts : (filters 5 0 ≡ 6) × (filters 5 1 ≡ 8) × (filters 5 2 ≡ 10)
counts = (refl, refl, refl)

pub table_B1 : map (computed 5 0) six ≡ entry 0 LL 5 0 ∷ entry 1 HL 5 0 ∷ entry 2 HL 4 0 ∷ entry 3 HL 3 0 ∷ entry 4 HL 2 0 ∷ entry 5 HL 1 0 ∷ []
table_B1 = refl

pub table_B2 : map (computed 5 1) eight
    ≡ entry 0 LL 5 1 ∷ entry 1 HL 5 1 ∷ entry 2 HL 4 1 ∷ entry 3 HL 3 1 ∷ entry 4 HL 2 1 ∷ entry 5 HL 1 1 ∷ entry 6 LH 1 1 ∷ entry 7 HH 1 1 ∷ []
table_B2 = refl

pub table_B3 : map (computed 5 2) ten
    ≡ entry 0 LL 5 2 ∷ entry 1 HL 5 2 ∷ entry 2 HL 4 2 ∷ entry 3 HL 3 2 ∷ entry 4 HL 2 2 ∷ entry 5 LH 2 2 ∷ entry 6 HH 2 2 ∷ entry 7 HL 1 1
    ∷ entry 8 LH 1 1 ∷ entry 9 HH 1 1 ∷ []
table_B3 = refl

-- ---- packets of a precinct of three components, as in the notes to Table B.4

-- 64 lines of 64 columns, 5 levels across and `nly` down, with the sampling factors of the second and third component
abbrev picture : ℕ → ℕ → ℕ → Shape
picture nly across down =
    record {
      wf = 64;
      hf = 64;
      cw = 0;
      hsl = 16;
      nc = 3;
      nlx = 5;
      nly = nly;
      sx = 1 ∷ across ∷ across ∷ 0 ∷ [];
      sy = 1 ∷ down ∷ down ∷ 0 ∷ [];
    }

-- a packet of the tables: the line number and the included bands
abbrev holds : ℕ → List ℕ → List Part
holds l bands = map (λ (b : ℕ). record { line = l; band = b }) bands

abbrev to_11 : List ℕ
to_11 = 0 ∷ 1 ∷ 2 ∷ 3 ∷ 4 ∷ 5 ∷ 6 ∷ 7 ∷ 8 ∷ 9 ∷ 10 ∷ 11 ∷ []

abbrev to_14 : List ℕ
to_14 = 0 ∷ 1 ∷ 2 ∷ 3 ∷ 4 ∷ 5 ∷ 6 ∷ 7 ∷ 8 ∷ 9 ∷ 10 ∷ 11 ∷ 12 ∷ 13 ∷ 14 ∷ []

abbrev to_17 : List ℕ
to_17 = 0 ∷ 1 ∷ 2 ∷ 3 ∷ 4 ∷ 5 ∷ 6 ∷ 7 ∷ 8 ∷ 9 ∷ 10 ∷ 11 ∷ 12 ∷ 13 ∷ 14 ∷ 15 ∷ 16 ∷ 17 ∷ []

abbrev table_B5 : List (List Part)
table_B5 = holds 0 to_17 ∷ []

abbrev table_B6 : List (List Part)
table_B6 = holds 0 to_14 ∷ holds 0 (15 ∷ 16 ∷ 17 ∷ []) ∷ holds 1 (18 ∷ 19 ∷ 20 ∷ []) ∷ holds 1 (21 ∷ 22 ∷ 23 ∷ []) ∷ []

abbrev table_B7 : List (List Part)
table_B7 =
    holds 0 to_11
    ∷ holds 0 (12 ∷ 13 ∷ 14 ∷ [])
    ∷ holds 1 (15 ∷ 16 ∷ 17 ∷ [])
    ∷ holds 1 (18 ∷ 19 ∷ 20 ∷ [])
    ∷ holds 0 (21 ∷ 22 ∷ 23 ∷ [])
    ∷ holds 2 (24 ∷ 25 ∷ 26 ∷ [])
    ∷ holds 2 (27 ∷ 28 ∷ 29 ∷ [])
    ∷ holds 1 (21 ∷ 22 ∷ 23 ∷ [])
    ∷ holds 3 (24 ∷ 25 ∷ 26 ∷ [])
    ∷ holds 3 (27 ∷ 28 ∷ 29 ∷ [])
    ∷ []

abbrev table_B8 : List (List Part)
table_B8 = holds 0 to_14 ∷ holds 0 (15 ∷ 16 ∷ 17 ∷ []) ∷ holds 1 (18 ∷ []) ∷ holds 1 (21 ∷ []) ∷ []

abbrev table_B9 : List (List Part)
table_B9 =
    holds 0 to_11
    ∷ holds 0 (12 ∷ 13 ∷ 14 ∷ [])
    ∷ holds 1 (15 ∷ [])
    ∷ holds 1 (18 ∷ [])
    ∷ holds 0 (21 ∷ 22 ∷ 23 ∷ [])
    ∷ holds 2 (24 ∷ 25 ∷ 26 ∷ [])
    ∷ holds 2 (27 ∷ 28 ∷ 29 ∷ [])
    ∷ holds 1 (21 ∷ [])
    ∷ holds 3 (24 ∷ [])
    ∷ holds 3 (27 ∷ [])
    ∷ []

-- 4:4:4 and 4:2:2
pub zero_down : (packets (picture 0 1 1) 0 ≡ table_B5) × (packets (picture 0 2 1) 0 ≡ table_B5)
unfolding turns nonempty kind dx dy depth exists Wc Hc Hb lines L0 L1 included first_packet packet packets
zero_down = (refl, refl)

pub one_down : (packets (picture 1 1 1) 0 ≡ table_B6) × (packets (picture 1 2 1) 0 ≡ table_B6)
unfolding turns nonempty kind dx dy depth exists Wc Hc Hb lines L0 L1 included first_packet packet packets
one_down = (refl, refl)

pub two_down : (packets (picture 2 1 1) 0 ≡ table_B7) × (packets (picture 2 2 1) 0 ≡ table_B7)
unfolding turns nonempty kind dx dy depth exists Wc Hc Hb lines L0 L1 included first_packet packet packets
two_down = (refl, refl)

-- 4:2:0
pub one_down_halved : packets (picture 1 2 2) 0 ≡ table_B8
unfolding turns nonempty kind dx dy depth exists Wc Hc Hb lines L0 L1 included first_packet packet packets
one_down_halved = refl

pub two_down_halved : packets (picture 2 2 2) 0 ≡ table_B9
unfolding turns nonempty kind dx dy depth exists Wc Hc Hb lines L0 L1 included first_packet packet packets
two_down_halved = refl
