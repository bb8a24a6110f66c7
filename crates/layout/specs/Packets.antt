-- B.7: the packets of a precinct.
use Rattle.std.specs.Prelude.{Bool, true, false, ◌&&◌, ◌||◌, List, [], ◌∷◌, ◌++◌, ℕ, zero, suc, ◌+◌, ◌-◌, ◌%◌, ◌^◌, eqb, ltb}
use Rattle.whole.specs.Numbers.{ceil_div}
use Rattle.layout.specs.declared.Shape.{Shape}
use Rattle.layout.specs.Bands.{sy, Nβ, β₁, dy, exists, band}
use Rattle.layout.specs.Precincts.{L0, L1}

-- what `n` turns of a loop add, at x, x + step, ..
unfoldable pub turns : {A : Type 0} → ℕ → ℕ → ℕ → (ℕ → List A) → List A
turns zero x step f = []
turns (suc n) x step f = f x ++ turns n (x + step) step f

-- for (x = from; x < to; x = x + step)
abbrev pub loop : {A : Type 0} → ℕ → ℕ → ℕ → (ℕ → List A) → List A
loop from to step f = turns (ceil_div (to - from) step) from step f

-- one more element where a test holds
abbrev pub when : {A : Type 0} → Bool → A → List A
when true a = a ∷ []
when false a = []

-- the lists that are not empty
unfoldable pub nonempty : {A : Type 0} → List (List A) → List (List A)
nonempty [] = []
nonempty ([] ∷ rest) = nonempty rest
nonempty ((a ∷ more) ∷ rest) = (a ∷ more) ∷ nonempty rest

-- a line of a band that a packet includes, where I[p, line, band, s] is 1
pub record Part : Type 0 where
  pub line : ℕ
  pub band : ℕ

abbrev pub part : Shape → ℕ → ℕ → ℕ → Part
part s β i line = record { line = line; band = band s β i }

-- Table B.4: the three tests on line l (its λ) of a band, counted from the band's first
unfoldable pub included : Shape → ℕ → ℕ → ℕ → ℕ → Bool
included s row β i l = exists s β i && eqb ((l + L0 s β i) % sy s i) 0 && ltb (l + L0 s β i) (L1 s row β i)

-- Table B.4: the first packet, the packet of line l of a filter type, and all of them. A packet is made with its first line, so an empty one is none
unfoldable pub first_packet : Shape → List Part
first_packet s = loop 0 (β₁ s) 1 (λ β. loop 0 s.nc 1 (λ i. when (exists s β i) (part s β i 0)))

unfoldable pub packet : Shape → ℕ → ℕ → ℕ → List Part
packet s row l β = loop 0 s.nc 1 (λ i. when (included s row β i l) (part s β i (l + L0 s β i)))

unfoldable pub packets : Shape → ℕ → List (List Part)
packets s row =
    nonempty (
    first_packet s
    ∷ loop (β₁ s) (Nβ s) 3 (λ β₀.
    loop 0 (2 ^ (s.nly - dy s β₀)) 1 (λ l.
    loop β₀ (β₀ + 3) 1 (λ β. packet s row l β ∷ [])))
    )

-- ---- C.3: packets that share a band

-- I[p,λ,b,s] is 1 for a line λ of band b
unfoldable pub includes : List Part → ℕ → Bool
includes [] b = false
includes (x ∷ more) b = eqb x.band b || includes more b

-- 'there is a band b and line indices λ and λ' such that I[p,λ,b,s] = 1 and I[p,λ',b,s'] = 1'
unfoldable pub share : List Part → List Part → Bool
share [] other = false
share (x ∷ more) other = includes other x.band || share more other
