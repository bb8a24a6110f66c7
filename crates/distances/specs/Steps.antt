-- Rules 1 to 3 as they are computed: the two loops of Table E.1 over the numbers of a component's bands, and what the functions within ask.
use Rattle.std.specs.Prelude.{List, ℕ, ◌≤◌, ◌<◌, get_or}
use Rattle.wavelet.specs.Transform.{across, both}
use Rattle.wavelet.specs.Distance.{joined}
use Rattle.layout.specs.declared.Shape.{Shape}
use Rattle.layout.specs.Built.{Built}
use Rattle.distances.specs.Rule.{number_of}

-- one turn of the first loop, and of the second
abbrev pub across_turn : Shape → ℕ → List ℕ → ℕ → ℕ → ℕ → ℕ → ℕ
across_turn s Fq tops i = across (λ _. joined) (λ _. joined) (number_of s Fq tops i)

abbrev pub both_turn : Shape → ℕ → List ℕ → ℕ → ℕ → ℕ → ℕ
both_turn s Fq tops i = both (λ _. joined) (λ _. joined) (number_of s Fq tops i)

-- truncation positions of at most 31, for the bands of an accepted header
pub record Numbered (s : Shape) (Fq : ℕ) (tops : List ℕ) : Type 0 where
  pub built : Built s
  pub fq : Fq ≤ 15
  pub few : (b : ℕ) → get_or tops b 0 ≤ 31

-- every number of a list is below B
pub record EachBelow (B : ℕ) (e : List ℕ) : Type 0 where
  pub below : (i : ℕ) → get_or e i 0 < B
