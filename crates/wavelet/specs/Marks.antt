-- Which samples depend on which coefficients, by the form of Table E.6: a mark beside each value, and each step reads the value and its two neighbours.
use Rattle.std.specs.Prelude.{Bool, true, false, cond, ◌||◌, ℕ, eqb}
use Rattle.wavelet.specs.Filter.{Steps}

unfoldable pub touched : Steps Bool
touched = record { even = λ x l r. x || (l || r); odd = λ x l r. x || (l || r) }

-- a number serves as a mark: it is one where it is not 0
abbrev pub marked : ℕ → Bool
marked n = cond (eqb n 0) false true
