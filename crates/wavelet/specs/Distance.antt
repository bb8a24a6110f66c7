-- Document 01's distance rule along Annex E: a number beside each value, at least as large as how far the value may be off.
use Rattle.std.specs.Prelude.{ℕ, ◌+◌}
use Rattle.whole.specs.Numbers.{ceil_div}
use Rattle.wavelet.specs.Filter.{Steps}
use Rattle.wavelet.specs.Transform.{Kind, table_E1}

-- place by place: an even place has its low number and ceil((its two highs) / 4), an odd place its high number and ceil((its two evens) / 2)
unfoldable pub numbers : Steps ℕ
numbers = record { even = λ n l r. n + ceil_div (l + r) 4; odd = λ n l r. n + ceil_div (l + r) 2 }

-- rule 2: a filter that joins a low part with number a and a high part with number h
abbrev pub joined : ℕ → ℕ → ℕ
joined a h = a + h + ceil_div h 2

-- the number of a whole component, from one number for each band: directions and levels follow Annex E
unfoldable pub component_number : ℕ → ℕ → (Kind → ℕ → ℕ → ℕ) → ℕ
component_number Nx Ny N = table_E1 (λ _. joined) (λ _. joined) N Nx Ny
