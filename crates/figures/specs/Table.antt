-- Document 01, 'Checked figures': the starred cases, each as what the definitions give and what the document says; those of the distance rule also
-- through the whole rule. The rest of that table is run by programs.
use Rattle.std.specs.Prelude.{true, false, List, [], ◌∷◌, ℕ, zero, suc, ◌+◌, ℤ, pos, neg_ℤ, length, get_or}
use Rattle.quantiser.specs.Inverse.{coefficient_of}
use Rattle.quantiser.specs.Forward.{forward}
use Rattle.quantiser.specs.Distance.{band_number}
use Rattle.wavelet.specs.Filter.{filter, samples}
use Rattle.wavelet.specs.Transform.{woven}
use Rattle.wavelet.specs.Distance.{joined}
use Rattle.output.specs.Linear.{scaled_number}
use Rattle.layout.specs.declared.Shape.{Shape}
use Rattle.distances.specs.Rule.{component_number_of, distance_of}
use Rattle.bits.specs.Packet.{widths_for, header_bits}

pub record Figure : Type 0 where
  pub gives : List ℤ
  pub says : List ℤ

-- a whole number, and a natural
abbrev pub whole : ℤ → ℤ → Figure
whole g s = record { gives = g ∷ []; says = s ∷ [] }

abbrev pub number : ℕ → ℕ → Figure
number g s = whole (pos g) (pos s)

abbrev pub minus : ℕ → ℤ
minus n = neg_ℤ (pos n)

-- the coefficient of a signed index, by the deadzone quantiser and by the uniform one
abbrev pub deadzone_figure : ℕ → ℕ → ℤ → ℤ → Figure
deadzone_figure T M i says = whole (coefficient_of false M T i) says

abbrev pub uniform_figure : ℕ → ℕ → ℤ → ℤ → Figure
uniform_figure T M i says = whole (coefficient_of true M T i) says

-- a list read by place, and the first n values of a line
abbrev pub at : List ℤ → ℕ → ℤ
at l i = get_or l i (pos 0)

unfoldable pub line_of : (ℕ → ℤ) → ℕ → ℕ → List ℤ
line_of f i zero = []
line_of f i (suc n) = f i ∷ line_of f (i + 1) n

-- the samples of low-pass and high-pass coefficients
abbrev pub samples_figure : List ℤ → List ℤ → List ℤ → Figure
samples_figure low high says = record { gives = line_of (filter samples (length low + length high) (woven (at low) (at high))) 0 (length low + length high); says = says }

-- the distance rule of a picture with one component and one level, across: two samples, whose bands LL and HL have T 0 and T 3
abbrev pub two_samples : Shape
two_samples = record { wf = 2; hf = 1; cw = 0; hsl = 1; nc = 1; nlx = 1; nly = 0; sx = 1 ∷ 0 ∷ 0 ∷ 0 ∷ []; sy = 1 ∷ 0 ∷ 0 ∷ 0 ∷ [] }

abbrev pub component_figure : ℕ → Figure
component_figure says = number (component_number_of two_samples 0 (0 ∷ 3 ∷ []) 0) says

-- its distance at B 8, with k = Bw − 8
abbrev pub distance_figure : ℕ → ℕ → Figure
distance_figure k says = number (distance_of two_samples 0 0 (8 + k) (λ _. 8) (0 ∷ 3 ∷ []) 0) says

unfoldable pub table : List Figure
table =
    deadzone_figure 0 5 (minus 19) (minus 19)
    ∷ deadzone_figure 3 6 (pos 5) (pos 44)
    ∷ deadzone_figure 3 3 (pos 0) (pos 0)
    ∷ uniform_figure 1 2 (pos 1) (pos 2)
    ∷ uniform_figure 2 3 (pos 1) (pos 5)
    ∷ uniform_figure 3 5 (minus 3) (minus 27)
    ∷ uniform_figure 4 6 (pos 3) (pos 54)
    ∷ number (forward true 5 3 4) 0
    ∷ number (forward true 5 3 5) 1
    ∷ number (forward true 5 3 31) 3
    ∷ samples_figure (pos 10 ∷ pos 12 ∷ []) (pos 3 ∷ minus 1 ∷ []) (pos 8 ∷ pos 12 ∷ pos 11 ∷ pos 10 ∷ [])
    ∷ samples_figure (minus 3 ∷ pos 1 ∷ []) (minus 2 ∷ []) (minus 2 ∷ minus 2 ∷ pos 2 ∷ [])
    ∷ number (band_number 3 0) 7
    ∷ number (band_number 3 8) 1792
    ∷ number (joined 0 7) 11
    ∷ component_figure 11
    ∷ number (scaled_number 0 11) 11
    ∷ number (scaled_number 12 11) 1
    ∷ distance_figure 0 11
    ∷ distance_figure 12 1
    ∷ number (header_bits (widths_for 10917 3 0)) 40
    ∷ number (header_bits (widths_for 8188 4 0)) 56
    ∷ []

-- the two columns
abbrev pub gives : List Figure → List (List ℤ)
gives [] = []
gives (f ∷ fs) = f.gives ∷ gives fs

abbrev pub says : List Figure → List (List ℤ)
says [] = []
says (f ∷ fs) = f.says ∷ says fs
