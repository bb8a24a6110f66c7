-- Worked examples of the definitions.
use Rattle.std.specs.Prelude.{Ok, Err}
use Prim.Native.Nat.{ℕ}
use mathlib.Core.Path.{◌≡◌, refl}
use mathlib.Core.Bool.{false}
use mathlib.Core.List.{List, [], ◌∷◌, map}
use lib.IntN.{pos, negsuc}
use Rattle.loops.specs.Run.{run}
use Rattle.bits.specs.Fields.{bit_at, field}
use Rattle.counts.specs.Codes.{ones, vlc}
use Rattle.counts.specs.Groups.{counted, coded}
use Rattle.bits.specs.Groups.{nibbles_of, packed}
use Rattle.counts.specs.Lines.{unpack, turn, line_counts, Line, Left}
use Rattle.counts.specs.declared.group.Coding.{Coding}
use Rattle.counts.specs.declared.group.Mode.{Mode}
use Rattle.counts.specs.declared.group.Mode.TheVariants.{Raw, NoPrediction, Vertical}
use Rattle.counts.specs.declared.Place.{Place}
use Rattle.counts.specs.declared.group.Fault.TheVariants.{Cut, High, Long}

-- Table C.17 with r = 5 and t = 2: signed up to 2θ = 6 1-bits, unary behind
quantities : map (vlc 5 2) (0 ∷ 1 ∷ 2 ∷ 3 ∷ 4 ∷ 5 ∷ 6 ∷ 7 ∷ 8 ∷ [])
    ≡ pos 0 ∷ negsuc 0 ∷ pos 1 ∷ negsuc 1 ∷ pos 2 ∷ negsuc 2 ∷ pos 3 ∷ pos 4 ∷ pos 5 ∷ []
unfolding vlc
quantities = refl

-- T = 2, and a line of one group below one with M = 6 and T = 3
place : Place
place = record { first = 1; stride = 1; width = 3; area = 0; up = 1 }

coding : Mode → ℕ → Coding
coding mode br = record { mode = mode; flags = false; run = false; fs = false; t = 2; br = br }

abbrev done : ℕ → ℕ → Line
done next need = Ok (record { next = next; need = need })

one : Mode → ℕ → List ℕ → Left
unfolding line_counts coding place
one mode br s = line_counts s [] (coding mode br) place 0 0 (packed 6 3 ∷ pos 0 ∷ [])

-- the code 1110: 3 more than T without prediction, 2 less than the count above with it; u(4) is 14
three_ways : map (λ (mode : Mode). one mode 4 (0xe0 ∷ [])) (NoPrediction ∷ Vertical ∷ Raw ∷ [])
    ≡ (done 4 4, packed 6 3 ∷ packed 5 2 ∷ []) ∷ (done 4 3, packed 6 3 ∷ packed 4 2 ∷ []) ∷ (done 4 13, packed 6 3 ∷ packed 14 2 ∷ []) ∷ []
unfolding one line_counts run turn unpack coded counted vlc ones bit_at field nibbles_of coding place
three_ways = refl

-- 32 1-bits and the end: too many where Br = 4, cut where Br = 5
too_many : map (λ (br : ℕ). (one NoPrediction br (0xff ∷ 0xff ∷ 0xff ∷ 0xff ∷ [])).0) (4 ∷ 5 ∷ []) ≡ Err (Long 32) ∷ Err Cut ∷ []
unfolding one line_counts run turn unpack coded counted vlc ones bit_at field nibbles_of coding place
too_many = refl

-- 30 1-bits above T = 2: a count of 32
too_high : (one NoPrediction 5 (0xff ∷ 0xff ∷ 0xff ∷ 0xfc ∷ [])).0 ≡ Err (High 32)
unfolding one line_counts run turn unpack coded counted vlc ones bit_at field nibbles_of coding place
too_high = refl
