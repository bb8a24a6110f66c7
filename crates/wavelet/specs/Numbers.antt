-- Distance numbers in a component's cells, each where the sample that it belongs to stands, and what the transform makes of them.
use Rattle.std.specs.Prelude.{◌≡◌, List, ℕ, ◌≤◌, ◌<◌, pos, nat_abs, ℤ, length}
use Rattle.wavelet.specs.Transform.{Band, inverse}
use Rattle.wavelet.specs.Distance.{numbers}
use Rattle.wavelet.specs.Places.{sample_at, bands}

-- the number in column x and row y
abbrev pub number_at : ℕ → List ℤ → Band ℕ
number_at w l x y = nat_abs (sample_at w l x y)

-- every cell holds a number, of at most B
pub record NumbersWithin (w h B : ℕ) (l : List ℤ) : Type 0 where
  pub number : (x y : ℕ) → x < w → y < h → sample_at w l x y ≡ pos (number_at w l x y)
  pub most : (x y : ℕ) → x < w → y < h → number_at w l x y ≤ B

-- every cell at exit is the number that document 01's rule 2 gives its place, from the numbers that stood in the cells at entry
pub record Numbered (w h nx ny : ℕ) (l l' : List ℤ) : Type 0 where
  pub same : length l' ≡ length l
  pub made : (x y : ℕ) → x < w → y < h → sample_at w l' x y ≡ pos (inverse numbers w h nx ny (bands (number_at w l)) x y)
