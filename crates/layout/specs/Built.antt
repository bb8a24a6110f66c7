-- What an accepted header says of its shape.
use Rattle.std.specs.Prelude.{◌≡◌, ℕ, ◌*◌, ◌^◌, ◌%◌, ◌≤◌, ◌<◌}
use Rattle.wavelet.specs.Bands.{Decomposed}
use Rattle.layout.specs.declared.Shape.{Shape}
use Rattle.layout.specs.Bands.{sx, sy, Wc, Hc, N'x, N'y, log2}
use Rattle.layout.specs.Precincts.{largest}

-- a component: its sampling factors, a vertical level for each halving of its rows, and two samples or more to each filter
pub record Sampled (s : Shape) (i : ℕ) : Type 0 where
  pub across : 1 ≤ sx s i
  pub across_two : sx s i ≤ 2
  pub down : 1 ≤ sy s i
  pub down_less : sy s i ≤ sx s i
  pub enough : log2 (sy s i) ≤ s.nly
  pub parts : Decomposed (Wc s i) (Hc s i) (N'x s i) (N'y s i)

-- Tables A.7 and A.15 within the built range
pub record Built (s : Shape) : Type 0 where
  pub wide : 1 ≤ s.wf
  pub narrow : s.wf ≤ 16384
  pub high : 1 ≤ s.hf
  pub low : s.hf ≤ 16384
  pub column : s.cw < 2 ^ 16
  pub slice : 1 ≤ s.hsl
  pub short : s.hsl < 2 ^ 16
  pub some : 1 ≤ s.nc
  pub few : s.nc ≤ 4
  pub level : 1 ≤ s.nlx
  pub levels : s.nlx ≤ 5
  pub down_levels : s.nly ≤ 2
  pub no_more : s.nly ≤ s.nlx
  pub sampled : (i : ℕ) → i < s.nc → Sampled s i
  pub absent : (i : ℕ) → s.nc ≤ i → (sx s i ≡ 0) × (sy s i ≡ 0)
  pub last_column : 0 < s.cw → largest (sx s) s.nc * 2 ^ s.nlx ≤ s.wf % (8 * s.cw * largest (sx s) s.nc * 2 ^ s.nlx)
