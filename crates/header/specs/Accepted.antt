-- What holds of an accepted header, for whoever reads on: the law `accepted_header` says so of every stream whose verdict is `Fine`.
use Rattle.std.specs.Prelude.{ℕ, ◌+◌, ◌*◌, ◌%◌, ◌^◌, ◌≤◌, ◌<◌, max, List, [], ◌∷◌, ◌≡◌, length, get_or}
use Rattle.whole.specs.Numbers.{ceil_div}
use Rattle.picture.specs.Picture.{Built}
use Rattle.picture.specs.declared.picture.Picture.{Picture}
use Rattle.layout.specs.Bands.{samples_of, levels_of}
use Rattle.header.specs.Occurrence.{Occurs}
use Rattle.header.specs.declared.header.Header.{Header}

-- the largest of m and some numbers
abbrev pub largest : ℕ → List ℕ → ℕ
largest m [] = m
largest m (x ∷ xs) = largest (max m x) xs

-- a component of B bits, sampled at x across and y down
pub record Sampled (h : Picture) (B x y : ℕ) : Type 0 where
  pub depth : (8 ≤ B) × (B ≤ 16)
  -- Table A.8
  pub exact : h.fq ≡ 0 → B ≡ h.bw
  pub sx : (1 ≤ x) × (x ≤ 2)
  pub sy : (1 ≤ y) × (y ≤ x)
  -- the reversible colour transform has full sampling
  pub colour : h.cpih ≡ 1 → x ≡ 1
  -- B.2: no fewer levels down than none
  pub levels : y ≤ 2 ^ h.nly
  -- two samples to each filter
  pub across : (d : ℕ) → d < h.nlx → 2 ≤ ceil_div (samples_of h.wf x) (2 ^ d)
  pub down : (d : ℕ) → d < levels_of h.nly y → 2 ≤ ceil_div (samples_of h.hf y) (2 ^ d)

pub record Ranges (h : Header) : Type 0 where
  pub built : Built h.picture
  pub each : (c : ℕ) → c < h.picture.nc → Sampled h.picture (get_or h.depth c 0) (get_or h.sx c 0) (get_or h.sy c 0)
  -- Table A.7, Cw
  pub columns : 0 < h.picture.cw → largest 0 h.sx * 2 ^ h.picture.nlx ≤ h.picture.wf % (8 * h.picture.cw * largest 0 h.sx * 2 ^ h.picture.nlx)
  pub gains : (b : ℕ) → get_or h.gains b 0 ≤ 15

-- of a stream that is accepted up to and with its first slice marker
pub record Accepted (s : List ℕ) (h : Header) : Type 0 where
  pub ranges : Ranges h
  pub occurs : Occurs s h
  pub whole : h.picture.lcod ≡ length s
  pub short : length s < 2 ^ 32
  pub slice : h.slice + 2 ≤ length s
