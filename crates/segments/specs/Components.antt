-- A.4.5: the component table. p is its marker's place, c counts the components.
use Rattle.std.specs.Prelude.{ℕ, zero, suc, ◌+◌, ◌*◌, ◌%◌, ◌^◌, ◌<◌, max, ◌||◌, ◌&&◌, cond, List, [], ◌∷◌, ◌++◌, ◌≡◌, eqb, ltb}
use Rattle.whole.specs.Numbers.{ceil_div}
use Rattle.bits.specs.Fields.{field_at}
use Rattle.rows.specs.Rows.{check, ample, each}
use Rattle.rows.specs.declared.Check.{Check}
use Rattle.rows.specs.declared.Field.{Field}
use Rattle.rows.specs.declared.Field.TheVariants.{Cw, B, Sx, Sy, Across, Down}
use Rattle.rows.specs.declared.Row.TheVariants.{Value, Lacking}
use Rattle.picture.specs.Picture.{bits_at}
use Rattle.picture.specs.declared.picture.Picture.{Picture}
use Rattle.layout.specs.Bands.{samples_of, levels_of}
use Rattle.segments.specs.declared.components.Component.{Component}

-- Table A.15: component c has two bytes, B[c] and then sx[c] and sy[c], which share one
abbrev pub depth_place : ℕ → ℕ → ℕ
depth_place p c = p + 4 + 2 * c

abbrev pub sampling_place : ℕ → ℕ → ℕ
sampling_place p c = p + 5 + 2 * c

-- B[c], u(8)
abbrev pub depth_at : List ℕ → ℕ → ℕ → ℕ
depth_at s p c = field_at s (depth_place p c) 8

-- sx[c], u(4)
abbrev pub sx_at : List ℕ → ℕ → ℕ → ℕ
sx_at s p c = field_at s (sampling_place p c) 4

-- sy[c], u(4)
abbrev pub sy_at : List ℕ → ℕ → ℕ → ℕ
sy_at s p c = bits_at s (sampling_place p c) 4 4

abbrev pub component_at : List ℕ → ℕ → ℕ → Component
component_at s p c = record { depth = depth_at s p c; sx = sx_at s p c; sy = sy_at s p c }

-- what its reader answers: the bounds follow, and stand beside it for the callers' sums
pub record IsComponent (s : List ℕ) (p c : ℕ) (k : Component) : Type 0 where
  pub value : k ≡ component_at s p c
  pub sx : k.sx < 16
  pub sy : k.sy < 16

-- max sx[i], over the first n components
unfoldable pub widest : List ℕ → ℕ → ℕ → ℕ
widest s p zero = 0
widest s p (suc n) = max (widest s p n) (sx_at s p n)

-- document 01: 'any line or column that a filter joins: at least 2 samples', else 4. Of n samples the filter behind d others joins ceil(n / 2^d)
abbrev pub level_checks : Field → ℕ → ℕ → ℕ → List Check
level_checks f place n d = check Lacking place f (ceil_div n (2 ^ d)) 2 ample ∷ []

abbrev pub filter_checks : Field → ℕ → ℕ → ℕ → List Check
filter_checks f place n levels = each levels (level_checks f place n)

-- what is checked at component c of the table at p, in the order of Table A.15. sx and sy are two fields: all of sx comes first, its 3s and then its 4,
-- and then all of sy
module _ (s : List ℕ) (h : Picture) (p c : ℕ) where
  -- Table A.15, B[c]: 8 to 16. Table A.8: where Fq is 0, every B[i] is Bw
  abbrev pub depth_checks : List Check
  depth_checks =
      check Value (depth_place p c) B (depth_at s p c) 8 16
      ∷ check Value (depth_place p c) B (depth_at s p c) (cond (eqb h.fq 0) h.bw 8) (cond (eqb h.fq 0) h.bw 16)
      ∷ []

  -- Table A.7, Cw: 'either Cw = 0 or Wf umod (8 × Cw × max sx[i] × 2^NLx) ≥ max sx[i] × 2^NLx'. The rule joins Cw with every sx, and so is checked at the last
  abbrev pub column_check : Check
  column_check =
      check Value (sampling_place p c) Cw (h.wf % (8 * h.cw * widest s p h.nc * 2 ^ h.nlx))
      (cond (eqb (c + 1) h.nc && ltb 0 h.cw) (widest s p h.nc * 2 ^ h.nlx) 0) ample

  -- Table A.15, sx[c]: '1 or 2 for components 1 and 2, 1 for all other components'. F.2: with the reversible colour transform it is 1
  abbrev pub sx_checks : List Check
  sx_checks =
      check Value (sampling_place p c) Sx (sx_at s p c) 1 (cond (eqb c 1 || eqb c 2) 2 1)
      ∷ check Value (sampling_place p c) Sx (sx_at s p c) 1 (cond (eqb h.cpih 1) 1 2)
      ∷ column_check
      ∷ []

  -- then two samples to each filter across
  abbrev pub across_checks : List Check
  across_checks = sx_checks ++ filter_checks Across (sampling_place p c) (samples_of h.wf (sx_at s p c)) h.nlx

  -- Table A.15, sy[c]: 1 to sx[c]. F.2: with the reversible colour transform it is 1. Document 01: fewer levels down than none are answered 3, and
  -- NLy − log2 sy is none or more where sy is at most 2^NLy
  abbrev pub sy_checks : List Check
  sy_checks =
      check Value (sampling_place p c) Sy (sy_at s p c) 1 (sx_at s p c)
      ∷ check Value (sampling_place p c) Sy (sy_at s p c) 1 (cond (eqb h.cpih 1) 1 2)
      ∷ check Value (sampling_place p c) Sy (sy_at s p c) 1 (2 ^ h.nly)
      ∷ []

  -- then two samples to each filter down, of which the component has its own number (B.2)
  abbrev pub down_checks : List Check
  down_checks = sy_checks ++ filter_checks Down (sampling_place p c) (samples_of h.hf (sy_at s p c)) (levels_of h.nly (sy_at s p c))

  abbrev pub component_checks : List Check
  component_checks = depth_checks ++ (across_checks ++ down_checks)

-- all components, in their order
abbrev pub components_checks : List ℕ → Picture → ℕ → List Check
components_checks s h p = each h.nc (component_checks s h p)
