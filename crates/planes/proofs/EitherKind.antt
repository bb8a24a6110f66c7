-- Samples and numbers on their way through Annexes E to G, kind by kind. Assumes nothing.
use mathlib.Core.Path.{◌≡◌, refl, sym, ap}
use mathlib.Core.Logic.{◌≢◌}
use mathlib.Core.List.{List}
use Prim.Native.Nat.{ℕ, zero, suc, ◌<◌}
use native.Mathlib.Omega.{arith}
use borrow.Author.Tests.{ne_eqb}
use lib.IntN.{ℤ, pos, nat_abs}
use Rattle.whole.specs.declared.Kind.{Kind}
use Rattle.whole.specs.declared.Kind.TheVariants.{Samples, Numbers}
use Rattle.wavelet.specs.Filter.{Steps, samples}
use Rattle.wavelet.specs.Transform.{Band, inverse}
use Rattle.wavelet.specs.Distance.{numbers}
use Rattle.wavelet.specs.Bands.{Decomposed}
use Rattle.wavelet.specs.Places.{bands}
use Rattle.wavelet.proofs.Components.{inverse_same, placed}
use Rattle.colour.specs.Kinds.{raised_rct}
use Rattle.colour.specs.Table.{coloured_number}
use Rattle.colour.proofs.Table.{number_same}
use Rattle.output.specs.Linear.{output_of}
use Rattle.layout.specs.declared.Shape.{Shape}
use Rattle.layout.specs.Bands.{Wc, Hc}
use Rattle.layout.specs.Built.{Built}
use Rattle.planes.specs.Values.{Values, transformed, pixel_at, pixel_part, sampled}
use Rattle.planes.specs.Places.{values_in, Inside, Colours}
use Rattle.planes.specs.Numbers.{coloured_numbers, measured, held, sizes, filtered_of, coloured_of, outputs_of}
use Rattle.planes.proofs.Colouring.{coloured_none, same_place, coloured_same}

-- ---- Annex E

-- coefficients that stand in equal values make equal values
pub inverse_placed : {A : Type 0} (S : Steps A) {W H Nx Ny : ℕ} → Decomposed W H Nx Ny → (P P' : Band A) → ((x y : ℕ) → x < W → y < H → P x y ≡ P' x y)
    → (x y : ℕ) → x < W → y < H → inverse S W H Nx Ny (bands P) x y ≡ inverse S W H Nx Ny (bands P') x y
inverse_placed S parts P P' same =
    inverse_same parts S (bands P) (bands P') (λ k dx dy x y c. same _ _ (placed c).0 (placed c).1)

-- a component's values come of its own cells
pub filtered_placed : {s : Shape} → Built s → (kind : Kind) (i : ℕ) → i < s.nc → (l l' : List ℤ)
    → ((x y : ℕ) → x < Wc s i → y < Hc s i → values_in s l i x y ≡ values_in s l' i x y)
    → (x y : ℕ) → x < Wc s i → y < Hc s i → filtered_of kind s l i x y ≡ filtered_of kind s l' i x y
unfolding transformed
filtered_placed {s} built Samples i h l l' same x y c r =
    inverse_placed samples (built.sampled i h).parts (values_in s l i) (values_in s l' i) same x y c r
filtered_placed {s} built Numbers i h l l' same x y c r =
    ap pos (inverse_placed numbers (built.sampled i h).parts (sizes (values_in s l) i) (sizes (values_in s l') i) (λ x y c r. ap nat_abs (same x y c r)) x y c r)

-- ---- Annex F

-- no transform
pub kept_none : {Cpih : ℕ} → Cpih ≢ 1 → (kind : Kind) (v : Values ℤ) (i x y : ℕ) → (kind ≡ Numbers → v i x y ≡ pos (nat_abs (v i x y)))
    → coloured_of kind Cpih v i x y ≡ v i x y
unfolding coloured_number
kept_none none Samples v i x y number = coloured_none none v i x y
kept_none {Cpih} none Numbers v i x y number = rw (ne_eqb Cpih 1 none) (sym (number refl))

-- the reversible transform, at the pixel's numbers
pub raised_part : {Cpih : ℕ} → Cpih ≡ 1 → (v : Values ℤ) (i x y : ℕ) → v i x y ≡ pos (nat_abs (v i x y))
    → pixel_part (raised_rct (pixel_at v x y)) (v i x y) i ≡ held (coloured_numbers Cpih (sizes v)) i x y
unfolding coloured_number raised_rct
raised_part {Cpih} e v i x y number = rw e (part i number)
  where
    part : (i : ℕ) → v i x y ≡ pos (nat_abs (v i x y)) → pixel_part (raised_rct (pixel_at v x y)) (v i x y) i ≡ held (coloured_numbers 1 (sizes v)) i x y
    part zero _ = refl
    part (suc zero) _ = refl
    part (suc (suc zero)) _ = refl
    part (suc (suc (suc i))) number = number

-- equal values stay equal
pub kept_same : {s : Shape} {Cpih : ℕ} → Built s → Colours s Cpih → (kind : Kind) (v w : Values ℤ) → ((i x y : ℕ) → Inside s i x y → v i x y ≡ w i x y)
    → (i x y : ℕ) → Inside s i x y → coloured_of kind Cpih v i x y ≡ coloured_of kind Cpih w i x y
kept_same built colours Samples v w same i x y p = coloured_same built colours v w same i x y p
kept_same {Cpih = Cpih} built colours Numbers v w same i x y p =
    ap pos (number_same Cpih (λ j. nat_abs (v j x y)) (λ j. nat_abs (w j x y))
    (λ one j h. ap nat_abs (same j x y (same_place built (colours.full one) p j (omega (arith, colours.three one))))) i (ap nat_abs (same i x y p)))

-- ---- Annex G, value by value
pub outputs_are : (kind : Kind) (Bw : ℕ) (B : ℕ → ℕ) (v : Values ℤ) → (λ (i x y : ℕ). output_of kind Bw (B i) (v i x y)) ≡ outputs_of kind Bw B v
unfolding sampled measured
outputs_are Samples Bw B v = refl
outputs_are Numbers Bw B v = refl
