-- The laws of F.3 at a pixel: distance, size, and what the machine's words hold. Assumes nothing.
use mathlib.Core.Path.{◌≡◌, refl}
use Prim.Native.Nat.{ℕ, ◌+◌, ◌*◌, ◌^◌, ◌≤◌}
use native.Mathlib.Omega.{arith}
use lib.IntN.{ℤ, pos, nat_abs, ◌+ℤ◌}
use lib.Signed.{shr_z}
use mir.Syntax.{w64}
use mir.Val.{SFits}
use Rattle.whole.specs.Numbers.{ceil_div}
use Rattle.whole.proofs.Within.{within_add, within_sub, within_shr, within_of_size, size_of_within}
use Rattle.whole.proofs.Machine.{small_fits, shr_fits, size_add}
use Rattle.colour.specs.Rct.{inverse_rct, numbers_rct, PixelsWithin, Small}
use Rattle.colour.specs.declared.Pixel.{Pixel}

-- ---- document 01, distance rule 3

-- pixels that differ by at most e come out at most rule 3's numbers apart
pub rct_within : {e : Pixel ℕ} {p q : Pixel ℤ} → PixelsWithin e p q → PixelsWithin (numbers_rct e) (inverse_rct p) (inverse_rct q)
unfolding inverse_rct numbers_rct
rct_within h =
    let green = within_sub h.c0 (within_shr 4 (omega arith) (within_add h.c1 h.c2)) in
    record { c0 = within_add green h.c2; c1 = green; c2 = within_add green h.c1 }

-- the number n for each component
abbrev pub each : ℕ → Pixel ℕ
each n = record { c0 = n; c1 = n; c2 = n }

-- where nothing is lost before the transform, nothing is lost by it
pub numbers_exact : numbers_rct (each 0) ≡ each 0
unfolding numbers_rct
numbers_exact = refl

-- ---- sizes: a size is the distance from the pixel of zeros, which stays that pixel

abbrev zeros : Pixel ℤ
zeros = record { c0 = pos 0; c1 = pos 0; c2 = pos 0 }

rct_zeros : inverse_rct zeros ≡ zeros
unfolding inverse_rct
rct_zeros = refl

pub rct_small : {B : ℕ} {p : Pixel ℤ} → Small B p → Small (B + ceil_div (B + B) 4 + B) (inverse_rct p)
unfolding numbers_rct
rct_small {B} {p} h =
    let far : PixelsWithin (each B) p zeros = record { c0 = within_of_size _ h.c0; c1 = within_of_size _ h.c1; c2 = within_of_size _ h.c2 } in
    let out : PixelsWithin (numbers_rct (each B)) (inverse_rct p) zeros = rw rct_zeros at (rct_within far) in
    let green : nat_abs (inverse_rct p).c1 ≤ B + ceil_div (B + B) 4 = size_of_within out.c1 in
    record { c0 = size_of_within out.c0; c1 = omega arith; c2 = size_of_within out.c2 }

-- ---- the machine: each number on the way fits a signed word of 64 bits
pub record Fitting (i : Pixel ℤ) : Type 0 where
  pub i₀ : SFits w64 i.c0
  pub i₁ : SFits w64 i.c1
  pub i₂ : SFits w64 i.c2
  pub sum : SFits w64 (i.c1 +ℤ i.c2)
  pub quarter : SFits w64 (shr_z (i.c1 +ℤ i.c2) 4)
  pub o₀ : SFits w64 (inverse_rct i).c0
  pub o₁ : SFits w64 (inverse_rct i).c1
  pub o₂ : SFits w64 (inverse_rct i).c2

pub fitting : {i : Pixel ℤ} → Small (2 ^ 60) i → Fitting i
fitting {i} h =
    let sum : SFits w64 (i.c1 +ℤ i.c2) = small_fits _ (omega (arith, size_add i.c1 i.c2)) in
    let o : Small (2 ^ 60 + ceil_div (2 ^ 60 + 2 ^ 60) 4 + 2 ^ 60) (inverse_rct i) = rct_small h in
    record {
      i₀ = small_fits _ (omega arith);
      i₁ = small_fits _ (omega arith);
      i₂ = small_fits _ (omega arith);
      sum = sum;
      quarter = shr_fits 4 sum;
      o₀ = small_fits _ (omega arith);
      o₁ = small_fits _ (omega arith);
      o₂ = small_fits _ (omega arith);
    }

-- ---- numbers

pub numbers_most : {B : ℕ} (e : Pixel ℕ) → (e.c0 ≤ B) × (e.c1 ≤ B) × (e.c2 ≤ B)
    → ((numbers_rct e).c0 ≤ 3 * B) × ((numbers_rct e).c1 ≤ 3 * B) × ((numbers_rct e).c2 ≤ 3 * B)
unfolding numbers_rct
numbers_most e h = (omega arith, omega arith, omega arith)

-- larger numbers become larger ones
pub numbers_grow : (e e' : Pixel ℕ) → (e.c0 ≤ e'.c0) × (e.c1 ≤ e'.c1) × (e.c2 ≤ e'.c2)
    → ((numbers_rct e).c0 ≤ (numbers_rct e').c0) × ((numbers_rct e).c1 ≤ (numbers_rct e').c1) × ((numbers_rct e).c2 ≤ (numbers_rct e').c2)
unfolding numbers_rct
numbers_grow e e' h = (omega arith, omega arith, omega arith)
