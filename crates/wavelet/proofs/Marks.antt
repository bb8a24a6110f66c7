-- Where no mark stands, nothing that is marked is read; and numbers that are not 0 are marks, behind the transform as before it. Assumes nothing.
use mathlib.Core.Path.{◌≡◌, refl, sym, ap, ◌∙◌}
use mathlib.Core.Bool.{Bool, true, false}
use mathlib.Core.List.{List}
use Prim.Native.Nat.{ℕ, ◌+◌, ◌<◌}
use native.Mathlib.Decide.{ℕ_discrete}
use native.Mathlib.Omega.{arith}
use borrow.Author.Tests.{eq-eqb, ne_eqb}
use lib.IntN.{ℤ, nat_abs}
use Rattle.whole.specs.Numbers.{ceil_div}
use Rattle.whole.proofs.Linear.{flags_differ}
use Rattle.wavelet.specs.Filter.{Steps}
use Rattle.wavelet.specs.Transform.{Kind, Band, inverse}
use Rattle.wavelet.specs.Bands.{Coefficient, Decomposed}
use Rattle.wavelet.specs.Distance.{numbers}
use Rattle.wavelet.specs.Marks.{touched, marked}
use Rattle.wavelet.specs.Places.{bands}
use Rattle.wavelet.specs.Numbers.{number_at, Numbered}
use Rattle.wavelet.proofs.Related.{Keeps}
use Rattle.wavelet.proofs.Transforms.{inverse_keeps}

-- a step of marks is one where any of its three is one
record Any (g : Bool → Bool → Bool → Bool) : Type 0 where
  none : g false false false ≡ false
  first : (b c : Bool) → g true b c ≡ true
  second : (c : Bool) → g false true c ≡ true
  third : g false false true ≡ true

any_even : Any touched.even
unfolding touched
any_even = record { none = refl; first = λ b c. refl; second = λ c. refl; third = refl }

any_odd : Any touched.odd
unfolding touched
any_odd = record { none = refl; first = λ b c. refl; second = λ c. refl; third = refl }

module _ {g : Bool → Bool → Bool → Bool} (any : Any g) where
  -- ---- values that are the same where no mark is

  neither : (a b c : Bool) → g a b c ≡ false → (a ≡ false) × (b ≡ false) × (c ≡ false)
  neither false false false e = (refl, refl, refl)
  neither false false true e = flags_differ (sym any.third ∙ e)
  neither false true c e = flags_differ (sym (any.second c) ∙ e)
  neither true b c e = flags_differ (sym (any.first b c) ∙ e)

  step_shielded : {A : Type 0} (f : A → A → A → A) {x l r x' l' r' : A} {a b c : Bool} → (a ≡ false → x ≡ x') → (b ≡ false → l ≡ l') → (c ≡ false → r ≡ r')
      → g a b c ≡ false → f x l r ≡ f x' l' r'
  step_shielded f {a = a} {b = b} {c = c} p q s e =
      let n = neither a b c e in
      let p' = p n.0 in
      let q' = q n.1 in
      let s' = s n.2 in
      cc

  -- ---- numbers as marks: a number that is 0 where all three are and nowhere else

  step_raised : (x l r s : ℕ) → (0 < x → 0 < s) → (0 < l → 0 < s) → (0 < r → 0 < s) → (x ≡ 0 → l ≡ 0 → r ≡ 0 → s ≡ 0) → g (marked x) (marked l) (marked r) ≡ marked s
  step_raised x l r s a b c z = pick (ℕ_discrete x 0) (ℕ_discrete l 0) (ℕ_discrete r 0)
    where
      mark_none : (n : ℕ) → n ≡ 0 → marked n ≡ false
      mark_none n e = rw (eq-eqb n 0 e)

      mark_some : (n : ℕ) → 0 < n → marked n ≡ true
      mark_some n h = rw (ne_eqb n 0 (λ e. absurd (omega arith)))

      pick : Dec (x ≡ 0) → Dec (l ≡ 0) → Dec (r ≡ 0) → g (marked x) (marked l) (marked r) ≡ marked s
      pick (yes p) (yes q) (yes u) = rw (mark_none x p, mark_none l q, mark_none r u) (any.none ∙ sym (mark_none s (z p q u)))
      pick (yes p) (yes q) (no u) = rw (mark_none x p, mark_none l q, mark_some r (omega arith)) (any.third ∙ sym (mark_some s (c (omega arith))))
      pick (yes p) (no q) _ = rw (mark_none x p, mark_some l (omega arith)) (any.second (marked r) ∙ sym (mark_some s (b (omega arith))))
      pick (no p) _ _ = rw (mark_some x (omega arith)) (any.first (marked l) (marked r) ∙ sym (mark_some s (a (omega arith))))

shielded : {A : Type 0} (S : Steps A) → Keeps S S touched (λ x y m. m ≡ false → x ≡ y)
shielded S = record { at_even = step_shielded any_even S.even; at_odd = step_shielded any_odd S.odd; of_even = λ p. p }

raised : Keeps numbers touched touched (λ n m _. m ≡ marked n)
unfolding numbers
raised =
    record {
      at_even = λ {x} {l} {r} p q u.
          rw (p, q, u) (step_raised any_even x l r (x + ceil_div (l + r) 4) (λ h. omega arith) (λ h. omega arith) (λ h. omega arith) (λ a b c. omega arith));
      at_odd = λ {x} {l} {r} p q u.
          rw (p, q, u) (step_raised any_odd x l r (x + ceil_div (l + r) 2) (λ h. omega arith) (λ h. omega arith) (λ h. omega arith) (λ a b c. omega arith));
      of_even = λ p. p;
    }

-- ---- of the whole transform

module _ {W H Nx Ny : ℕ} (parts : Decomposed W H Nx Ny) where
  -- the sample in a place without mark is the same from all coefficients that are the same without mark
  pub inverse_shielded : {A : Type 0} (S : Steps A) (T T' : Kind → ℕ → ℕ → Band A) (M : Kind → ℕ → ℕ → Band Bool)
      → ((k : Kind) (dx dy x y : ℕ) → Coefficient W H Nx Ny k dx dy x y → M k dx dy x y ≡ false → T k dx dy x y ≡ T' k dx dy x y)
      → (x y : ℕ) → x < W → y < H → inverse touched W H Nx Ny M x y ≡ false → inverse S W H Nx Ny T x y ≡ inverse S W H Nx Ny T' x y
  inverse_shielded S T T' M = inverse_keeps (shielded S) parts T T' M

  -- the marks behind the transform are the numbers behind it that are not 0, if that is so of the coefficients
  pub inverse_raised : (N : Kind → ℕ → ℕ → Band ℕ) (M : Kind → ℕ → ℕ → Band Bool)
      → ((k : Kind) (dx dy x y : ℕ) → Coefficient W H Nx Ny k dx dy x y → M k dx dy x y ≡ marked (N k dx dy x y))
      → (x y : ℕ) → x < W → y < H → inverse touched W H Nx Ny M x y ≡ marked (inverse numbers W H Nx Ny N x y)
  inverse_raised N M = inverse_keeps raised parts N M M

-- what `inverse` of numbers leaves, read as marks: a place is marked by the form of Annex E where a number that is not 0 stood in a cell that it reads
pub numbered_marks : {w h nx ny : ℕ} {l l' : List ℤ} → Decomposed w h nx ny → Numbered w h nx ny l l'
    → (x y : ℕ) → x < w → y < h → marked (number_at w l' x y) ≡ inverse touched w h nx ny (bands (λ c r. marked (number_at w l c r))) x y
numbered_marks {w} {l = l} parts made x y hx hy =
    ap (λ (z : ℤ). marked (nat_abs z)) (made.made x y hx hy)
    ∙ sym (inverse_raised parts (bands (number_at w l)) (bands (λ c r. marked (number_at w l c r))) (λ k dx dy u v i. refl) x y hx hy)
