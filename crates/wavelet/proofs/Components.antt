-- A whole component: its samples depend on its own coefficients alone, and document 01's distance rule holds of them, place by place and with one
-- number for each band. Assumes nothing.
use mathlib.Core.Path.{◌≡◌, ap}
use Prim.Native.Nat.{ℕ, ◌+◌, ◌*◌, ◌-◌, ◌^◌, ◌≤◌, ◌<◌}
use native.Mathlib.Nat.{le_trans, le_refl, add-mul, mul_assoc}
use native.Mathlib.Omega.{arith}
use lib.IntN.{ℤ, nat_abs}
use Rattle.whole.specs.Numbers.{Within}
use Rattle.whole.proofs.Within.{within_le}
use Rattle.wavelet.specs.Filter.{Steps, samples}
use Rattle.wavelet.specs.Transform.{Kind, LL, HL, LH, HH, Band, inverse}
use Rattle.wavelet.specs.Bands.{τx, τy, Has, columns, rows, Coefficient, Decomposed}
use Rattle.wavelet.specs.Places.{place, bands, Component}
use Rattle.wavelet.specs.Distance.{numbers, joined, component_number}
use Rattle.wavelet.proofs.Related.{equal, hor_at, ver_at, hor_keeps, ver_keeps}
use Rattle.wavelet.proofs.Halves.{low_all, low_inside, high_inside}
use Rattle.wavelet.proofs.Within.{distances, sizes, joining}
use Rattle.wavelet.proofs.Transforms.{Climbs, table_keeps, inverse_keeps}

-- ---- place by place

module _ {W H Nx Ny : ℕ} (parts : Decomposed W H Nx Ny) where
  -- equal coefficients make equal samples
  pub inverse_same : {A : Type 0} (S : Steps A) (T T' : Kind → ℕ → ℕ → Band A)
      → ((k : Kind) (dx dy x y : ℕ) → Coefficient W H Nx Ny k dx dy x y → T k dx dy x y ≡ T' k dx dy x y)
      → (x y : ℕ) → x < W → y < H → inverse S W H Nx Ny T x y ≡ inverse S W H Nx Ny T' x y
  inverse_same S T T' = inverse_keeps (equal S) parts T T' T'

  -- coefficients that differ by at most their numbers make samples that differ by at most theirs
  pub inverse_within : (T T' : Kind → ℕ → ℕ → Band ℤ) (N : Kind → ℕ → ℕ → Band ℕ)
      → ((k : Kind) (dx dy x y : ℕ) → Coefficient W H Nx Ny k dx dy x y → Within (N k dx dy x y) (T k dx dy x y) (T' k dx dy x y))
      → (x y : ℕ) → x < W → y < H → Within (inverse numbers W H Nx Ny N x y) (inverse samples W H Nx Ny T x y) (inverse samples W H Nx Ny T' x y)
  inverse_within = inverse_keeps distances parts

  -- coefficients of at most their numbers in size make samples of at most theirs
  pub inverse_size : (T : Kind → ℕ → ℕ → Band ℤ) (N : Kind → ℕ → ℕ → Band ℕ)
      → ((k : Kind) (dx dy x y : ℕ) → Coefficient W H Nx Ny k dx dy x y → nat_abs (T k dx dy x y) ≤ N k dx dy x y)
      → (x y : ℕ) → x < W → y < H → nat_abs (inverse samples W H Nx Ny T x y) ≤ inverse numbers W H Nx Ny N x y
  inverse_size T N = inverse_keeps sizes parts T N N

  -- ---- one number for each band

  abbrev All_most : Kind → ℕ → ℕ → Band ℕ → ℕ → ℕ → Type 0
  All_most k dx dy a n _ = (x y : ℕ) → x < columns W k dx → y < rows H k dy → a x y ≤ n

  climbs : Climbs Nx Ny All_most (hor_at numbers W) (ver_at numbers H) (λ _. joined) (λ _. joined) (λ _. joined) (λ _. joined)
  climbs =
      record {
        low = λ d _ has {a} {h} {a'} {h'} p q x y c r.
            hor_keeps (joining a' h') W d has.0 (parts.two_across (d - 1) (omega arith)) a h a h a h y (λ i l. p i y l r) (λ i l. q i y l r) x c;
        high = λ d has {a} {h} {a'} {h'} p q x y c r.
            hor_keeps (joining a' h') W d has.0 (parts.two_across (d - 1) (omega arith)) a h a h a h y (λ i l. p i y l r) (λ i l. q i y l r) x c;
        join = λ d has {a} {h} {a'} {h'} p q x y c r.
            ver_keeps (joining a' h') H d has.0 (parts.two_down (d - 1) (omega arith)) a h a h a h x (λ i l. p x i c l) (λ i l. q x i c l) y r;
      }

  -- no sample's number is above the component's
  pub inverse_joined : (N : Kind → ℕ → ℕ → Band ℕ) (M : Kind → ℕ → ℕ → ℕ)
      → ((k : Kind) (dx dy x y : ℕ) → Coefficient W H Nx Ny k dx dy x y → N k dx dy x y ≤ M k dx dy)
      → (x y : ℕ) → x < W → y < H → inverse numbers W H Nx Ny N x y ≤ component_number Nx Ny M
  unfolding inverse component_number
  inverse_joined N M given x y c r =
      table_keeps climbs N M M (λ k dx dy has x y c r. given k dx dy x y (record { has = has; column = c; row = r })) parts.no_more x y
      (rw low_all c) (rw low_all r)

  -- rules 1 and 2: coefficients that differ by at most their band's number make samples that differ by at most the component's
  module _ (M : Kind → ℕ → ℕ → ℕ) where
    own : (x y : ℕ) → x < W → y < H → inverse numbers W H Nx Ny (λ k dx dy _ _. M k dx dy) x y ≤ component_number Nx Ny M
    own = inverse_joined (λ k dx dy _ _. M k dx dy) M (λ k dx dy x y _. le_refl (M k dx dy))

    pub component_within : (T T' : Kind → ℕ → ℕ → Band ℤ)
        → ((k : Kind) (dx dy x y : ℕ) → Coefficient W H Nx Ny k dx dy x y → Within (M k dx dy) (T k dx dy x y) (T' k dx dy x y))
        → (x y : ℕ) → x < W → y < H → Within (component_number Nx Ny M) (inverse samples W H Nx Ny T x y) (inverse samples W H Nx Ny T' x y)
    component_within T T' given x y c r = within_le (inverse_within T T' (λ k dx dy _ _. M k dx dy) given x y c r) (own x y c r)

    pub component_size : (T : Kind → ℕ → ℕ → Band ℤ)
        → ((k : Kind) (dx dy x y : ℕ) → Coefficient W H Nx Ny k dx dy x y → nat_abs (T k dx dy x y) ≤ M k dx dy)
        → (x y : ℕ) → x < W → y < H → nat_abs (inverse samples W H Nx Ny T x y) ≤ component_number Nx Ny M
    component_size T given x y c r = le_trans (inverse_size T (λ k dx dy _ _. M k dx dy) given x y c r) (own x y c r)

-- ---- how the component's number grows

module _ (Nx Ny : ℕ) (no_more : Ny ≤ Nx) where
  -- with the numbers of the bands
  pub component_grows : (M M' : Kind → ℕ → ℕ → ℕ) → ((k : Kind) (dx dy : ℕ) → Has Nx Ny k dx dy → M k dx dy ≤ M' k dx dy)
      → component_number Nx Ny M ≤ component_number Nx Ny M'
  unfolding component_number
  component_grows M M' given = table_keeps grows M M' M' given no_more
    where
      grows : Climbs Nx Ny (λ _ _ _ m n _. m ≤ n) (λ _. joined) (λ _. joined) (λ _. joined) (λ _. joined) (λ _. joined) (λ _. joined)
      grows = record { low = λ _ _ _ p q. omega arith; high = λ _ _ p q. omega arith; join = λ _ _ p q. omega arith }

  -- bands of at most B: the low part grows by at most 2 B with each filter across; with each filter down, whose high part is at most 3 B, by at most 5 B
  module _ (M : Kind → ℕ → ℕ → ℕ) (B : ℕ) (given : (k : Kind) (dx dy : ℕ) → Has Nx Ny k dx dy → M k dx dy ≤ B) where
    abbrev Most : Kind → ℕ → ℕ → ℕ → ℕ → ℕ → Type 0
    Most LL dx dy n _ _ = n + 2 * (dx * B) + 5 * (dy * B) ≤ B + 2 * (Nx * B) + 5 * (Ny * B)
    Most HL dx dy n _ _ = n ≤ B
    Most LH dx dy n _ _ = n + 2 * (dx * B) ≤ B + 2 * (dy * B)
    Most HH dx dy n _ _ = n ≤ B

    less : (d : ℕ) → 0 < d → d * B ≡ (d - 1) * B + B
    less d h =
        let e : d ≡ d - 1 + 1 = omega arith in
        omega (arith, ap (λ (n : ℕ). n * B) e, add-mul (d - 1) 1 B)

    most : Climbs Nx Ny Most (λ _. joined) (λ _. joined) (λ _. joined) (λ _. joined) (λ _. joined) (λ _. joined)
    most =
        record {
          low = λ d _ has p q. omega (arith, less d has.0);
          high = λ d has p q. omega (arith, less d has.0);
          join = λ d has p q. omega (arith, less d has.0);
        }

    at_bands : (k : Kind) (dx dy : ℕ) → Has Nx Ny k dx dy → Most k dx dy (M k dx dy) (M k dx dy) (M k dx dy)
    at_bands LL dx dy has = omega (arith, given LL dx dy has, ap (λ (n : ℕ). n * B) has.0, ap (λ (n : ℕ). n * B) has.1)
    at_bands HL dx dy has = given HL dx dy has
    at_bands LH dx dy has = omega (arith, given LH dx dy has, ap (λ (n : ℕ). n * B) has.2)
    at_bands HH dx dy has = given HH dx dy has

    pub component_most : component_number Nx Ny M ≤ (1 + 2 * Nx + 5 * Ny) * B
    unfolding component_number
    component_most =
        omega (arith, table_keeps most M M M at_bands no_more, add-mul (1 + 2 * Nx) (5 * Ny) B, add-mul 1 (2 * Nx) B, mul_assoc 2 Nx B, mul_assoc 5 Ny B)

  -- exact bands make an exact component
  pub component_exact : (M : Kind → ℕ → ℕ → ℕ) → ((k : Kind) (dx dy : ℕ) → Has Nx Ny k dx dy → M k dx dy ≡ 0) → component_number Nx Ny M ≡ 0
  component_exact M given = omega (arith, component_most M 0 (λ k dx dy has. omega (arith, given k dx dy has)))

-- coefficients of at most B in size: what a cell must hold
pub inverse_most : {W H Nx Ny : ℕ} (parts : Decomposed W H Nx Ny) (T : Kind → ℕ → ℕ → Band ℤ) (B : ℕ)
    → ((k : Kind) (dx dy x y : ℕ) → Coefficient W H Nx Ny k dx dy x y → nat_abs (T k dx dy x y) ≤ B)
    → (x y : ℕ) → x < W → y < H → nat_abs (inverse samples W H Nx Ny T x y) ≤ (1 + 2 * Nx + 5 * Ny) * B
inverse_most {Nx = Nx} {Ny = Ny} parts T B given x y c r =
    le_trans (component_size parts (λ _ _ _. B) T given x y c r) (component_most Nx Ny parts.no_more (λ _ _ _. B) B (λ _ _ _ _. le_refl B))

-- ---- a component's coefficients in its cells

-- each coefficient has its place in it
pub placed : {W H Nx Ny : ℕ} {k : Kind} {dx dy x y : ℕ} → Coefficient W H Nx Ny k dx dy x y → (place (τx k) dx x < W) × (place (τy k) dy y < H)
placed {W} {H} {Nx} {Ny} {k} {dx} {dy} {x} {y} c = at k c.has c.column c.row
  where
    at : (k : Kind) → Has Nx Ny k dx dy → x < columns W k dx → y < rows H k dy → (place (τx k) dx x < W) × (place (τy k) dy y < H)
    at LL has c r = (low_inside W dx x c, low_inside H dy y r)
    at HL has c r = (high_inside W dx x has.0 c, low_inside H dy y r)
    at LH has c r = (low_inside W dx x c, high_inside H dy y (omega arith) r)
    at HH has c r = (high_inside W dx x has.0 c, high_inside H dy y (omega arith) r)

-- with the levels of the built range: cells of at most 2 ^ 40 in size become samples below 2 ^ 45
pub inverse_small : {w h nx ny len : ℕ} → Component w h nx ny len → (P : Band ℤ) → ((c r : ℕ) → c < w → r < h → nat_abs (P c r) ≤ 2 ^ 40)
    → (x y : ℕ) → x < w → y < h → nat_abs (inverse samples w h nx ny (bands P) x y) < 2 ^ 45
inverse_small {nx = nx} {ny = ny} c P most x y l m =
    omega (arith, c.levels, c.fewer, inverse_most c.parts (bands P) (2 ^ 40) (λ k dx dy x y i. most _ _ (placed i).0 (placed i).1) x y l m)
