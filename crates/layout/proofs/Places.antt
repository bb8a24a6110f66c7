-- The places of a component's coefficients: no two share a place, and every place is some coefficient's. Assumes nothing.
use mathlib.Core.Path.{◌≡◌, refl, sym, ap, ◌∙◌}
use mathlib.Core.Logic.{◌⊎◌, inl, inr}
use Prim.Native.Nat.{ℕ, zero, suc, ◌+◌, ◌*◌, ◌-◌, ◌/◌, ◌%◌, ◌^◌, ◌≤◌, ◌<◌, min}
use native.Mathlib.Nat.{eq_of_mul-eq-mul_left, mul_comm, mul_assoc, add-mul, pow-suc}
use native.Mathlib.Decide.{dec_lt}
use native.Mathlib.Omega.{arith}
use lib.Pow.{pow_pos, pow-add}
use Rattle.wavelet.specs.Transform.{Kind, LL, HL, LH, HH, low_size, high_size}
use Rattle.wavelet.specs.Bands.{τx, τy, Has, columns, rows, Coefficient}
use Rattle.wavelet.specs.Places.{place}
use Rattle.wavelet.proofs.Halves.{size_above}

-- ---- powers of 2 and odd numbers

-- an odd number times 2^a is no multiple of 2^b for b above a
odd_multiple : (i j a b : ℕ) → (2 * i + 1) * 2 ^ a ≡ j * 2 ^ b → b ≤ a
odd_multiple i j a b e = pick (dec_lt a b)
  where
    clash : (c : ℕ) → b ≡ suc c + a → ⊥
    clash c g =
        let p : 2 ^ b ≡ 2 ^ suc c * 2 ^ a = ap (λ (x : ℕ). 2 ^ x) g ∙ pow-add 2 (suc c) a in
        let q : 2 ^ a * (2 * i + 1) ≡ 2 ^ a * (j * 2 ^ suc c) =
        mul_comm (2 ^ a) (2 * i + 1) ∙ e ∙ ap (λ (x : ℕ). j * x) p ∙ sym (mul_assoc j (2 ^ suc c) (2 ^ a)) ∙ mul_comm (j * 2 ^ suc c) (2 ^ a)
        in
        let r : 2 * i + 1 ≡ j * 2 ^ suc c = eq_of_mul-eq-mul_left (2 ^ a) (pow_pos a) (2 * i + 1) (j * 2 ^ suc c) q in
        let t : j * 2 ^ suc c ≡ j * 2 ^ c * 2 = ap (λ (x : ℕ). j * x) (pow-suc 2 c) ∙ sym (mul_assoc j (2 ^ c) 2) in
        omega (arith, r, t)

    pick : Dec (a < b) → b ≤ a
    pick (yes h) = absurd (clash (b - a - 1) (omega arith))
    pick (no n) = omega arith

high_place : (d i : ℕ) → 0 < d → place 1 d i ≡ (2 * i + 1) * 2 ^ (d - 1)
high_place zero i h = absurd (omega arith)
high_place (suc d) i h =
    let z : suc d - 1 ≡ d = omega arith in
    rw z (omega (arith, ap (λ (x : ℕ). i * x) (pow-suc 2 d) ∙ sym (mul_assoc i (2 ^ d) 2), add-mul (2 * i) 1 (2 ^ d), mul_assoc 2 i (2 ^ d)))

low_place : (d i : ℕ) → place 0 d i ≡ i * 2 ^ d
low_place d i = omega arith

module _ (d d' i i' : ℕ) where
  low_low : d ≡ d' → place 0 d i ≡ place 0 d' i' → i ≡ i'
  low_low e g =
      eq_of_mul-eq-mul_left (2 ^ d) (pow_pos d) i i'
      (mul_comm (2 ^ d) i ∙ sym (low_place d i) ∙ g ∙ low_place d' i' ∙ ap (λ (x : ℕ). i' * 2 ^ x) (sym e) ∙ mul_comm i' (2 ^ d))

  high_low : 0 < d → place 1 d i ≡ place 0 d' i' → d' < d
  high_low h e = omega (arith, odd_multiple i i' (d - 1) d' (sym (high_place d i h) ∙ e ∙ low_place d' i'))

  high_high : 0 < d → 0 < d' → place 1 d i ≡ place 1 d' i' → (d ≡ d') × (i ≡ i')
  high_high h k e =
      let g : (2 * i + 1) * 2 ^ (d - 1) ≡ (2 * i' + 1) * 2 ^ (d' - 1) = sym (high_place d i h) ∙ e ∙ high_place d' i' k in
      let a = odd_multiple i (2 * i' + 1) (d - 1) (d' - 1) g in
      let b = odd_multiple i' (2 * i + 1) (d' - 1) (d - 1) (sym g) in
      let s : d ≡ d' = omega (arith, a, b) in
      let t : 2 * i + 1 ≡ 2 * i' + 1 =
      eq_of_mul-eq-mul_left (2 ^ (d - 1)) (pow_pos (d - 1)) (2 * i + 1) (2 * i' + 1)
      (mul_comm (2 ^ (d - 1)) (2 * i + 1) ∙ g ∙ ap (λ (x : ℕ). (2 * i' + 1) * 2 ^ (x - 1)) (sym s) ∙ mul_comm (2 * i' + 1) (2 ^ (d - 1)))
      in
      (s, omega (arith, t))

-- ---- no two coefficients share a place

-- a coefficient that stands in column c and row r of its component
pub record Stands (W H Nx Ny : ℕ) (k : Kind) (dx dy x y c r : ℕ) : Type 0 where
  pub coefficient : Coefficient W H Nx Ny k dx dy x y
  pub column : place (τx k) dx x ≡ c
  pub row : place (τy k) dy y ≡ r

pub record Same (k k' : Kind) (dx dx' dy dy' x x' y y' : ℕ) : Type 0 where
  pub kinds : k ≡ k'
  pub depth_across : dx ≡ dx'
  pub depth_down : dy ≡ dy'
  pub columns : x ≡ x'
  pub rows : y ≡ y'

module _ (W H Nx Ny dx dx' dy dy' x x' y y' c r : ℕ) where
  abbrev One : Kind → Type 0
  One k = Stands W H Nx Ny k dx dy x y c r

  abbrev Two : Kind → Type 0
  Two k = Stands W H Nx Ny k dx' dy' x' y' c r

  LL_HL : One LL → Two HL → ⊥
  LL_HL p q = omega (arith, p.coefficient.has, q.coefficient.has, high_low dx' dx x' x q.coefficient.has.0 (q.column ∙ sym p.column))

  LL_LH : One LL → Two LH → ⊥
  LL_LH p q =
      let h = p.coefficient.has in
      let g = q.coefficient.has in
      omega (arith, h, g, high_low dy' dy y' y (omega (arith, g)) (q.row ∙ sym p.row))

  LL_HH : One LL → Two HH → ⊥
  LL_HH p q =
      let h = p.coefficient.has in
      let g = q.coefficient.has in
      omega (arith, h, g, high_low dy' dy y' y (omega (arith, g)) (q.row ∙ sym p.row))

  HL_LH : One HL → Two LH → ⊥
  HL_LH p q =
      let h = p.coefficient.has in
      let g = q.coefficient.has in
      omega (arith, h, g, high_low dx dx' x x' h.0 (p.column ∙ sym q.column), high_low dy' dy y' y (omega (arith, g)) (q.row ∙ sym p.row))

  HL_HH : One HL → Two HH → ⊥
  HL_HH p q =
      let h = p.coefficient.has in
      let g = q.coefficient.has in
      omega (arith, h, g, (high_high dx dx' x x' h.0 g.0 (p.column ∙ sym q.column)).0, high_low dy' dy y' y (omega (arith, g)) (q.row ∙ sym p.row))

  LH_HH : One LH → Two HH → ⊥
  LH_HH p q =
      let h = p.coefficient.has in
      let g = q.coefficient.has in
      omega (
        arith,
        h,
        g,
        (high_high dy dy' y y' (omega (arith, h)) (omega (arith, g)) (p.row ∙ sym q.row)).0,
        high_low dx' dx x' x g.0 (q.column ∙ sym p.column),
      )

  same_LL : One LL → Two LL → Same LL LL dx dx' dy dy' x x' y y'
  same_LL p q =
      let a = p.coefficient.has.0 ∙ sym q.coefficient.has.0 in
      let b = p.coefficient.has.1 ∙ sym q.coefficient.has.1 in
      record { kinds = refl; depth_across = a; depth_down = b; columns = low_low dx dx' x x' a (p.column ∙ sym q.column); rows = low_low dy dy' y y' b (p.row ∙ sym q.row) }

  same_HL : One HL → Two HL → Same HL HL dx dx' dy dy' x x' y y'
  same_HL p q =
      let h = p.coefficient.has in
      let g = q.coefficient.has in
      let a = high_high dx dx' x x' h.0 g.0 (p.column ∙ sym q.column) in
      let b = h.2 ∙ ap (λ (d : ℕ). min d Ny) a.0 ∙ sym g.2 in
      record { kinds = refl; depth_across = a.0; depth_down = b; columns = a.1; rows = low_low dy dy' y y' b (p.row ∙ sym q.row) }

  same_LH : One LH → Two LH → Same LH LH dx dx' dy dy' x x' y y'
  same_LH p q =
      let h = p.coefficient.has in
      let g = q.coefficient.has in
      let a = high_high dy dy' y y' (omega (arith, h)) (omega (arith, g)) (p.row ∙ sym q.row) in
      let b = sym h.2 ∙ a.0 ∙ g.2 in
      record { kinds = refl; depth_across = b; depth_down = a.0; columns = low_low dx dx' x x' b (p.column ∙ sym q.column); rows = a.1 }

  same_HH : One HH → Two HH → Same HH HH dx dx' dy dy' x x' y y'
  same_HH p q =
      let h = p.coefficient.has in
      let g = q.coefficient.has in
      let a = high_high dx dx' x x' h.0 g.0 (p.column ∙ sym q.column) in
      let b = high_high dy dy' y y' (omega (arith, h)) (omega (arith, g)) (p.row ∙ sym q.row) in
      record { kinds = refl; depth_across = a.0; depth_down = b.0; columns = a.1; rows = b.1 }

pub places_differ : {W H Nx Ny dx dx' dy dy' x x' y y' c r : ℕ} {k k' : Kind} → Stands W H Nx Ny k dx dy x y c r → Stands W H Nx Ny k' dx' dy' x' y' c r
    → Same k k' dx dx' dy dy' x x' y y'
places_differ {W} {H} {Nx} {Ny} {dx} {dx'} {dy} {dy'} {x} {x'} {y} {y'} {c} {r} {k} {k'} p q = by k k' p q
  where
    by : (k k' : Kind) → Stands W H Nx Ny k dx dy x y c r → Stands W H Nx Ny k' dx' dy' x' y' c r → Same k k' dx dx' dy dy' x x' y y'
    by LL LL p q = same_LL W H Nx Ny dx dx' dy dy' x x' y y' c r p q
    by HL HL p q = same_HL W H Nx Ny dx dx' dy dy' x x' y y' c r p q
    by LH LH p q = same_LH W H Nx Ny dx dx' dy dy' x x' y y' c r p q
    by HH HH p q = same_HH W H Nx Ny dx dx' dy dy' x x' y y' c r p q
    by LL HL p q = absurd (LL_HL W H Nx Ny dx dx' dy dy' x x' y y' c r p q)
    by LL LH p q = absurd (LL_LH W H Nx Ny dx dx' dy dy' x x' y y' c r p q)
    by LL HH p q = absurd (LL_HH W H Nx Ny dx dx' dy dy' x x' y y' c r p q)
    by HL LH p q = absurd (HL_LH W H Nx Ny dx dx' dy dy' x x' y y' c r p q)
    by HL HH p q = absurd (HL_HH W H Nx Ny dx dx' dy dy' x x' y y' c r p q)
    by LH HH p q = absurd (LH_HH W H Nx Ny dx dx' dy dy' x x' y y' c r p q)
    by HL LL p q = absurd (LL_HL W H Nx Ny dx' dx dy' dy x' x y' y c r q p)
    by LH LL p q = absurd (LL_LH W H Nx Ny dx' dx dy' dy x' x y' y c r q p)
    by HH LL p q = absurd (LL_HH W H Nx Ny dx' dx dy' dy x' x y' y c r q p)
    by LH HL p q = absurd (HL_LH W H Nx Ny dx' dx dy' dy x' x y' y c r q p)
    by HH HL p q = absurd (HL_HH W H Nx Ny dx' dx dy' dy x' x y' y c r q p)
    by HH LH p q = absurd (LH_HH W H Nx Ny dx' dx dy' dy x' x y' y c r q p)

-- ---- every place is some coefficient's

-- a place in the component is a place in the band
pub low_above : (n d i : ℕ) → place 0 d i < n → i < low_size n d
low_above n d i h = size_above (pow_pos d) n i (omega (arith, low_place d i))

pub high_above : (n d i : ℕ) → 0 < d → place 1 d i < n → i < high_size n d
high_above n d i up h = omega (arith, size_above (pow_pos (d - 1)) n (2 * i + 1) (omega (arith, high_place d i up)))

pub record Found (W H Nx Ny c r : ℕ) : Type 0 where
  pub kind : Kind
  pub dx : ℕ
  pub dy : ℕ
  pub x : ℕ
  pub y : ℕ
  pub stands : Stands W H Nx Ny kind dx dy x y c r

module _ (W H Nx Ny c r : ℕ) (no_more : Ny ≤ Nx) (in_row : c < W) (in_column : r < H) where
  -- halving, for a column that is a · 2^d
  halve_even : (a d n : ℕ) → a % 2 ≡ 0 → a * 2 ^ d ≡ n → a / 2 * 2 ^ suc d ≡ n
  halve_even a d n z e =
      let h : a ≡ a / 2 * 2 = omega (arith, z) in
      omega (arith, ap (λ (p : ℕ). a / 2 * p) (pow-suc 2 d), mul_assoc (a / 2) (2 ^ d) 2, e, ap (λ (p : ℕ). p * 2 ^ d) h, mul_assoc (a / 2) 2 (2 ^ d), ap (λ (p : ℕ). a / 2 * p) (mul_comm 2 (2 ^ d)))

  halve_odd : (a d n : ℕ) → a % 2 ≡ 1 → a * 2 ^ d ≡ n → place 1 (suc d) (a / 2) ≡ n
  halve_odd a d n z e =
      let h : 2 * (a / 2) + 1 ≡ a = omega (arith, z) in
      let g : suc d - 1 ≡ d = omega arith in
      high_place (suc d) (a / 2) (omega arith) ∙ ap (λ (k : ℕ). (2 * (a / 2) + 1) * 2 ^ k) g ∙ ap (λ (k : ℕ). k * 2 ^ d) h ∙ e

  make : (k : Kind) (dx dy x y : ℕ) → Has Nx Ny k dx dy → place (τx k) dx x ≡ c → place (τy k) dy y ≡ r → Found W H Nx Ny c r
  make k dx dy x y h e f =
      record { kind = k; dx = dx; dy = dy; x = x; y = y; stands = record { coefficient = record { has = h; column = col k h e; row = low k h f }; column = e; row = f } }
    where
      col : (k : Kind) → Has Nx Ny k dx dy → place (τx k) dx x ≡ c → x < columns W k dx
      col LL h e = low_above W dx x (omega (arith, e))
      col HL h e = high_above W dx x h.0 (omega (arith, e))
      col LH h e = low_above W dx x (omega (arith, e))
      col HH h e = high_above W dx x h.0 (omega (arith, e))

      low : (k : Kind) → Has Nx Ny k dx dy → place (τy k) dy y ≡ r → y < rows H k dy
      low LL h f = low_above H dy y (omega (arith, f))
      low HL h f = low_above H dy y (omega (arith, f))
      low LH h f = high_above H dy y (omega (arith, h)) (omega (arith, f))
      low HH h f = high_above H dy y (omega (arith, h)) (omega (arith, f))

  parity : (a : ℕ) → (a % 2 ≡ 0) ⊎ (a % 2 ≡ 1)
  parity a = pick (dec_lt (a % 2) 1)
    where
      pick : Dec (a % 2 < 1) → (a % 2 ≡ 0) ⊎ (a % 2 ≡ 1)
      pick (yes h) = inl (omega arith)
      pick (no n) = inr (omega arith)

  -- the place is at level d: a · 2^d across and b · 2^min(d, Ny) down. Where a and b are even it is so at level d + 1; where one is odd a
  -- coefficient of that level stands there
  seek : (n d a b : ℕ) → d + n ≡ Nx → a * 2 ^ d ≡ c → b * 2 ^ min d Ny ≡ r → Found W H Nx Ny c r
  seek zero d a b e f g =
      let p : Nx ≡ d = omega arith in
      let q : Ny ≡ min d Ny = omega arith in
      make LL Nx Ny a b (refl, refl) (low_place Nx a ∙ ap (λ (z : ℕ). a * 2 ^ z) p ∙ f) (low_place Ny b ∙ ap (λ (z : ℕ). b * 2 ^ z) q ∙ g)
  seek (suc n) d a b e f g =
      by (dec_lt d Ny) (parity a) (parity b) (λ z p. seek n (suc d) (a / 2) (b / 2) (omega arith) (halve_even a d c z f) p)
      (λ z p. seek n (suc d) (a / 2) b (omega arith) (halve_even a d c z f) p)
    where
      by : Dec (d < Ny) → (a % 2 ≡ 0) ⊎ (a % 2 ≡ 1) → (b % 2 ≡ 0) ⊎ (b % 2 ≡ 1) → (a % 2 ≡ 0 → b / 2 * 2 ^ min (suc d) Ny ≡ r → Found W H Nx Ny c r)
          → (a % 2 ≡ 0 → b * 2 ^ min (suc d) Ny ≡ r → Found W H Nx Ny c r) → Found W H Nx Ny c r
      by (yes h) pa pb both one =
          let p : min d Ny ≡ d = omega arith in
          let q : min (suc d) Ny ≡ suc d = omega arith in
          let g' : b * 2 ^ d ≡ r = ap (λ (z : ℕ). b * 2 ^ z) (sym p) ∙ g in
          deep pa pb q g'
        where
          deep : (a % 2 ≡ 0) ⊎ (a % 2 ≡ 1) → (b % 2 ≡ 0) ⊎ (b % 2 ≡ 1) → min (suc d) Ny ≡ suc d → b * 2 ^ d ≡ r → Found W H Nx Ny c r
          deep (inl u) (inl v) q g' = both u (ap (λ (z : ℕ). b / 2 * 2 ^ z) q ∙ halve_even b d r v g')
          deep (inr u) (inl v) q g' = make HL (suc d) (suc d) (a / 2) (b / 2) (omega arith, omega arith, sym q) (halve_odd a d c u f) (low_place (suc d) (b / 2) ∙ halve_even b d r v g')
          deep (inl u) (inr v) q g' = make LH (suc d) (suc d) (a / 2) (b / 2) (omega arith, omega arith, refl) (low_place (suc d) (a / 2) ∙ halve_even a d c u f) (halve_odd b d r v g')
          deep (inr u) (inr v) q g' = make HH (suc d) (suc d) (a / 2) (b / 2) (omega arith, omega arith, refl) (halve_odd a d c u f) (halve_odd b d r v g')
      by (no m) pa pb both one =
          let p : min d Ny ≡ Ny = omega arith in
          let q : min (suc d) Ny ≡ Ny = omega arith in
          across pa q (ap (λ (z : ℕ). b * 2 ^ z) (sym p) ∙ g)
        where
          across : (a % 2 ≡ 0) ⊎ (a % 2 ≡ 1) → min (suc d) Ny ≡ Ny → b * 2 ^ Ny ≡ r → Found W H Nx Ny c r
          across (inl u) q g' = one u (ap (λ (z : ℕ). b * 2 ^ z) q ∙ g')
          across (inr u) q g' = make HL (suc d) Ny (a / 2) b (omega arith, omega arith, sym q) (halve_odd a d c u f) (low_place Ny b ∙ g')

  pub place_found : Found W H Nx Ny c r
  place_found =
      let z : min 0 Ny ≡ 0 = omega arith in
      seek Nx 0 c r (omega arith) (omega arith) (ap (λ (d : ℕ). r * 2 ^ d) z ∙ omega arith)
