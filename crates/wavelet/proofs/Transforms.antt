-- Table E.1 keeps every relation between its bands that joining two of them keeps, and so the whole transform keeps every relation that the
-- steps of its filter keep. Assumes nothing.
use mathlib.Core.Path.{◌≡◌, refl}
use Prim.Native.Nat.{ℕ, zero, suc, ◌+◌, ◌-◌, ◌≤◌, ◌<◌, min}
use native.Mathlib.Nat.{add-zero, zero-add}
use native.Mathlib.Omega.{arith}
use Rattle.wavelet.specs.Filter.{Steps}
use Rattle.wavelet.specs.Transform.{Kind, LL, HL, LH, HH, Band, down, across, both, table_E1, inverse}
use Rattle.wavelet.specs.Bands.{Has, columns, rows, Coefficient, Decomposed}
use Rattle.wavelet.proofs.Related.{Keeps, hor_at, ver_at, hor_keeps, ver_keeps}
use Rattle.wavelet.proofs.Halves.{low_all}

-- ---- a loop that counts down

module _ {X Y W : Type 0} (P : ℕ → X → Y → W → Type 0) (turn : ℕ → X → X) (turn' : ℕ → Y → Y) (turn'' : ℕ → W → W) (to : ℕ) where
  pub down_keeps : (n : ℕ) → ((d : ℕ) (s : X) (s' : Y) (s'' : W) → to < d → d ≤ to + n → P d s s' s'' → P (d - 1) (turn d s) (turn' d s') (turn'' d s''))
      → {s : X} {s' : Y} {s'' : W} → P (to + n) s s' s'' → P to (down turn to n s) (down turn' to n s') (down turn'' to n s'')
  unfolding down
  down_keeps zero each p = rw add-zero at p
  down_keeps (suc n) each p =
      let e : to + suc n - 1 ≡ to + n = omega arith in
      down_keeps n (λ d s s' s'' l h. each d s s' s'' l (omega arith)) (rw e at (each (to + suc n) _ _ _ (omega arith) (omega arith) p))

-- ---- Table E.1

module _ {X Y W : Type 0} (Nx Ny : ℕ) (R : Kind → ℕ → ℕ → X → Y → W → Type 0) where
  -- what it asks of `hor` and `ver`: R of two bands gives R of the band that joins them, one level up
  pub record Climbs (hor ver : ℕ → X → X → X) (hor' ver' : ℕ → Y → Y → Y) (hor'' ver'' : ℕ → W → W → W) : Type 0 where
    pub low : (dx dy : ℕ) → Has Nx Ny HL dx dy → {a h : X} {a' h' : Y} {a'' h'' : W} → R LL dx dy a a' a'' → R HL dx dy h h' h''
        → R LL (dx - 1) dy (hor (dx - 1) a h) (hor' (dx - 1) a' h') (hor'' (dx - 1) a'' h'')
    pub high : (d : ℕ) → Has Nx Ny HH d d → {a h : X} {a' h' : Y} {a'' h'' : W} → R LH d d a a' a'' → R HH d d h h' h''
        → R LH (d - 1) d (hor (d - 1) a h) (hor' (d - 1) a' h') (hor'' (d - 1) a'' h'')
    pub join : (d : ℕ) → Has Nx Ny LH d d → {a h : X} {a' h' : Y} {a'' h'' : W} → R LL (d - 1) d a a' a'' → R LH (d - 1) d h h' h''
        → R LL (d - 1) (d - 1) (ver (d - 1) a h) (ver' (d - 1) a' h') (ver'' (d - 1) a'' h'')

module _ {X Y W : Type 0} {Nx Ny : ℕ} {R : Kind → ℕ → ℕ → X → Y → W → Type 0} {hor ver : ℕ → X → X → X}
    {hor' ver' : ℕ → Y → Y → Y} {hor'' ver'' : ℕ → W → W → W} (climbs : Climbs Nx Ny R hor ver hor' ver' hor'' ver'')
    (T : Kind → ℕ → ℕ → X) (T' : Kind → ℕ → ℕ → Y) (T'' : Kind → ℕ → ℕ → W)
    (given : (k : Kind) (dx dy : ℕ) → Has Nx Ny k dx dy → R k dx dy (T k dx dy) (T' k dx dy) (T'' k dx dy)) where
  one_across : (dx : ℕ) → Ny < dx → dx ≤ Nx → {s : X} {s' : Y} {s'' : W} → R LL dx Ny s s' s''
      → R LL (dx - 1) Ny (across hor ver T Ny dx s) (across hor' ver' T' Ny dx s') (across hor'' ver'' T'' Ny dx s'')
  one_across dx l h p = climbs.low dx Ny (omega arith) p (given HL dx Ny (omega arith))

  one_both : (d : ℕ) → 0 < d → d ≤ Ny → Ny ≤ Nx → {s : X} {s' : Y} {s'' : W} → R LL d d s s' s''
      → R LL (d - 1) (d - 1) (both hor ver T d s) (both hor' ver' T' d s') (both hor'' ver'' T'' d s'')
  one_both d l h n p =
      climbs.join d (omega arith) (climbs.low d d (omega arith) p (given HL d d (omega arith)))
      (climbs.high d (omega arith) (given LH d d (omega arith)) (given HH d d (omega arith)))

  pub table_keeps : Ny ≤ Nx → R LL 0 0 (table_E1 hor ver T Nx Ny) (table_E1 hor' ver' T' Nx Ny) (table_E1 hor'' ver'' T'' Nx Ny)
  unfolding table_E1
  table_keeps fewer =
      let e : min Nx Ny ≡ Ny = omega arith in
      let all : Ny + (Nx - Ny) ≡ Nx = omega arith in
      rw e
      (down_keeps (λ d. R LL d d) (both hor ver T) (both hor' ver' T') (both hor'' ver'' T'') 0 Ny (λ d s s' s'' l h. one_both d l (omega arith) fewer)
      (rw zero-add
      (down_keeps (λ d. R LL d Ny) (across hor ver T Ny) (across hor' ver' T' Ny) (across hor'' ver'' T'' Ny) Ny (Nx - Ny)
      (λ d s s' s'' l h. one_across d l (omega arith)) (rw all (given LL Nx Ny (refl, refl))))))

-- ---- the whole transform

module _ {A B C : Type 0} {S : Steps A} {S' : Steps B} {S'' : Steps C} {Q : A → B → C → Type 0} (keeps : Keeps S S' S'' Q)
    {W H Nx Ny : ℕ} (parts : Decomposed W H Nx Ny) where
  abbrev Everywhere : Kind → ℕ → ℕ → Band A → Band B → Band C → Type 0
  Everywhere k dx dy a b c = (x y : ℕ) → x < columns W k dx → y < rows H k dy → Q (a x y) (b x y) (c x y)

  climbs : Climbs Nx Ny Everywhere (hor_at S W) (ver_at S H) (hor_at S' W) (ver_at S' H) (hor_at S'' W) (ver_at S'' H)
  climbs =
      record {
        low = λ d _ has p q x y c r.
            hor_keeps keeps W d has.0 (parts.two_across (d - 1) (omega arith)) _ _ _ _ _ _ y (λ i l. p i y l r) (λ i l. q i y l r) x c;
        high = λ d has p q x y c r.
            hor_keeps keeps W d has.0 (parts.two_across (d - 1) (omega arith)) _ _ _ _ _ _ y (λ i l. p i y l r) (λ i l. q i y l r) x c;
        join = λ d has p q x y c r.
            ver_keeps keeps H d has.0 (parts.two_down (d - 1) (omega arith)) _ _ _ _ _ _ x (λ i l. p x i c l) (λ i l. q x i c l) y r;
      }

  pub inverse_keeps : (T : Kind → ℕ → ℕ → Band A) (T' : Kind → ℕ → ℕ → Band B) (T'' : Kind → ℕ → ℕ → Band C)
      → ((k : Kind) (dx dy x y : ℕ) → Coefficient W H Nx Ny k dx dy x y → Q (T k dx dy x y) (T' k dx dy x y) (T'' k dx dy x y))
      → (x y : ℕ) → x < W → y < H → Q (inverse S W H Nx Ny T x y) (inverse S' W H Nx Ny T' x y) (inverse S'' W H Nx Ny T'' x y)
  unfolding inverse
  inverse_keeps T T' T'' given x y c r =
      table_keeps climbs T T' T'' (λ k dx dy has x y c r. given k dx dy x y (record { has = has; column = c; row = r })) parts.no_more x y
      (rw low_all c) (rw low_all r)
