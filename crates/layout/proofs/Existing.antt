-- The bands of the layout are the bands of the wavelet: an existing filter type of a component is one that the component has, and the other way
-- round. Assumes nothing.
use mathlib.Core.Path.{◌≡◌, refl, sym, ap, ◌∙◌}
use mathlib.Core.Bool.{true}
use Prim.Native.Nat.{ℕ, zero, suc, ◌+◌, ◌*◌, ◌-◌, ◌/◌, ◌%◌, ◌^◌, ◌≤◌, ◌<◌, min}
use native.Mathlib.Nat.{mod-one, zero-mod, mul-zero, mul-one, mod-lt, lt_of_lt_of_le}
use native.Mathlib.Decide.{dec_le, dec_lt}
use native.Mathlib.Omega.{arith}
use borrow.Author.Tests.{eqb-true, eq-eqb}
use Rattle.wavelet.specs.Transform.{Kind, LL, HL, LH, HH}
use Rattle.wavelet.specs.Bands.{τx, τy, Has}
use Rattle.layout.specs.declared.Shape.{Shape}
use Rattle.layout.specs.Bands.{sy, N'y, Nβ, β₁, letters, filter_type, first_types, kind, dx, dy, depth, exists}
use Rattle.layout.specs.Built.{Built}
use Rattle.layout.proofs.Filters.{TypeIs, Way, at_low, at_across, at_both, way, type_low, type_across, type_both, first_is, filters_is, both_parts, formula, across_sum}
use Rattle.layout.proofs.Reaches.{double}

-- the letters and the depths of β in a picture
pub record BandIs (s : Shape) (β : ℕ) (k : Kind) (x y : ℕ) : Type 0 where
  pub letters : kind s β ≡ k
  pub across : dx s β ≡ x
  pub down : dy s β ≡ y

type_band : (s : Shape) (β : ℕ) {k : Kind} {x y : ℕ} → TypeIs s.nlx s.nly β k x y → BandIs s β k x y
unfolding kind dx dy
type_band s β t = record { letters = t.letters; across = t.across; down = t.down }

-- sums and least numbers, apart from what they are used on
deep_min : (a x n : ℕ) → n ≤ a → a < x → min a n ≡ min x n
deep_min a x n h k = omega arith

deep_some : (a x : ℕ) → a < x → 0 < x
deep_some a x h = omega arith

one_less : (n b : ℕ) → (b ≡ 0 → ⊥) → n + 1 - b ≤ n
one_less n b h = omega arith

more_types : (f n x y : ℕ) → f ≡ x + 1 → n ≡ x + 1 + 3 * y → f ≤ n
more_types f n x y e g = omega arith

module _ (s : Shape) (built : Built s) where
  pub first_fewer : β₁ s ≤ Nβ s
  first_fewer = more_types (β₁ s) (Nβ s) (s.nlx - s.nly) s.nly (first_is s.nlx s.nly built.no_more) (filters_is s.nlx s.nly built.no_more)

  own_fewer : (i : ℕ) → N'y s i ≤ s.nly
  own_fewer i = omega arith

  -- what a filter type's depth down is
  pub dy_is : (β : ℕ) → β < Nβ s → dy s β ≡ min (dx s β) s.nly
  dy_is β h = by (way s.nlx s.nly β)
    where
      from : {k : Kind} {x y : ℕ} → BandIs s β k x y → y ≡ min x s.nly → dy s β ≡ min (dx s β) s.nly
      from t e = t.down ∙ e ∙ ap (λ (x : ℕ). min x s.nly) (sym t.across)

      by : Way s.nlx s.nly β → dy s β ≡ min (dx s β) s.nly
      by (at_low z) = from {k = LL} {x = s.nlx} {y = s.nly} (type_band s β (rw z (type_low s.nlx s.nly))) (omega (arith, built.no_more))
      by (at_across n l) =
          from (type_band s β (type_across s.nlx s.nly β n l))
          (omega (arith, (across_sum s.nlx s.nly β (first_types s.nlx s.nly) built.no_more (first_is s.nlx s.nly built.no_more) n l).0))
      by (at_both l) = from (type_band s β (type_both s.nlx s.nly β l)) (small ((β - first_types s.nlx s.nly) / 3))
        where
          small : (q : ℕ) → s.nly - q ≡ min (s.nly - q) s.nly
          small q = omega arith

  -- a filter type that is high-pass across has a level
  pub high_deep : (β : ℕ) → β < Nβ s → τx (kind s β) ≡ 1 → 0 < dx s β
  high_deep β h e = by (way s.nlx s.nly β)
    where
      by : Way s.nlx s.nly β → 0 < dx s β
      by (at_low z) =
          let t : BandIs s β LL s.nlx s.nly = type_band s β (rw z (type_low s.nlx s.nly)) in
          absurd (omega (arith, sym (ap τx t.letters) ∙ e))
      by (at_across n l) =
          let sum = across_sum s.nlx s.nly β (first_types s.nlx s.nly) built.no_more (first_is s.nlx s.nly built.no_more) n l in
          rw (type_band s β (type_across s.nlx s.nly β n l)).across (deep_some s.nly (s.nlx + 1 - β) sum.0)
      by (at_both l) =
          rw (type_band s β (type_both s.nlx s.nly β l)).across
          (left s.nly ((β - first_types s.nlx s.nly) / 3) (both_parts s.nlx s.nly β built.no_more h l).1)
        where
          left : (n q : ℕ) → q < n → 0 < n - q
          left n q k = omega arith

  -- a filter type is known by its letters and its depth across
  pub type_known : (β β' : ℕ) → β < Nβ s → β' < Nβ s → kind s β ≡ kind s β' → dx s β ≡ dx s β' → β ≡ β'
  unfolding kind dx dy
  type_known β β' h h' k x =
      let y : dy s β ≡ dy s β' = dy_is β h ∙ ap (λ (z : ℕ). min z s.nly) x ∙ sym (dy_is β' h') in
      sym (formula s.nlx s.nly β built.no_more h)
      ∙ (λ i. filter_type s.nlx s.nly (τx (k i)) (τy (k i)) (x i) (y i))
      ∙ formula s.nlx s.nly β' built.no_more h'

  module _ (i : ℕ) (c : i < s.nc) where
    -- ---- an existing band is one that the component has

    -- a band that is low-pass down exists
    low_exists : (β : ℕ) → τy (kind s β) ≡ 0 → exists s β i ≡ true
    unfolding exists
    low_exists β e =
        eq-eqb (2 ^ (s.nly - dy s β) * τy (kind s β) % sy s i) 0
        (ap (λ (t : ℕ). 2 ^ (s.nly - dy s β) * t % sy s i) e ∙ ap (λ (t : ℕ). t % sy s i) (mul-zero (2 ^ (s.nly - dy s β))) ∙ zero-mod (sy s i))

    -- one that is high-pass down exists where the component has the level
    high_exists : (β : ℕ) → τy (kind s β) ≡ 1 → dy s β ≤ N'y s i → exists s β i ≡ true
    unfolding exists
    high_exists β e l =
        eq-eqb (2 ^ (s.nly - dy s β) * τy (kind s β) % sy s i) 0
        (ap (λ (t : ℕ). 2 ^ (s.nly - dy s β) * t % sy s i) e ∙ ap (λ (t : ℕ). t % sy s i) (mul-one (2 ^ (s.nly - dy s β))) ∙ by (dec_le (sy s i) 1))
      where
        by : Dec (sy s i ≤ 1) → 2 ^ (s.nly - dy s β) % sy s i ≡ 0
        by (yes m) =
            let one : sy s i ≡ 1 = omega (arith, (built.sampled i c).down) in
            rw one (mod-one (2 ^ (s.nly - dy s β)))
        by (no n) =
            let t : sy s i ≡ 2 = omega (arith, (built.sampled i c).down_less, (built.sampled i c).across_two) in
            let f = rw t at (built.sampled i c).enough in
            let g = rw t at l in
            let u = double (s.nly - dy s β) (omega (arith, f, g)) in
            rw t (omega (arith, u))

    -- and only there
    high_level : (β : ℕ) → τy (kind s β) ≡ 1 → exists s β i ≡ true → dy s β ≤ s.nly → dy s β ≤ N'y s i
    unfolding exists
    high_level β e x l = by (dec_le (sy s i) 1)
      where
        there : 2 ^ (s.nly - dy s β) * τy (kind s β) % sy s i ≡ 0
        there = eqb-true (2 ^ (s.nly - dy s β) * τy (kind s β) % sy s i) 0 x

        last : sy s i ≡ 2 → s.nly - dy s β ≡ 0 → ⊥
        last t z =
            let f : 2 ^ 0 * 1 % 2 ≡ 0 = (λ j. 2 ^ sym z j * sym e j % sym t j) ∙ there in
            omega (arith, f)

        by : Dec (sy s i ≤ 1) → dy s β ≤ N'y s i
        by (yes m) = omega (arith, (built.sampled i c).down)
        by (no n) = half (omega (arith, (built.sampled i c).down_less, (built.sampled i c).across_two)) (dec_lt (dy s β) s.nly)
          where
            half : sy s i ≡ 2 → Dec (dy s β < s.nly) → dy s β ≤ N'y s i
            half t (yes h) = rw t (omega arith)
            half t (no m) = absurd (last t (omega arith))

    as_band : (β : ℕ) {k : Kind} {x y : ℕ} → BandIs s β k x y → Has s.nlx (N'y s i) k x (min y (N'y s i)) → Has s.nlx (N'y s i) (kind s β) (dx s β) (depth s β i)
    unfolding depth
    as_band β t p = rw (t.letters, t.across, t.down) p

    pub band_has : (β : ℕ) → β < Nβ s → exists s β i ≡ true → Has s.nlx (N'y s i) (kind s β) (dx s β) (depth s β i)
    band_has β h x = by (way s.nlx s.nly β)
      where
        both : (q m : ℕ) → q < s.nly → m < 3 → BandIs s β (letters m) (s.nly - q) (s.nly - q) → Has s.nlx (N'y s i) (kind s β) (dx s β) (depth s β i)
        both q zero a b t = as_band β t (omega arith, omega (arith, built.no_more), refl)
        both q (suc zero) a b t =
            let l = high_level β (ap τy t.letters) x (omega (arith, t.down)) in
            as_band β t (omega arith, omega (arith, t.down, l), omega (arith, t.down, l))
        both q (suc (suc zero)) a b t =
            let l = high_level β (ap τy t.letters) x (omega (arith, t.down)) in
            as_band β t (omega arith, omega (arith, t.down, l), omega (arith, t.down, l))
        both q (suc (suc (suc m))) a b t = absurd (omega arith)

        by : Way s.nlx s.nly β → Has s.nlx (N'y s i) (kind s β) (dx s β) (depth s β i)
        by (at_low z) = as_band β {k = LL} {x = s.nlx} {y = s.nly} (type_band s β (rw z (type_low s.nlx s.nly))) (refl, omega arith)
        by (at_across n l) =
            let sum = across_sum s.nlx s.nly β (first_types s.nlx s.nly) built.no_more (first_is s.nlx s.nly built.no_more) n l in
            as_band β (type_band s β (type_across s.nlx s.nly β n l))
            (deep_some s.nly (s.nlx + 1 - β) sum.0, one_less s.nlx β n, deep_min s.nly (s.nlx + 1 - β) (N'y s i) (own_fewer i) sum.0)
        by (at_both l) =
            both ((β - first_types s.nlx s.nly) / 3) ((β - first_types s.nlx s.nly) % 3) (both_parts s.nlx s.nly β built.no_more h l).1
            (mod-lt (β - first_types s.nlx s.nly) (omega arith)) (type_band s β (type_both s.nlx s.nly β l))

    -- ---- and every band that the component has is one of these

    pub record BandOf (k : Kind) (x y : ℕ) : Type 0 where
      pub β : ℕ
      pub below : β < Nβ s
      pub there : exists s β i ≡ true
      pub letters : kind s β ≡ k
      pub across : dx s β ≡ x
      pub down : depth s β i ≡ y

    -- the m-th filter type of level NLy − q
    both_type : (q m : ℕ) → q < s.nly → m < 3 → (β₁ s + 3 * q + m < Nβ s) × BandIs s (β₁ s + 3 * q + m) (letters m) (s.nly - q) (s.nly - q)
    both_type q m a b = (
      below (β₁ s) (Nβ s) (s.nlx - s.nly) (first_is s.nlx s.nly built.no_more) (filters_is s.nlx s.nly built.no_more),
      type_band s (β₁ s + 3 * q + m)
          (record {
            letters = t.letters ∙ ap letters (parts (β₁ s)).2;
            across = t.across ∙ ap (λ (z : ℕ). s.nly - z) (parts (β₁ s)).1;
            down = t.down ∙ ap (λ (z : ℕ). s.nly - z) (parts (β₁ s)).1;
          }),
    )
      where
        parts : (f : ℕ) → (f ≤ f + 3 * q + m) × ((f + 3 * q + m - f) / 3 ≡ q) × ((f + 3 * q + m - f) % 3 ≡ m)
        parts f = (omega arith, omega arith, omega arith)

        t : TypeIs s.nlx s.nly (β₁ s + 3 * q + m) (letters ((β₁ s + 3 * q + m - β₁ s) % 3)) (s.nly - (β₁ s + 3 * q + m - β₁ s) / 3) (s.nly - (β₁ s + 3 * q + m - β₁ s) / 3)
        t = type_both s.nlx s.nly (β₁ s + 3 * q + m) (parts (β₁ s)).0

        below : (f n x : ℕ) → f ≡ x + 1 → n ≡ x + 1 + 3 * s.nly → f + 3 * q + m < n
        below f n x e g = omega arith

    -- the band of a filter type, from its depth down
    named : (β : ℕ) {k : Kind} {x y z : ℕ} → β < Nβ s → BandIs s β k x y → exists s β i ≡ true → min y (N'y s i) ≡ z → BandOf k x z
    unfolding depth
    named β b t e z = record { β = β; below = b; there = e; letters = t.letters; across = t.across; down = ap (λ (y : ℕ). min y (N'y s i)) t.down ∙ z }

    pub has_band : (k : Kind) (x y : ℕ) → Has s.nlx (N'y s i) k x y → BandOf k x y
    has_band LL x y h =
        let t = type_band s 0 (type_low s.nlx s.nly) in
        let p : BandOf LL s.nlx (N'y s i) = named 0 (omega arith) t (low_exists 0 (ap τy t.letters)) (omega arith) in
        rw (h.0, h.1) p
    has_band HL x y h = by (dec_lt s.nly x)
      where
        by : Dec (s.nly < x) → BandOf HL x y
        by (yes l) =
            let n : s.nlx + 1 - x ≡ 0 → ⊥ = (λ e. omega arith) in
            let f : s.nlx + 1 - x < β₁ s = omega (arith, first_is s.nlx s.nly built.no_more) in
            let t = type_band s (s.nlx + 1 - x) (type_across s.nlx s.nly (s.nlx + 1 - x) n f) in
            let e : s.nlx + 1 - (s.nlx + 1 - x) ≡ x = omega arith in
            let u : BandIs s (s.nlx + 1 - x) HL x s.nly = record { letters = t.letters; across = t.across ∙ e; down = t.down } in
            named (s.nlx + 1 - x) (lt_of_lt_of_le f first_fewer) u (low_exists (s.nlx + 1 - x) (ap τy u.letters))
            (deep_min s.nly x (N'y s i) (own_fewer i) l ∙ sym h.2)
        by (no m) =
            let b = both_type (s.nly - x) 0 (omega (arith, h)) (omega arith) in
            let e : s.nly - (s.nly - x) ≡ x = omega arith in
            let u : BandIs s (β₁ s + 3 * (s.nly - x) + 0) HL x x = record { letters = b.1.letters; across = b.1.across ∙ e; down = b.1.down ∙ e } in
            named (β₁ s + 3 * (s.nly - x) + 0) b.0 u (low_exists (β₁ s + 3 * (s.nly - x) + 0) (ap τy u.letters)) (omega (arith, h))
    has_band LH x y h =
        let b = both_type (s.nly - x) 1 (omega (arith, h)) (omega arith) in
        let e : s.nly - (s.nly - x) ≡ x = omega (arith, h) in
        let u : BandIs s (β₁ s + 3 * (s.nly - x) + 1) LH x x = record { letters = b.1.letters; across = b.1.across ∙ e; down = b.1.down ∙ e } in
        named (β₁ s + 3 * (s.nly - x) + 1) b.0 u (high_exists (β₁ s + 3 * (s.nly - x) + 1) (ap τy u.letters) (omega (arith, u.down, h))) (omega (arith, h))
    has_band HH x y h =
        let b = both_type (s.nly - x) 2 (omega (arith, h)) (omega arith) in
        let e : s.nly - (s.nly - x) ≡ x = omega (arith, h) in
        let u : BandIs s (β₁ s + 3 * (s.nly - x) + 2) HH x x = record { letters = b.1.letters; across = b.1.across ∙ e; down = b.1.down ∙ e } in
        named (β₁ s + 3 * (s.nly - x) + 2) b.0 u (high_exists (β₁ s + 3 * (s.nly - x) + 2) (ap τy u.letters) (omega (arith, u.down, h))) (omega (arith, h))
