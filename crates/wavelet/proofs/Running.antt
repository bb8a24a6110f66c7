-- The filter of a line as it is run: its first sample, then a pair for each odd place and the even one behind it, and the last odd sample of a line of
-- even length. The laws of a line's values serve a row's own run and the columns that run together. Assumes nothing.
use mathlib.Core.Path.{◌≡◌, refl, sym, ap, ◌∙◌}
use mathlib.Core.List.{List}
use Prim.Native.Nat.{ℕ, zero, suc, ◌+◌, ◌*◌, ◌-◌, ◌%◌, ◌^◌, ◌≤◌, ◌<◌}
use native.Mathlib.Nat.{add-zero}
use native.Mathlib.Omega.{arith}
use lib.Dec.{lit≤}
use lib.IntN.{ℤ, nat_abs}
use lib.ListN.{length, set}
use Rattle.whole.specs.Cells.{cell, Onto, OntoLine}
use Rattle.whole.specs.Numbers.{gap}
use Rattle.wavelet.specs.Filter.{Steps, filter}
use Rattle.wavelet.specs.Lines.{line, Line}
use Rattle.wavelet.specs.Runs.{right, Small, SmallPair, paired}
use Rattle.wavelet.proofs.Borders.{filter_even, filter_odd}
use Rattle.wavelet.proofs.Tame.{Tame, filter_even_size}
use Rattle.whole.proofs.Filling.{line_left, line_next, store_onto}

pub first_filter : (S : Steps ℤ) (n : ℕ) → 2 ≤ n → (X : ℕ → ℤ) → S.even (X 0) (X 1) (X 1) ≡ filter S n X 0
first_filter S n two X = sym (filter_even S n two X 0 (omega arith) refl ∙ ap (S.even (X 0) (X 1)) (ap X (omega arith)))

module _ {S : Steps ℤ} (T : Tame S) (n : ℕ) (two : 2 ≤ n) (X : ℕ → ℤ) where
  odd_filter : (j : ℕ) → j < n → j % 2 ≡ 1 → (k : ℕ) → right n j ≡ k → S.odd (X j) (filter S n X (j - 1)) (filter S n X k) ≡ filter S n X j
  odd_filter j h odd k e =
      let l : gap j 1 ≡ j - 1 = omega arith in
      sym (rw (l, e) at (filter_odd S n two X T.handed j h odd))

  -- the pair of the odd place j: with j − 1 done, it needs what stands at j, at j + 1 and behind that
  pub pair_filter : (j : ℕ) → j + 1 < n → j % 2 ≡ 1 → (b : ℕ) → b < 2
      → paired S (filter S n X (j - 1)) (X j) (X (j + 1)) (X (right n (j + 1))) b ≡ filter S n X (j + b)
  pair_filter j high odd = at
    where
      even_place : S.even (X (j + 1)) (X j) (X (right n (j + 1))) ≡ filter S n X (j + 1)
      even_place = sym (filter_even S n two X (j + 1) high (omega arith) ∙ ap (λ (i : ℕ). S.even (X (j + 1)) (X i) (X (right n (j + 1)))) (omega arith))

      at : (b : ℕ) → b < 2 → paired S (filter S n X (j - 1)) (X j) (X (j + 1)) (X (right n (j + 1))) b ≡ filter S n X (j + b)
      at zero h =
          let e : j + 0 ≡ j = omega arith in
          rw (e, even_place) (odd_filter j (omega arith) odd (j + 1) (omega arith))
      at (suc zero) h = even_place
      at (suc (suc b)) h = absurd (omega arith)

  -- the last odd sample, where no even one is behind it
  pub last_filter : (j : ℕ) → j + 1 ≡ n → j % 2 ≡ 1 → S.odd (X j) (filter S n X (j - 1)) (filter S n X (j - 1)) ≡ filter S n X j
  last_filter j end odd = odd_filter j (omega arith) odd (j - 1) (omega arith)

  -- no step of a pair wraps
  pub pair_small : ((i : ℕ) → i < n → nat_abs (X i) ≤ 2 ^ 60) → (j : ℕ) → j + 1 < n → j % 2 ≡ 1
      → SmallPair (filter S n X (j - 1)) (X j) (X (j + 1)) (X (right n (j + 1)))
  pair_small most j high odd = record {
    small_before = filter_even_size T n two X most (lit≤ tt) (j - 1) (omega arith) (omega arith);
    small_high = most j (omega arith);
    small_x = most (j + 1) high;
    small_next = most (right n (j + 1)) (omega arith);
  }

-- ---- the loop along one line, before the pair of the odd place j: places 1 to j − 1 are done, and what the pair needs of them is carried

pub record Running (S : Steps ℤ) (base stride n j : ℕ) (even high : ℤ) (x y : List ℤ) : Type 0 where
  pub odd : j % 2 ≡ 1
  pub most : j < n
  pub onto : Onto (λ k. base + k * stride) (λ k. (0 < k) × (k < j)) (filter S n (line base stride x)) x y
  pub even_is : even ≡ filter S n (line base stride x) (j - 1)
  pub high_is : high ≡ line base stride x j

-- where a line's cells stand, from its odd place j
at_next : (base stride j : ℕ) → base + j * stride + stride ≡ base + (j + 1) * stride
at_next base stride j = omega arith

at_second : (base stride j : ℕ) → base + j * stride + 2 * stride ≡ base + (j + 2) * stride
at_second base stride j = omega arith

module _ {base stride n : ℕ} {x : List ℤ} (L : Line base stride n (2 ^ 60) x) where
  -- the first place has one neighbour
  at_first : (base + 0 * stride ≡ base) × (base + 1 * stride ≡ base + stride)
  at_first = (omega arith, omega arith)

  pub first_small : Small (cell x base) (cell x (base + stride)) (cell x (base + stride))
  first_small =
      let high : nat_abs (cell x (base + stride)) ≤ 2 ^ 60 = rw at_first.1 at (L.most 1 L.two) in
      record { small_x = omega (arith, rw at_first.0 at (L.most 0 (omega (arith, L.two)))); small_l = omega (arith, high); small_r = omega (arith, high) }

  pub first_is : (S : Steps ℤ) → S.even (cell x base) (cell x (base + stride)) (cell x (base + stride)) ≡ filter S n (line base stride x) 0
  first_is S = rw (at_first.0, at_first.1) at (first_filter S n L.two (line base stride x))

module _ {S : Steps ℤ} {base stride n : ℕ} {x : List ℤ} (L : Line base stride n (2 ^ 60) x) where
  module _ (T : Tame S) {j : ℕ} {even high : ℤ} {y : List ℤ} (R : Running S base stride n j even high x y) where
    behind : (k : ℕ) → j ≤ k → cell y (base + k * stride) ≡ line base stride x k
    behind k h = line_left base stride L.stride_up R.onto k (λ a. absurd (omega arith))

    module _ (more : j + 2 < n) where
      here_is : cell y (base + j * stride + stride) ≡ line base stride x (j + 1)
      here_is = ap (cell y) (at_next base stride j) ∙ behind (j + 1) (omega arith)

      next_is : cell y (base + j * stride + 2 * stride) ≡ line base stride x (right n (j + 1))
      next_is = ap (cell y) (at_second base stride j) ∙ behind (j + 2) (omega arith) ∙ ap (line base stride x) (omega arith)

      pub running_inside : base + j * stride + 2 * stride < length y
      running_inside = rw (at_second base stride j, R.onto.same) (L.inside (j + 2) more)

      pub running_small : SmallPair even high (cell y (base + j * stride + stride)) (cell y (base + j * stride + 2 * stride))
      running_small = rw (here_is, next_is, R.even_is, R.high_is) (pair_small T n L.two (line base stride x) L.most j (omega arith) R.odd)

      value : (b : ℕ) → b < 2 → paired S even high (cell y (base + j * stride + stride)) (cell y (base + j * stride + 2 * stride)) b ≡ filter S n (line base stride x) (j + b)
      value b h = rw (here_is, next_is, R.even_is, R.high_is) (pair_filter T n L.two (line base stride x) j (omega arith) R.odd b h)

      pub running_step : {z : List ℤ} → OntoLine (base + j * stride) stride 2 (paired S even high (cell y (base + j * stride + stride)) (cell y (base + j * stride + 2 * stride))) y z
          → Running S base stride n (j + 2) (S.even (cell y (base + j * stride + stride)) high (cell y (base + j * stride + 2 * stride))) (cell y (base + j * stride + 2 * stride)) x z
      running_step o = record {
        odd = omega (arith, R.odd);
        most = more;
        onto = line_next base stride L.stride_up R.onto j 2 (base + j * stride) refl (λ i a. omega arith) (λ i a. omega (arith, R.odd)) (λ i a u. omega arith) (λ i a u. absurd (omega arith)) value o;
        even_is = value 1 (omega arith) ∙ ap (filter S n (line base stride x)) (omega arith);
        high_is = next_is ∙ ap (line base stride x) (omega arith);
      }

    -- the loop's end: the first sample, which was carried from the start
    pub running_ends : {first : ℤ} → first ≡ filter S n (line base stride x) 0 → n ≤ j + 2
        → OntoLine base stride (n - 1 - n % 2) (filter S n (line base stride x)) x (set y base first)
    running_ends {first} e end =
        let count : n - 1 - n % 2 ≡ j = omega (arith, R.odd, R.most) in
        rw count
        (line_next base stride L.stride_up R.onto 0 1 base (omega arith) (λ i a. omega arith) (λ i a. omega (arith, R.odd)) (λ i a u. absurd (omega arith)) (λ i a u. omega arith)
        (λ i a. let z : i ≡ 0 = omega arith in rw z e)
        (store_onto y base stride first (omega (arith, R.onto.same, L.inside 0 (omega (arith, L.two))))))

-- ---- the line's end, with the places before the last odd place j done

module _ {S : Steps ℤ} (T : Tame S) {base stride n : ℕ} {x y : List ℤ} (L : Line base stride n (2 ^ 60) x) (j : ℕ) (odd : j % 2 ≡ 1) (p : OntoLine base stride j (filter S n (line base stride x)) x y) where
  before_at : base + j * stride - stride ≡ base + (j - 1) * stride
  before_at =
      let e : j ≡ j - 1 + 1 = omega arith in
      ap (λ (i : ℕ). base + i * stride - stride) e ∙ omega arith

  before_is : cell y (base + j * stride - stride) ≡ filter S n (line base stride x) (j - 1)
  before_is = ap (cell y) before_at ∙ p.on (j - 1) (omega arith)

  unrun : (k : ℕ) → j ≤ k → cell y (base + k * stride) ≡ line base stride x k
  unrun k h = line_left base stride L.stride_up p k (λ a. absurd (omega arith))

  pub end_inside : j < n → (stride ≤ base + j * stride) × (base + j * stride < length y)
  end_inside h =
      let e : j ≡ j - 1 + 1 = omega arith in
      let b : stride ≤ base + (j - 1 + 1) * stride = omega arith in
      (rw e b, rw p.same (L.inside j h))

  -- the last place is odd
  module _ (end : j + 1 ≡ n) where
    pub last_small : Small (cell y (base + j * stride)) (cell y (base + j * stride - stride)) (cell y (base + j * stride - stride))
    last_small =
        let most : nat_abs (filter S n (line base stride x) (j - 1)) ≤ 2 ^ 61 = filter_even_size T n L.two (line base stride x) L.most (lit≤ tt) (j - 1) (omega arith) (omega arith) in
        rw (unrun j (omega arith), before_is) (record { small_x = omega (arith, L.most j (omega arith)); small_l = most; small_r = most })

    pub last_ends : OntoLine base stride n (filter S n (line base stride x)) x (set y (base + j * stride) (S.odd (cell y (base + j * stride)) (cell y (base + j * stride - stride)) (cell y (base + j * stride - stride))))
    last_ends =
        line_next base stride L.stride_up p j 1 (base + j * stride) refl (λ i a. omega arith) (λ i a. omega arith) (λ i a u. u) (λ i a u. absurd (omega arith))
        (λ i a. let z : i ≡ 0 = omega arith in rw (z, add-zero, unrun j (omega arith), before_is) (last_filter T n L.two (line base stride x) j end odd))
        (store_onto y (base + j * stride) stride _ (end_inside (omega arith)).1)

  -- the last place is even
  module _ (end : j + 2 ≡ n) where
    last_is : cell y (base + j * stride + stride) ≡ line base stride x (j + 1)
    last_is = ap (cell y) (at_next base stride j) ∙ unrun (j + 1) (omega arith)

    pub end_room : base + j * stride + stride < length y
    end_room = rw (at_next base stride j, p.same) (L.inside (j + 1) (omega arith))

    mirrored : right n (j + 1) ≡ j
    mirrored = omega arith

    pub end_small : SmallPair (cell y (base + j * stride - stride)) (cell y (base + j * stride)) (cell y (base + j * stride + stride)) (cell y (base + j * stride))
    end_small = rw (before_is, unrun j (omega arith), last_is) (rw mirrored at (pair_small T n L.two (line base stride x) L.most j (omega arith) odd))

    pub end_ends : {z : List ℤ} → OntoLine (base + j * stride) stride 2 (paired S (cell y (base + j * stride - stride)) (cell y (base + j * stride)) (cell y (base + j * stride + stride)) (cell y (base + j * stride))) y z
        → OntoLine base stride n (filter S n (line base stride x)) x z
    end_ends o =
        line_next base stride L.stride_up p j 2 (base + j * stride) refl (λ i a. omega arith) (λ i a. omega arith) (λ i a u. u) (λ i a u. absurd (omega arith))
        (λ b h. rw (before_is, unrun j (omega arith), last_is) (rw mirrored at (pair_filter T n L.two (line base stride x) j (omega arith) odd b h)))
        o
