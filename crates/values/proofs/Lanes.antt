-- Planes by words: the lanes of a word, the planes of a field that was read, and the group that they make. Assumes nothing.
use mathlib.Core.Bool.{Bool, true, cond, ◌&&◌}
use mathlib.Core.Path.{◌≡◌, refl, sym, ap, ◌∙◌}
use mathlib.Core.List.{List}
use Prim.Native.Nat.{ℕ, zero, suc, ◌+◌, ◌-◌, ◌*◌, ◌/◌, ◌%◌, ◌^◌, ◌≤◌, ◌<◌}
use native.Mathlib.Nat.{add-zero, add-suc, sub-zero, pow-suc, mul_assoc, lt_of_lt_of_le}
use native.Mathlib.Decide.{ℕ_discrete, dec_lt}
use native.Mathlib.Omega.{arith}
use borrow.Author.Tests.{lt-ltb, le-ltb}
use lib.Dec.{T, ltb, leb, eqb, lit≤, leb→le, eqb→eq}
use lib.IntN.{ℤ}
use lib.ListN.{get_or}
use lib.Pow.{pow_mono}
use mir.Facts.{and_yes}
use Rattle.bits.specs.Fields.{bit_at, field, IsField}
use Rattle.bits.specs.Groups.{sign_nibbles, nibbles_of}
use Rattle.bits.proofs.Laws.{field_join, field_lt, is_field, is_last}
use Rattle.quantiser.specs.Inverse.{scaled}
use Rattle.quantiser.proofs.Laws.{either_exact}
use Rattle.values.specs.Group.{planes, sign_bits, sign_bits_of, v, s, index}
use Rattle.values.specs.Line.{placed}
use Rattle.values.specs.Steps.{SignBit, GroupFit, value, group_values}
use Rattle.values.specs.Lanes.{lanes, lane, one_plane, spread, two_planes, IsPairs, Short, IsFound, Sizes, lane_value, fourth}
use Rattle.values.specs.declared.Coding.{Coding}
use Rattle.values.specs.declared.Group.{Group}
use Rattle.values.specs.declared.Next.{Next}
use Rattle.values.specs.declared.words.Found.{Found}
use Rattle.values.proofs.Planes.{bit_lt, below_four, four_bit, planes_lt, planes_more}
use Rattle.values.proofs.Groups.{sign_bits_le, sign_bits_of_le, index_lt, group_is}
use Rattle.values.proofs.Places.{placing, placed_same}

-- ---- the planes of a word

plane_most : (x : ℕ) → one_plane x ≤ 281479271743489
unfolding one_plane lanes
plane_most x = omega arith

-- no lane is above the 2 ^ j - 1 of j planes, so that none carries: the number is 1 in each lane
pub spread_most : (j w : ℕ) → spread j w + 281479271743489 ≤ 2 ^ j * 281479271743489
unfolding spread
spread_most zero w = omega arith
spread_most (suc j) w = rw (pow-suc, mul_assoc) (omega (arith, spread_most j (w / 16), plane_most (w % 16)))

pub spread_none : (j : ℕ) → spread j 0 ≡ 0
unfolding spread one_plane lanes
spread_none zero = refl
spread_none (suc j) = omega (arith, spread_none j)

-- two nibbles are a byte
spread_two : (j w : ℕ) → spread (suc (suc j)) w ≡ 4 * spread j (w / 256) + two_planes (w % 256)
unfolding spread
spread_two j w =
    let a : w / 16 / 16 ≡ w / 256 = omega arith in
    let b : w / 16 % 16 ≡ w % 256 / 16 = omega arith in
    let c : w % 256 % 16 ≡ w % 16 = omega arith in
    rw (a, b, c) (omega arith)

-- the planes before the last eight
pub spread_eight : (j w : ℕ) → spread (suc (suc (suc (suc (suc (suc (suc (suc j)))))))) w ≡ 256 * spread j (w / 2 ^ 32) + spread 8 w
unfolding spread
spread_eight j w =
    let a : w / 16 / 16 / 16 / 16 / 16 / 16 / 16 / 16 ≡ w / 2 ^ 32 = omega arith in
    rw a (omega arith)

-- four bytes by the table
pub eight_is : {table : List ℕ} → IsPairs table → (w : ℕ)
    → get_or table (w % 256) 0 + 4 * get_or table (w / 2 ^ 8 % 256) 0 + 16 * get_or table (w / 2 ^ 16 % 256) 0 + 64 * get_or table (w / 2 ^ 24 % 256) 0 ≡ spread 8 w
unfolding spread
eight_is p w =
    let b : w / 256 / 256 ≡ w / 2 ^ 16 = omega arith in
    let c : w / 2 ^ 16 / 256 ≡ w / 2 ^ 24 = omega arith in
    rw (p.each (w % 256) (omega arith), p.each (w / 2 ^ 8 % 256) (omega arith), p.each (w / 2 ^ 16 % 256) (omega arith), p.each (w / 2 ^ 24 % 256) (omega arith))
    (omega (arith, spread_two 6 w, rw b at (spread_two 4 (w / 256)), rw c at (spread_two 2 (w / 2 ^ 16)), spread_two 0 (w / 2 ^ 24)))

-- ---- the planes of a field: its nibbles, the first plane highest. What stands before them is 0

module _ (dat : List ℕ) (from : ℕ) where
  one_plane_lem : (n : ℕ) → one_plane (field dat (4 * from + 4 * n) 4) ≡ lanes (λ k. bit_at dat (4 * (from + n) + k))
  unfolding one_plane lanes
  one_plane_lem n =
      let bit : (k : ℕ) → k ≤ 3 → field dat (4 * from + 4 * n) 4 / 2 ^ (3 - k) % 2 ≡ bit_at dat (4 * (from + n) + k) =
      λ k h. four_bit k h (is_field refl) ∙ ap (λ (i : ℕ). bit_at dat (i + k)) (omega arith) in
      omega (arith, bit 0 (lit≤ tt), bit 1 (lit≤ tt), bit 2 (lit≤ tt), bit 3 (lit≤ tt))

  spread_field : (n m : ℕ) → spread (m + n) (field dat (4 * from) (4 * n)) ≡ lanes (planes dat from n)
  unfolding spread planes lanes field
  spread_field zero m = rw (add-zero m) (spread_none m)
  spread_field (suc n) m =
      let e : 4 * suc n ≡ 4 * n + 4 = omega arith in
      let j = field_join dat (4 * from) (4 * n) 4 in
      let l = field_lt dat (4 * from + 4 * n) 4 in
      let q : field dat (4 * from) (4 * n + 4) / 16 ≡ field dat (4 * from) (4 * n) = omega (arith, j, l) in
      let r : field dat (4 * from) (4 * n + 4) % 16 ≡ field dat (4 * from + 4 * n) 4 = omega (arith, j, l) in
      rw (e, add-suc m n, q, r, spread_field n m, one_plane_lem n)
      (omega (arith, planes_more dat from n 0, planes_more dat from n 1, planes_more dat from n 2, planes_more dat from n 3))

-- and of the last 4 n bits of a field that was read
pub planes_read : {dat : List ℕ} (from n : ℕ) {i W w r : ℕ} (k : ℕ) → IsField dat i W w → W ≡ k + 4 * n → 4 * from ≡ i + k → n ≤ 16 → r ≡ spread 16 (w % 2 ^ (4 * n))
    → r ≡ lanes (planes dat from n)
planes_read {dat} from n k x f e h g =
    let all : 16 - n + n ≡ 16 = omega arith in
    g ∙ ap (spread 16) (is_last {j = 4 * from} {n = 4 * n} k x f e).value ∙ rw all at (spread_field dat from n (16 - n))

-- ---- what is read of a group

four_of : (P : ℕ → Type 0) → ((k : ℕ) → k < 4 → P k) → P 0 × P 1 × P 2 × P 3
four_of P h = (h 0 (omega arith), h 1 (omega arith), h 2 (omega arith), h 3 (omega arith))

lane_at : (f : ℕ → ℕ) → ((k : ℕ) → k < 4 → f k < 2 ^ 16) → (k : ℕ) → k < 4 → lane (lanes f) k ≡ f k
unfolding lanes
lane_at f h =
    let all = four_of (λ k. f k < 2 ^ 16) h in
    below_four (λ k. lane (lanes f) k ≡ f k) (omega (arith, all)) (omega (arith, all)) (omega (arith, all)) (omega (arith, all))

pub lane_read : (dat : List ℕ) (from n : ℕ) {w : ℕ} → n ≤ 14 → w ≡ lanes (planes dat from n) → (k : ℕ) → k < 4 → lane w k ≡ planes dat from n k
lane_read dat from n h e k l = rw e (lane_at (planes dat from n) (λ k _. lt_of_lt_of_le (planes_lt dat from n k) (pow_mono {i = n} {j = 16} (omega arith))) k l)

-- one more sign
pub sign_count : (f : ℕ → ℕ) (k : ℕ) {u b x : ℕ} → u ≡ sign_bits f k → SignBit x b → x ≡ f k → u + b ≡ sign_bits f (suc k)
unfolding sign_bits
sign_count f k e s g = rw (e, s.value, g)

-- the next of four sign bits
pub sign_next : {sgn : List ℕ} {sign four a : ℕ} (f : ℕ → ℕ) (k : ℕ) → k ≤ 3 → IsField sgn sign 4 four → a ≡ sign_bits f k
    → four / 2 ^ (3 - a) % 2 ≡ bit_at sgn (sign + sign_bits f k)
sign_next f k h x e = rw (← e) (four_bit _ (omega (arith, sign_bits_le f k)) x)

-- four bits side by side
pub side_by_side : (sgn : List ℕ) (i : ℕ → ℕ) {r : ℕ} → r ≡ bit_at sgn (i 0) * 8 + bit_at sgn (i 1) * 4 + bit_at sgn (i 2) * 2 + bit_at sgn (i 3)
    → (k : ℕ) → k < 4 → r / 2 ^ (3 - k) % 2 ≡ bit_at sgn (i k)
side_by_side sgn i {r} e =
    let all = four_of (λ k. bit_at sgn (i k) < 2) (λ k _. bit_lt sgn (i k)) in
    below_four (λ k. r / 2 ^ (3 - k) % 2 ≡ bit_at sgn (i k)) (omega (arith, all)) (omega (arith, all)) (omega (arith, all)) (omega (arith, all))

taken_is : (M T : ℕ) (fs : Bool) → nibbles_of (M - T) 0 fs ≡ nibbles_of M T fs
unfolding nibbles_of
taken_is M T fs = pick (dec_lt T M)
  where
    pick : Dec (T < M) → cond (ltb 0 (M - T)) (sign_nibbles fs + (M - T - 0)) 0 ≡ cond (ltb T M) (sign_nibbles fs + (M - T)) 0
    pick (yes h) = rw (sub-zero, lt-ltb 0 (M - T) (omega arith), lt-ltb T M h)
    pick (no h) = rw (le-ltb 0 (M - T) (omega arith), le-ltb T M (omega arith))

-- ---- four values in their cells

pub placed_four : (first stride : ℕ) (cells₀ : List ℤ) (a b c d : ℤ) (f : ℕ → ℤ) {cells : List ℤ} → cells ≡ placed first stride (fourth a b c d) 4 cells₀
    → a ≡ f 0 → b ≡ f 1 → c ≡ f 2 → d ≡ f 3 → cells ≡ placed first stride f 4 cells₀
placed_four first stride cells₀ a b c d f e p q r s = e ∙ placed_same first stride (fourth a b c d) f 4 cells₀ (below_four (λ k. fourth a b c d k ≡ f k) p q r s)

-- ---- a short group

module _ {dat sgn : List ℕ} {how : Coding} {g : Group} {next : Next} {cells bytes : ℕ} {f : Found} (fit : GroupFit how g next cells) (short : Short g next bytes)
    (r : IsFound dat sgn how.fs (g.m - g.t) next.at next.sign f) where
  found_lane : (k : ℕ) → k < 4 → lane f.sizes k ≡ planes dat (next.at + sign_nibbles how.fs) (g.m - g.t) k
  found_lane = lane_read dat (next.at + sign_nibbles how.fs) (g.m - g.t) short.few r.sizes

  pub found_sizes : Sizes g.m g.t f.sizes
  found_sizes = record { each = λ k l. record { count = fit.m; below = rw (found_lane k l) (planes_lt dat (next.at + sign_nibbles how.fs) (g.m - g.t) k) } }

  found_used : f.used ≡ sign_bits_of dat how.fs g.m g.t next.at
  unfolding sign_bits_of v
  found_used = r.used

  pub found_few : f.used ≤ 4
  found_few = omega (arith, found_used, sign_bits_of_le dat how.fs g.m g.t next.at)

  -- its values, by either quantiser where T is 0
  found_value : (k : ℕ) → k < 4 → lane_value (how.uniform && ltb 0 g.t) g.m g.t how.fq f.sizes f.signs k ≡ value dat sgn how g next k
  unfolding lane_value value index s v
  found_value k l =
      rw (found_lane k l, r.signs k l)
      (ap (scaled how.fq) (either_exact how.uniform g.m g.t (index dat how.fs g.m g.t next.at sgn next.sign k)
      (index_lt dat how.fs g.m g.t next.at sgn next.sign k)))

  pub found_group : (cells₀ : List ℤ) {cells : List ℤ}
      → cells ≡ placed g.first g.stride (lane_value (how.uniform && ltb 0 g.t) g.m g.t how.fq f.sizes f.signs) 4 cells₀
      → group_values dat sgn how g next cells₀ ≡ (record { at = next.at + f.taken; sign = next.sign + f.used }, cells)
  found_group cells₀ e =
      group_is dat sgn how g next (r.taken.number ∙ taken_is g.m g.t how.fs) found_used
      (placing (e ∙ placed_same g.first g.stride _ (value dat sgn how g next) 4 cells₀ found_value)) (sym short.whole)

-- the test for one
pub short_is : (x n y z : ℕ) → eqb x 4 && leb n 14 && leb y z ≡ true → (x ≡ 4) × (n ≤ 14) × (y ≤ z)
short_is x n y z e =
    let t = and_yes (eqb x 4 && leb n 14) (leb y z) (rw e tt) in
    let u = and_yes (eqb x 4) (leb n 14) t.0 in
    (eqb→eq x 4 u.0, leb→le n 14 u.1, leb→le y z t.1)

-- ---- the table's rule, by a test that antt computes for every byte below n

abbrev right : List ℕ → ℕ → Bool
right table zero = true
right table (suc b) = eqb (get_or table b 0) (two_planes b) && right table b

right_at : (table : List ℕ) (n b : ℕ) → T (right table n) → b < n → get_or table b 0 ≡ two_planes b
right_at table zero b t h = absurd (omega arith)
right_at table (suc n) b t h =
    let u = and_yes (eqb (get_or table n 0) (two_planes n)) (right table n) t in
    pick (eqb→eq (get_or table n 0) (two_planes n) u.0) (right_at table n b u.1) (ℕ_discrete b n)
  where
    pick : get_or table n 0 ≡ two_planes n → (b < n → get_or table b 0 ≡ two_planes b) → Dec (b ≡ n) → get_or table b 0 ≡ two_planes b
    pick here before (yes e) = rw e here
    pick here before (no e) = before (omega arith)

pub is_pairs : (table : List ℕ) → T (right table 256) → IsPairs table
is_pairs table t = record { each = λ b h. right_at table 256 b t h }
