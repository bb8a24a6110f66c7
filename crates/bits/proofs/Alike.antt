-- Streams that are the same in a part: so are the fields and the stretches that lie there. Assumes nothing.
use Prim.Native.Nat.{ℕ, zero, suc, ◌+◌, ◌-◌, ◌*◌, ◌/◌, ◌%◌, ◌^◌, ◌≤◌, ◌<◌}
use mathlib.Core.Path.{◌≡◌, refl, sym, ◌∙◌}
use mathlib.Core.List.{List}
use native.Mathlib.Omega.{arith}
use lib.ListN.{length, take, drop, length-take, length-drop}
use lib.Seq.{ext_get_or, get_or-take, get_or-drop}
use Rattle.bits.specs.Fields.{bit_at, field}
use Rattle.bits.specs.Alike.{Alike}

-- a part of what is the same
pub alike_part : {s s' : List ℕ} {from to : ℕ} (a b : ℕ) → Alike s s' from to → from ≤ a → b ≤ to → Alike s s' a b
alike_part a b same l h = record { long = same.long; bytes = λ j k m. same.bytes j (omega arith) (omega arith) }

module _ {s s' : List ℕ} {from to : ℕ} (alike : Alike s s' from to) where
  bit_alike : (i : ℕ) → 8 * from ≤ i → i < 8 * to → bit_at s' i ≡ bit_at s i
  unfolding bit_at
  bit_alike i l h = λ k. alike.bytes (i / 8) (omega arith) (omega arith) k / 2 ^ (7 - i % 8) % 2

  pub field_alike : (i n : ℕ) → 8 * from ≤ i → i + n ≤ 8 * to → field s' i n ≡ field s i n
  unfolding field
  field_alike i zero l h = refl
  field_alike i (suc n) l h = λ k. field_alike i n l (omega arith) k * 2 + bit_alike (i + n) (omega arith) (omega arith) k

  -- n bytes from a place on
  pub stretch_alike : (at n : ℕ) → from ≤ at → at + n ≤ to → take n (drop at s') ≡ take n (drop at s)
  stretch_alike at n l h =
      let long : length (drop at s') ≡ length (drop at s) = length-drop at s' ∙ (λ k. alike.long k - at) ∙ sym (length-drop at s) in
      let same : length (take n (drop at s')) ≡ length (take n (drop at s)) = omega (arith, length-take n (drop at s'), length-take n (drop at s), long) in
      ext_get_or 0 (take n (drop at s')) (take n (drop at s)) same
      (λ i m.
      let k : i < n = omega (arith, m, length-take n (drop at s')) in
      get_or-take n (drop at s') i 0 k ∙ get_or-drop at s' i 0 ∙ alike.bytes (at + i) (omega arith) (omega arith) ∙ sym (get_or-take n (drop at s) i 0 k ∙ get_or-drop at s i 0))
