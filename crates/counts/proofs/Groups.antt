-- Laws of a code group's count: one for each way that its code may go. Assumes nothing.
use Rattle.std.specs.Prelude.{Err}
use Prim.Native.Nat.{ℕ, ◌+◌, ◌*◌, ◌^◌, ◌≤◌, ◌<◌}
use mathlib.Core.Path.{◌≡◌, refl, sym, ◌∙◌}
use mathlib.Core.Bool.{cond}
use mathlib.Core.List.{List}
use native.Mathlib.Omega.{arith}
use borrow.Author.Tests.{le-leb, lt-leb}
use lib.Dec.{leb}
use lib.IntN.{pos, ◌+ℤ◌}
use lib.ListN.{length}
use lib.Pow.{pow_pos}
use Rattle.counts.specs.Codes.{ones, vlc}
use Rattle.counts.specs.Groups.{counted, coded}
use Rattle.counts.specs.declared.group.Fault.TheVariants.{Cut, Long}
use Rattle.counts.proofs.Codes.{ones_past}

module _ (s : List ℕ) (br mtop t i : ℕ) {limit n : ℕ} (e : limit ≡ 2 ^ (br + 1)) (f : n ≡ ones s i limit) where
  by_code : coded s br mtop t i ≡
      cond (leb limit n) (Err (Long n)) (cond (leb (8 * length s) (i + n)) (Err Cut) (counted (pos mtop +ℤ vlc mtop t n) (i + n + 1)))
  unfolding coded
  by_code = rw (f, e)

  pub coded_long : limit ≤ n → coded s br mtop t i ≡ Err (Long n)
  coded_long h = by_code ∙ rw (le-leb _ _ h)

  pub coded_cut : n < limit → 8 * length s ≤ i + n → coded s br mtop t i ≡ Err Cut
  coded_cut h k = by_code ∙ rw (lt-leb _ _ h, le-leb _ _ k)

  pub coded_count : n < limit → i + n < 8 * length s → coded s br mtop t i ≡ counted (pos mtop +ℤ vlc mtop t n) (i + n + 1)
  coded_count h k = by_code ∙ rw (lt-leb _ _ h, lt-leb _ _ k)

-- no code begins past the end
pub coded_past : (s : List ℕ) (br mtop t i : ℕ) → 8 * length s ≤ i → coded s br mtop t i ≡ Err Cut
coded_past s br mtop t i h = coded_cut s br mtop t i refl (sym (ones_past s i _ h)) (pow_pos _) (omega arith)
