-- Either loop of Table E.1 over numbers: with depth d reached, the turns that are left make of the number `low` what all turns make of the first.
-- Assumes nothing.
use mathlib.Core.Path.{◌≡◌, sym, ◌∙◌}
use Prim.Native.Nat.{ℕ, suc, ◌+◌, ◌*◌, ◌-◌, ◌^◌, ◌≤◌, ◌<◌}
use native.Mathlib.Omega.{arith}
use Rattle.wavelet.specs.Transform.{down}
use Rattle.wavelet.proofs.Descent.{down_turn, down_none}

-- a number below B at first grows by less than 2 ^ 49 with each turn
pub record Descending (turn : ℕ → ℕ → ℕ) (to n first B d low : ℕ) : Type 0 where
  pub least : to ≤ d
  pub most : d ≤ to + n
  pub left : down turn to (d - to) low ≡ down turn to n first
  pub small : low < B + 2 ^ 49 * (to + n - d)

module _ {turn : ℕ → ℕ → ℕ} {to n first B d low : ℕ} where
  pub descent_begins : d ≡ to + n → low ≡ first → low < B → Descending turn to n first B d low
  descent_begins e f h =
      let p : d - to ≡ n = omega arith in
      record { least = omega arith; most = omega arith; left = rw (p, f); small = omega arith }

  module _ (I : Descending turn to n first B d low) where
    pub descent_goes_on : {e low' : ℕ} → d ≡ suc e → to < d → low' ≡ turn d low → low' < low + 2 ^ 49 → Descending turn to n first B e low'
    descent_goes_on {e} {low'} p h t g = record {
      least = omega arith;
      most = omega (arith, I.most);
      left = rw t (sym (down_turn turn to low p h) ∙ I.left);
      small = omega (arith, I.small, I.most);
    }

    pub descent_ends : d ≤ to → low ≡ down turn to n first
    descent_ends h = sym (down_none turn to d low h) ∙ I.left
