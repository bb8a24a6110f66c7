-- Cells that agree at the places of a kind. Assumes nothing.
use Prim.Native.Nat.{ℕ, ◌<◌}
use mathlib.Core.Path.{◌≡◌, refl, sym, ◌∙◌}
use mathlib.Core.Bool.{Bool, true, false}
use mathlib.Core.List.{List}
use native.Mathlib.Decide.{dec_lt}
use native.Mathlib.Omega.{arith}
use borrow.Author.Tests.{eqb-true, eqb-false}
use lib.Dec.{eqb}
use lib.IntN.{ℤ, pos}
use lib.ListN.{length, set, length-set, get_or-eq_default}
use lib.Seq.{get_or-set_same, get_or-set_other}
use Rattle.whole.specs.Cells.{cell, Same}

-- a cell that is set in both alike
pub same_set : {P : ℕ → Type 0} {a b : List ℤ} → Same P a b → (i : ℕ) (v : ℤ) → Same P (set a i v) (set b i v)
same_set {P} {a} {b} same i v =
    record { long = length-set a i v ∙ same.long ∙ sym (length-set b i v); cells = λ n p. by n p (eqb n i) refl (dec_lt n (length a)) }
  where
    by : (n : ℕ) → P n → (e : Bool) → eqb n i ≡ e → Dec (n < length a) → cell (set a i v) n ≡ cell (set b i v) n
    by n p true e (yes l) =
        let q = eqb-true n i e in
        rw q (get_or-set_same a i v (pos 0) (omega (arith, q)) ∙ sym (get_or-set_same b i v (pos 0) (omega (arith, q, same.long))))
    by n p true e (no l) =
        get_or-eq_default (set a i v) (pos 0) (omega (arith, length-set a i v)) ∙ sym (get_or-eq_default (set b i v) (pos 0) (omega (arith, length-set b i v, same.long)))
    by n p false e d = get_or-set_other a i n v (pos 0) (eqb-false n i e) ∙ same.cells n p ∙ sym (get_or-set_other b i n v (pos 0) (eqb-false n i e))
