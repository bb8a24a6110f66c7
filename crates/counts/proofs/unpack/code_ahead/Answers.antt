-- `counts::unpack::code_ahead` meets its contract: a code that ends in the word is not cut. Assumes nothing.
use mathlib.Core.Path.{◌≡◌, refl, ◌∙◌, sym, ap}
use mathlib.Core.Bool.{Bool, true, false, ◌&&◌, true≢false}
use Prim.Native.Nat.{ℕ, ◌+◌, ◌<◌}
use native.Mathlib.Omega.{arith}
use lib.Dec.{ltb}
use lib.IntN.{ℤ}
use borrow.Author.Tests.{ltb-true}
use Rattle.counts.specs.Groups.{counted}
use Rattle.counts.proofs.Groups.{coded_count}
use Rattle.counts.proofs.unpack.code_ahead.Goals as goal

-- the two tests of `short`
few : (n limit : ℕ) → ltb n limit && ltb n 32 ≡ true → (n < limit) × (n < 32)
few n limit e = let tests = both (ltb n limit) e in (ltb-true n limit tests.0, ltb-true n 32 tests.1)
  where
    both : (a : Bool) → a && ltb n 32 ≡ true → (a ≡ true) × (ltb n 32 ≡ true)
    both true e = (refl, e)
    both false e = absurd (true≢false (sym e))

pub returns-then-short : goal.returns-then-short
returns-then-short c =
    let short = few c.ones_ahead-n.result c.too_many-limit.result c.if-short.true in
    c.in_range.ensures ∙ ap (λ (z : ℤ). counted z (c.args.i + c.ones_ahead-n.result + 1)) c.moved.ensures
    ∙ sym (coded_count _ _ _ _ _ c.too_many-limit.ensures.limit (c.ones_ahead-n.ensures.ended _ (omega (arith, short.1)) short.0) short.0 (omega (arith, c.requires, short.1)))
