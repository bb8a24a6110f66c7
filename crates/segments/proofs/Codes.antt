-- What the code of a marker says of its kind, and that an unknown one is refused. Assumes nothing.
use Prim.Native.Nat.{ℕ, zero, suc, ◌+◌, ◌-◌, ◌≤◌, ◌<◌}
use mathlib.Core.Bool.{Bool, true, false, cond}
use mathlib.Core.Path.{◌≡◌, refl, sym, subst}
use native.Mathlib.Omega.{arith}
use borrow.Author.Tests.{eqb-true, eqb-false}
use lib.Dec.{eqb, ltb}
use Rattle.rows.specs.Rows.{first, Fine}
use Rattle.rows.specs.declared.Field.TheVariants.{Nlt, Cts, Tpc, Wgr}
use Rattle.rows.proofs.Tables.{held}
use Rattle.picture.specs.Markers.{CDT, WGT, COM, NLT, CWD, CTS, CRG, TPC, WGR, SLH, SLI}
use Rattle.picture.specs.declared.segment.Segment.{Segment}
use Rattle.segments.specs.Segments.{kind_of, unknown_checks}
use Rattle.segments.specs.declared.kinds.Kind.{Kind}
use Rattle.segments.specs.declared.kinds.Kind.TheVariants.{Components, Weights, Extension, Undecomposed, Registration, Unbuilt, Slice, Predicted, Unknown}

-- the code of each kind; one that is unknown is none from CDT to WGR, and neither SLH nor SLI
abbrev pub Coded : ℕ → Kind → Type 0
Coded m Components = m ≡ CDT
Coded m Weights = m ≡ WGT
Coded m Extension = m ≡ COM
Coded m Undecomposed = m ≡ CWD
Coded m Registration = m ≡ CRG
Coded m (Unbuilt f) = Unit {0}
Coded m Slice = m ≡ SLH
Coded m Predicted = m ≡ SLI
Coded m Unknown = ((j : ℕ) → j < 9 → m ≡ CDT + j → ⊥) × (m ≡ SLH → ⊥) × (m ≡ SLI → ⊥)

by_code : (m c : ℕ) (x y : Kind) → (m ≡ c → Coded m x) → ((m ≡ c → ⊥) → Coded m y) → Coded m (cond (eqb m c) x y)
by_code m c x y f g = pick (eqb m c) refl
  where
    pick : (b : Bool) → b ≡ eqb m c → Coded m (cond b x y)
    pick true e = f (eqb-true m c (sym e))
    pick false e = g (eqb-false m c (sym e))

no_segment : (m : ℕ) → (m ≡ CDT → ⊥) → (m ≡ WGT → ⊥) → (m ≡ COM → ⊥) → (m ≡ NLT → ⊥) → (m ≡ CWD → ⊥) → (m ≡ CTS → ⊥) → (m ≡ CRG → ⊥) → (m ≡ TPC → ⊥) → (m ≡ WGR → ⊥) →
    (j : ℕ) → j < 9 → m ≡ CDT + j → ⊥
no_segment m a b c d e f g h i zero l = a
no_segment m a b c d e f g h i (suc zero) l = b
no_segment m a b c d e f g h i (suc (suc zero)) l = c
no_segment m a b c d e f g h i (suc (suc (suc zero))) l = d
no_segment m a b c d e f g h i (suc (suc (suc (suc zero)))) l = e
no_segment m a b c d e f g h i (suc (suc (suc (suc (suc zero))))) l = f
no_segment m a b c d e f g h i (suc (suc (suc (suc (suc (suc zero)))))) l = g
no_segment m a b c d e f g h i (suc (suc (suc (suc (suc (suc (suc zero))))))) l = h
no_segment m a b c d e f g h i (suc (suc (suc (suc (suc (suc (suc (suc zero)))))))) l = i
no_segment m a b c d e f g h i (suc (suc (suc (suc (suc (suc (suc (suc (suc j))))))))) l = absurd (omega arith)

pub coded : (m : ℕ) → Coded m (kind_of m)
unfolding kind_of
coded m =
    by_code m CDT Components _ (λ e. e) (λ a.
    by_code m WGT Weights _ (λ e. e) (λ b.
    by_code m COM Extension _ (λ e. e) (λ c.
    by_code m NLT (Unbuilt Nlt) _ (λ e. tt) (λ d.
    by_code m CWD Undecomposed _ (λ e. e) (λ e.
    by_code m CTS (Unbuilt Cts) _ (λ e. tt) (λ f.
    by_code m CRG Registration _ (λ e. e) (λ g.
    by_code m TPC (Unbuilt Tpc) _ (λ e. tt) (λ h.
    by_code m WGR (Unbuilt Wgr) _ (λ e. tt) (λ i.
    by_code m SLH Slice _ (λ e. e) (λ j.
    by_code m SLI Predicted Unknown (λ e. e) (λ k.
    (no_segment m a b c d e f g h i, j, k))))))))))))

-- the codes that stand beside an unknown marker are known ones
pub code_refused : (g : Segment) → Coded g.marker Unknown → first (unknown_checks g) ≡ Fine → ⊥
code_refused g n e =
    let l = (held (unknown_checks g) e).0 in
    pick (ltb WGR g.marker) l.least l.most
  where
    pick : (b : Bool) → cond b SLH CDT ≤ g.marker → g.marker ≤ cond b SLI WGR → ⊥
    pick true l u = omega (arith, n.1, n.2)
    pick false l u = n.0 (g.marker - CDT) (omega arith) (omega arith)

pub unknown_refused : (g : Segment) → kind_of g.marker ≡ Unknown → first (unknown_checks g) ≡ Fine → ⊥
unknown_refused g k e = code_refused g (subst (Coded g.marker) k (coded g.marker)) e
