-- Tables one after the other in code: what a `?` hands on, and what it lets by. Assumes nothing.
use Prim.Native.Nat.{ℕ, zero, suc, ◌+◌, ◌<◌}
use native.Mathlib.Decide.{dec_lt}
use native.Mathlib.Numerals.{add-one}
use native.Mathlib.Omega.{arith}
use Rattle.std.proofs.Common.{◌≡◌, refl, sym, ap, ◌∙◌, List, ◌++◌, Break, Continue}
use Rattle.std.specs.Prelude.{Result, Ok, Err}
use Rattle.std.specs.Result.{IsErrAnd, result_from_control_flow}
use Rattle.std.proofs.lemmas.Result.{err_from_is_err_and}
use Rattle.rows.specs.Rows.{first, each, then, answered, Fine, Refused, Verdict}
use Rattle.rows.specs.declared.Check.{Check}
use Rattle.rows.proofs.Tables.{first_append, fine_passes}

-- what the exit of a `?` answers is the refusal that it met
pub handed_on : {T U : Type 0} {v : Result T Check} {r : Result U Check} {b : _} {f : _} → v ≡ result_from_control_flow b → b ≡ Break f → IsErrAnd r (λ y. y ≡ f.0) → r ≡ Err f.0
handed_on {r = r} from is e =
    let p = err_from_is_err_and r e in
    p.1 ∙ ap Err p.2

module _ (xs ys : List Check) {v r : Verdict} (says : v ≡ first xs) where
  -- a table that refuses decides for all that stands behind it
  pub handed : {b : _} {f : _} → v ≡ result_from_control_flow b → b ≡ Break f → IsErrAnd r (λ y. y ≡ f.0) → r ≡ first (xs ++ ys)
  handed {b} {f} from is e =
      let w : first xs ≡ Refused f.0 = sym says ∙ from ∙ ap result_from_control_flow is in
      handed_on from is e ∙ sym (first_append xs ys ∙ (λ i. then (w i) (first ys)))

  -- behind one that refuses nothing the next decides
  pub passed : {b : _} {u : _} → v ≡ result_from_control_flow b → b ≡ Continue u → r ≡ first ys → r ≡ first (xs ++ ys)
  passed from is e = e ∙ sym (fine_passes xs ys (sym says ∙ from ∙ ap result_from_control_flow is))

-- ---- the tables of an index, in a loop that a refusal ends

each_stops : (n m : ℕ) (f : ℕ → List Check) {k : Check} → m < n → first (each m f) ≡ Fine → first (f m) ≡ Refused k → first (each n f) ≡ Refused k
unfolding each
each_stops zero m f l before here = absurd (omega arith)
each_stops (suc n) m f {k} l before here = pick (dec_lt m n) (λ b. each_stops n m f b before here)
  where
    pick : Dec (m < n) → (m < n → first (each n f) ≡ Refused k) → first (each n f ++ f n) ≡ Refused k
    pick (yes b) earlier = first_append (each n f) (f n) ∙ (λ i. then (earlier b i) (first (f n)))
    pick (no b) earlier =
        let q : m ≡ n = omega arith in
        let now : first (each n f) ≡ Fine = rw (← q) before in
        let last : first (f n) ≡ Refused k = rw (← q) here in
        first_append (each n f) (f n) ∙ (λ i. then (now i) (last i))

module _ (m : ℕ) (f : ℕ → List Check) {v : Verdict} (before : first (each m f) ≡ Fine) (says : v ≡ first (f m)) where
  -- turn m refuses
  pub each_handed : {r : Verdict} (n : ℕ) {b : _} {x : _} → m < n → v ≡ result_from_control_flow b → b ≡ Break x → IsErrAnd r (λ y. y ≡ x.0) → r ≡ first (each n f)
  each_handed n l from is e =
      handed_on from is e ∙ sym (each_stops n m f l before (sym says ∙ from ∙ ap result_from_control_flow is))

  -- turn m refuses nothing
  pub each_passed : {b : _} {u : _} → v ≡ result_from_control_flow b → b ≡ Continue u → first (each (m + 1) f) ≡ Fine
  unfolding each
  each_passed from is =
      rw add-one (first_append (each m f) (f m) ∙ (λ i. then (before i) (first (f m))) ∙ sym says ∙ from ∙ ap result_from_control_flow is)

-- ---- what a reading answers, by its verdict

-- told apart: 0 of what is read, 1 of what is refused
abbrev told : {A : Type 0} → Result A Check → ℕ
told (Ok y) = 0
told (Err k) = 1

clash : {B : Type 0} (n : ℕ) → n ≡ 0 → n ≡ 1 → B
clash n e f = absurd (omega (arith, e, f))

pub answered_ok : {A : Type 0} (v : Verdict) (x : A) {y : A} → answered v x ≡ Ok y → (v ≡ Fine) × (x ≡ y)
answered_ok {A} (Ok u) x e = (refl, ap held e)
  where
    held : Result A Check → A
    held (Ok y) = y
    held (Err k) = x
answered_ok (Err c) x e = clash 1 (ap told e) refl

pub answered_err : {A : Type 0} (v : Verdict) (x : A) {c : Check} → answered v x ≡ Err c → v ≡ Refused c
answered_err {A} (Ok u) x e = clash 0 refl (ap told e)
answered_err {A} (Err k) x e = ap says e
  where
    says : Result A Check → Verdict
    says (Ok y) = Fine
    says (Err c) = Refused c
