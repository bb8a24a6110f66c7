-- Laws of tables: how they join, and what one says of which no check is broken. Assumes nothing.
use Rattle.std.specs.Prelude.{Ok, Err}
use Prim.Native.Nat.{ℕ, zero, suc, ◌+◌, ◌≤◌, ◌<◌}
use mathlib.Core.Bool.{Bool, true, false, ◌||◌, cond}
use mathlib.Core.List.Memᴰ
use mathlib.Core.List.{List, [], ◌∷◌, ◌++◌, Memᴰ}
use mathlib.Core.Logic.{◌↔◌, ◌⊎◌, inl, inr}
use mathlib.Core.Path.{◌≡◌, refl, sym, ap, ◌∙◌}
use native.Mathlib.Decide.{dec_lt}
use native.Mathlib.Numerals.{add-one}
use native.Mathlib.Omega.{arith}
use borrow.Author.Tests.{ltb-false, le-ltb}
use lib.Dec.{ltb}
use Rattle.rows.specs.Rows.{number, broken, first, then, each, answer, Fine, Refused, Verdict}
use Rattle.rows.specs.Tables.{Holds, Held, Unbroken, FirstBroken}
use Rattle.rows.specs.declared.Check.{Check}
use Rattle.rows.specs.declared.Row.{Row}
use Rattle.rows.specs.declared.Row.TheVariants.{Cut, Marker, Value, Lacking, Lent, Length, Count, Mode}

-- ---- tables, one after the other

pick_then : (b : Bool) (c : Check) (u v w : Verdict) → u ≡ then v w → cond b (Refused c) u ≡ then (cond b (Refused c) v) w
pick_then true c u v w e = refl
pick_then false c u v w e = e

pub first_append : (xs ys : List Check) → first (xs ++ ys) ≡ then (first xs) (first ys)
first_append [] ys = refl
first_append (c ∷ xs) ys = pick_then (broken c) c (first (xs ++ ys)) (first xs) (first ys) (first_append xs ys)

-- the verdict of two tables, from the verdict of each
pub joined : (xs ys : List Check) {v w r : Verdict} → r ≡ then v w → v ≡ first xs → w ≡ first ys → r ≡ first (xs ++ ys)
joined xs ys e p q = e ∙ (λ i. then (p i) (q i)) ∙ sym (first_append xs ys)

-- behind a table that refuses nothing the next decides
pub fine_passes : (xs ys : List Check) → first xs ≡ Fine → first (xs ++ ys) ≡ first ys
fine_passes xs ys e = first_append xs ys ∙ (λ i. then (e i) (first ys))

-- one table more of an index
pub each_none : (f : ℕ → List Check) → Fine ≡ first (each 0 f)
unfolding each
each_none f = refl

pub each_more : (n : ℕ) (f : ℕ → List Check) {v w r : Verdict} → r ≡ then v w → v ≡ first (each n f) → w ≡ first (f n) → r ≡ first (each (n + 1) f)
unfolding each
each_more n f e p q = rw add-one (joined (each n f) (f n) e p q)

-- tables of an index that are the same
pub each_alike : (n : ℕ) (f g : ℕ → List Check) → ((k : ℕ) → k < n → f k ≡ g k) → each n f ≡ each n g
unfolding each
each_alike zero f g h = refl
each_alike (suc n) f g h = λ i. each_alike n f g (λ k l. h k (omega arith)) i ++ h n (omega arith) i

-- ---- nothing is broken

-- a refusal is not fine
pub refused_fine : {A : Type 0} {c : Check} → Refused c ≡ Fine → A
refused_fine e = let z : ◌≡◌ {A = ℕ} 0 1 = cc in absurd (omega arith)

pub then_fine : (v w : Verdict) → then v w ≡ Fine → (v ≡ Fine) × (w ≡ Fine)
then_fine (Ok _) w e = (refl, e)
then_fine (Err c) w e = refused_fine e

-- the rows have the numbers 1 to 8
pub numbered : (r : Row) → (0 < number r) × (number r ≤ 8)
numbered Cut = (omega arith, omega arith)
numbered Marker = (omega arith, omega arith)
numbered Value = (omega arith, omega arith)
numbered Lacking = (omega arith, omega arith)
numbered Lent = (omega arith, omega arith)
numbered Length = (omega arith, omega arith)
numbered Count = (omega arith, omega arith)
numbered Mode = (omega arith, omega arith)

-- so that the answer 0 refuses nothing
pub answer_fine : (v : Verdict) → answer v ≡ 0 → v ≡ Fine
answer_fine (Ok _) e = refl
answer_fine (Err c) e = absurd (omega (arith, e, (numbered c.0).0))

pub answer_most : (v : Verdict) → answer v ≤ 8
answer_most (Ok _) = omega arith
answer_most (Err c) = (numbered c.0).1

pub append_fine : (xs ys : List Check) → first (xs ++ ys) ≡ Fine → (first xs ≡ Fine) × (first ys ≡ Fine)
append_fine xs ys e = then_fine (first xs) (first ys) (sym (first_append xs ys) ∙ e)

pub each_fine : (n : ℕ) (f : ℕ → List Check) → first (each n f) ≡ Fine → (k : ℕ) → k < n → first (f k) ≡ Fine
unfolding each
each_fine zero f e k h = absurd (omega arith)
each_fine (suc n) f e k h = pick (dec_lt k n) (each_fine n f (append_fine (each n f) (f n) e).0 k)
  where
    pick : Dec (k < n) → (k < n → first (f k) ≡ Fine) → first (f k) ≡ Fine
    pick (yes l) before = before l
    pick (no l) before =
        let q : k ≡ n = omega arith in
        rw q (append_fine (each n f) (f n) e).1

within : (c : Check) (a b : Bool) → a ≡ ltb c.3 c.4 → b ≡ ltb c.5 c.3 → (v : Verdict) → cond (a || b) (Refused c) v ≡ Fine → Holds c × (v ≡ Fine)
within c true b p q v e = refused_fine e
within c false true p q v e = refused_fine e
within c false false p q v e =
    (record { least = omega (arith, ltb-false c.3 c.4 (sym p)); most = omega (arith, ltb-false c.5 c.3 (sym q)) }, e)

pub held : (t : List Check) → first t ≡ Fine → Held t
held [] e = tt
held (c ∷ cs) e =
    let both = within c _ _ refl refl (first cs) e in
    (both.0, held cs both.1)

-- no check of a table is broken, exactly where nothing is refused
pub fine_iff : (t : List Check) → (first t ≡ Fine) ↔ Unbroken t
fine_iff [] = (λ e c m. absurd (Memᴰ.not-nil m), λ u. refl)
fine_iff (d ∷ ds) =
    (λ e. pick (broken d) refl e (fine_iff ds).0, λ u. rw (u d (Memᴰ.head refl)) ((fine_iff ds).1 (λ c m. u c (Memᴰ.tail m))))
  where
    pick : (b : Bool) → b ≡ broken d → cond b (Refused d) (first ds) ≡ Fine → (first ds ≡ Fine → Unbroken ds) → Unbroken (d ∷ ds)
    pick true p e later = refused_fine e
    pick false p e later = λ c m. by c (Memᴰ.cases_cons m)
      where
        by : (c : Check) → (c ≡ d) ⊎ Memᴰ c ds → broken c ≡ false
        by c (inl q) = ap broken q ∙ sym p
        by c (inr m) = later e c m

held_fine : (t : List Check) → Held t → first t ≡ Fine
held_fine [] h = refl
held_fine (c ∷ cs) h = rw (le-ltb c.3 c.4 h.0.least, le-ltb c.5 c.3 h.0.most) (held_fine cs h.1)

-- the same by the numbers
pub held_iff : (t : List Check) → Held t ↔ Unbroken t
held_iff t = (λ h. (fine_iff t).0 (held_fine t h), λ u. held t ((fine_iff t).1 u))

-- ---- something is broken

pub first_broken : (t : List Check) (c : Check) → first t ≡ Refused c → FirstBroken t c
first_broken [] c e = refused_fine (sym e)
first_broken (d ∷ ds) c e = pick (broken d) refl (first_broken ds c)
  where
    pick : (b : Bool) → b ≡ broken d → (first ds ≡ Refused c → FirstBroken ds c) → FirstBroken (d ∷ ds) c
    pick true p later =
        let q : d ≡ c = cc in
        record { before = []; after = ds; stands = rw q; earlier = tt; breaks = rw q at (sym p) }
    pick false p later =
        let l = later (rw (← p) at e) in
        record { before = d ∷ l.before; after = l.after; stands = (λ i. d ∷ l.stands i); earlier = ((held (d ∷ []) (rw (← p))).0, l.earlier); breaks = l.breaks }

-- and a table of which that holds refuses by that check
pub first_breaks : (t : List Check) (c : Check) → (first t ≡ Refused c) ↔ FirstBroken t c
first_breaks t c = (first_broken t c, back)
  where
    back : FirstBroken t c → first t ≡ Refused c
    back f =
        let here : first (c ∷ f.after) ≡ Refused c = rw f.breaks in
        ap first f.stands ∙ first_append f.before (c ∷ f.after) ∙ (λ i. then (held_fine f.before f.earlier i) (here i))

-- ---- tables of an index that decide as one of them does

then_same : (v w : Verdict) → (w ≡ Fine) ⊎ (w ≡ v) → then v w ≡ v
then_same (Ok _) w (inl e) = e
then_same (Ok _) w (inr e) = e
then_same (Err c) w o = refl

then_either : (u v w : Verdict) → (u ≡ Fine) ⊎ (u ≡ v) → (w ≡ Fine) ⊎ (w ≡ v) → (then u w ≡ Fine) ⊎ (then u w ≡ v)
then_either u v w (inl e) o = rw e o
then_either u v w (inr e) o = inr (rw e (then_same v w o))

each_either : (n : ℕ) (f : ℕ → List Check) (v : Verdict) → ((k : ℕ) → k < n → (first (f k) ≡ Fine) ⊎ (first (f k) ≡ v))
    → (first (each n f) ≡ Fine) ⊎ (first (each n f) ≡ v)
unfolding each
each_either zero f v h = inl refl
each_either (suc n) f v h =
    rw (first_append (each n f) (f n)) (then_either (first (each n f)) v (first (f n)) (each_either n f v (λ k l. h k (omega arith))) (h n (omega arith)))

-- where each refuses nothing, all do
pub each_all : (n : ℕ) (f : ℕ → List Check) → ((k : ℕ) → k < n → first (f k) ≡ Fine) → first (each n f) ≡ Fine
unfolding each
each_all zero f h = refl
each_all (suc n) f h = fine_passes (each n f) (f n) (each_all n f (λ k l. h k (omega arith))) ∙ h n (omega arith)

-- where each refuses nothing or answers as the m-th does, all answer as the m-th does
pub each_same : (n : ℕ) (f : ℕ → List Check) (m : ℕ) → m < n → ((k : ℕ) → k < n → (first (f k) ≡ Fine) ⊎ (first (f k) ≡ first (f m))) → first (each n f) ≡ first (f m)
unfolding each
each_same zero f m l h = absurd (omega arith)
each_same (suc n) f m l h = pick (dec_lt m n) (λ b. each_same n f m b (λ k c. h k (omega arith)))
  where
    pick : Dec (m < n) → (m < n → first (each n f) ≡ first (f m)) → first (each n f ++ f n) ≡ first (f m)
    pick (yes b) before =
        first_append (each n f) (f n) ∙ (λ i. then (before b i) (first (f n))) ∙ then_same (first (f m)) (first (f n)) (h n (omega arith))
    pick (no b) before =
        let q : n ≡ m = omega arith in
        first_append (each n f) (f n) ∙ last (first (each n f)) (first (f m)) (first (f n)) (each_either n f (first (f m)) (λ k c. h k (omega arith))) (ap (λ (k : ℕ). first (f k)) q)
      where
        last : (u v w : Verdict) → (u ≡ Fine) ⊎ (u ≡ v) → w ≡ v → then u w ≡ v
        last u v w (inl e) g = (λ i. then (e i) w) ∙ g
        last u v w (inr e) g = (λ i. then (e i) w) ∙ then_same v w (inr g)
