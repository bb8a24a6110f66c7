-- Annex F keeps every relation that F.3 keeps, whatever the kind of value; and where no mark stands, nothing that is marked is read. Assumes nothing.
use mathlib.Core.Path.{◌≡◌, refl}
use mathlib.Core.Bool.{Bool, true, false, ◌||◌}
use Prim.Native.Nat.{ℕ, zero, suc, ◌*◌, ◌≤◌, ◌<◌}
use native.Mathlib.Decide.{ℕ_discrete}
use native.Mathlib.Omega.{arith}
use borrow.Author.Tests.{eq-eqb, ne_eqb}
use Rattle.whole.proofs.Linear.{flags_differ}
use Rattle.colour.specs.Rct.{numbers_rct, marks_rct}
use Rattle.colour.specs.declared.Pixel.{Pixel}
use Rattle.colour.specs.Table.{part_of, table_F1, coloured_number, coloured_mark}
use Rattle.colour.proofs.Laws.{numbers_most, numbers_grow}

-- ---- Table F.1, of three kinds of value at once, as the laws of Annex E are stated

module _ {A B C : Type 0} (Q : A → B → C → Type 0) {r g b : A} {r' g' b' : B} {r'' g'' b'' : C} (v : ℕ → A) (v' : ℕ → B) (v'' : ℕ → C) where
  part_keeps : Q r r' r'' × Q g g' g'' × Q b b' b'' → (i : ℕ) → Q (v i) (v' i) (v'' i)
      → Q (part_of r g b (v i) i) (part_of r' g' b' (v' i) i) (part_of r'' g'' b'' (v'' i) i)
  part_keeps q zero h = q.0
  part_keeps q (suc zero) h = q.1
  part_keeps q (suc (suc zero)) h = q.2
  part_keeps q (suc (suc (suc i))) h = h

  pub table_keeps : (Cpih : ℕ) → (Cpih ≡ 1 → Q r r' r'' × Q g g' g'' × Q b b' b'') → (i : ℕ) → Q (v i) (v' i) (v'' i)
      → Q (table_F1 Cpih r g b v i) (table_F1 Cpih r' g' b' v' i) (table_F1 Cpih r'' g'' b'' v'' i)
  table_keeps Cpih q i h = pick (ℕ_discrete Cpih 1)
    where
      pick : Dec (Cpih ≡ 1) → Q (table_F1 Cpih r g b v i) (table_F1 Cpih r' g' b' v' i) (table_F1 Cpih r'' g'' b'' v'' i)
      pick (yes e) = rw (eq-eqb Cpih 1 e) (part_keeps (q e) i h)
      pick (no e) = rw (ne_eqb Cpih 1 e) h

-- the same of two kinds, and of one
pub table_pairs : {A B : Type 0} (Q : A → B → Type 0) {r g b : A} {r' g' b' : B} (v : ℕ → A) (v' : ℕ → B) (Cpih : ℕ)
    → (Cpih ≡ 1 → Q r r' × Q g g' × Q b b') → (i : ℕ) → Q (v i) (v' i) → Q (table_F1 Cpih r g b v i) (table_F1 Cpih r' g' b' v' i)
table_pairs Q {r} {g} {b} v v' = table_keeps (λ x y _. Q x y) {r'' = r} {g'' = g} {b'' = b} v v' v

pub table_each : {A : Type 0} (P : A → Type 0) {r g b : A} (v : ℕ → A) (Cpih : ℕ)
    → (Cpih ≡ 1 → P r × P g × P b) → (i : ℕ) → P (v i) → P (table_F1 Cpih r g b v i)
table_each P {r} {g} {b} v = table_pairs (λ x _. P x) {r' = r} {g' = g} {b' = b} v v

-- ---- document 01, distance rule 3

module _ (Cpih : ℕ) where
  -- it reads the components that there are
  pub number_same : (e e' : ℕ → ℕ) → (Cpih ≡ 1 → (j : ℕ) → j < 3 → e j ≡ e' j) → (i : ℕ) → e i ≡ e' i → coloured_number Cpih e i ≡ coloured_number Cpih e' i
  unfolding coloured_number
  number_same e e' same = table_pairs (λ m n. m ≡ n) e e' Cpih (λ p. (λ j. (made p j).c0, λ j. (made p j).c1, λ j. (made p j).c2))
    where
      made : Cpih ≡ 1 → numbers_rct (record { c0 = e 0; c1 = e 1; c2 = e 2 }) ≡ numbers_rct (record { c0 = e' 0; c1 = e' 1; c2 = e' 2 })
      made p = λ j. numbers_rct (record { c0 = same p 0 (omega arith) j; c1 = same p 1 (omega arith) j; c2 = same p 2 (omega arith) j })

  -- numbers of at most B become numbers of at most 3 B
  pub number_most : (B : ℕ) (e : ℕ → ℕ) → (Cpih ≡ 1 → (j : ℕ) → j < 3 → e j ≤ B) → (i : ℕ) → e i ≤ B → coloured_number Cpih e i ≤ 3 * B
  unfolding coloured_number
  number_most B e most i own =
      table_each (λ n. n ≤ 3 * B) e Cpih
      (λ p. numbers_most (record { c0 = e 0; c1 = e 1; c2 = e 2 }) (most p 0 (omega arith), most p 1 (omega arith), most p 2 (omega arith))) i (omega arith)

  -- larger numbers become larger ones
  pub number_grows : (e e' : ℕ → ℕ) → (Cpih ≡ 1 → (j : ℕ) → j < 3 → e j ≤ e' j) → (i : ℕ) → e i ≤ e' i → coloured_number Cpih e i ≤ coloured_number Cpih e' i
  unfolding coloured_number
  number_grows e e' more =
      table_pairs (λ m n. m ≤ n) e e' Cpih
      (λ p.
      numbers_grow (record { c0 = e 0; c1 = e 1; c2 = e 2 }) (record { c0 = e' 0; c1 = e' 1; c2 = e' 2 })
      (more p 0 (omega arith), more p 1 (omega arith), more p 2 (omega arith)))

-- ---- marks

-- no component is marked
pub record Unmarked (m : Pixel Bool) : Type 0 where
  pub c0 : m.c0 ≡ false
  pub c1 : m.c1 ≡ false
  pub c2 : m.c2 ≡ false

neither : (a b : Bool) → a || b ≡ false → (a ≡ false) × (b ≡ false)
neither true b e = flags_differ e
neither false b e = (refl, e)

-- red, green and blue each read all three
pub rct_unmarked : (m : Pixel Bool) → ((marks_rct m).c0 ≡ false → Unmarked m) × ((marks_rct m).c1 ≡ false → Unmarked m) × ((marks_rct m).c2 ≡ false → Unmarked m)
unfolding marks_rct
rct_unmarked m = (λ e. green (neither _ m.c2 e).0, green, λ e. green (neither _ m.c1 e).0)
  where
    green : m.c0 || (m.c1 || m.c2) ≡ false → Unmarked m
    green e =
        let n = neither m.c0 (m.c1 || m.c2) e in
        let k = neither m.c1 m.c2 n.1 in
        record { c0 = n.0; c1 = k.0; c2 = k.1 }

pub unmarked_rct : {m : Pixel Bool} → Unmarked m → Unmarked (marks_rct m)
unfolding marks_rct
unmarked_rct u = record { c0 = rw (u.c0, u.c1, u.c2); c1 = rw (u.c0, u.c1, u.c2); c2 = rw (u.c0, u.c1, u.c2) }

-- component i behind Annex F, where f is F.3 for values of some kind
abbrev pub coloured_by : {A : Type 0} → (A → A → A → A × A × A) → ℕ → (ℕ → A) → ℕ → A
coloured_by f Cpih v = table_F1 Cpih (f (v 0) (v 1) (v 2)).0 (f (v 0) (v 1) (v 2)).1 (f (v 0) (v 1) (v 2)).2 v

-- values of any kind that are the same where no mark is come out so
pub table_shielded : {A : Type 0} (f : A → A → A → A × A × A) (Cpih : ℕ) (v w : ℕ → A) (m : ℕ → Bool) → (Cpih ≡ 1 → (j : ℕ) → j < 3 → m j ≡ false → v j ≡ w j)
    → (i : ℕ) → (m i ≡ false → v i ≡ w i) → coloured_mark Cpih m i ≡ false → coloured_by f Cpih v i ≡ coloured_by f Cpih w i
unfolding coloured_mark
table_shielded f Cpih v w m given =
    table_keeps (λ a b n. n ≡ false → a ≡ b) v w m Cpih
    (λ one. let n = rct_unmarked marks in (λ e i. (same one (n.0 e) i).0, λ e i. (same one (n.1 e) i).1, λ e i. (same one (n.2 e) i).2))
  where
    marks : Pixel Bool
    marks = record { c0 = m 0; c1 = m 1; c2 = m 2 }

    same : Cpih ≡ 1 → Unmarked marks → f (v 0) (v 1) (v 2) ≡ f (w 0) (w 1) (w 2)
    same one u = λ i. f (given one 0 (omega arith) u.c0 i) (given one 1 (omega arith) u.c1 i) (given one 2 (omega arith) u.c2 i)
