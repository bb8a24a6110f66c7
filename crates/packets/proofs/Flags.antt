-- C.3's rule of the raw flags, as the code has it by the number of the slot. Assumes nothing.
use mathlib.Core.Path.{◌≡◌, refl, sym, ap, ◌∙◌}
use mathlib.Core.Bool.{Bool, true, false, not, cond, ◌&&◌, ◌||◌}
use mathlib.Core.List.{List, [], ◌∷◌}
use mathlib.Core.Logic.{◌⊎◌, inl, inr}
use Prim.Native.Nat.{ℕ, zero, suc, ◌+◌, ◌*◌, ◌-◌, ◌/◌, ◌%◌, ◌≤◌, ◌<◌}
use native.Mathlib.Decide.{dec_lt}
use native.Mathlib.Omega.{arith}
use borrow.Author.Tests.{le-ltb, lt-leb, le-leb}
use lib.Dec.{leb}
use lib.ListN.{get_or}
use Rattle.rows.specs.Rows.{check, first, each, Fine}
use Rattle.rows.specs.declared.Check.{Check}
use Rattle.rows.specs.declared.Row.TheVariants.{Mode}
use Rattle.rows.specs.declared.Field.TheVariants.{Dr}
use Rattle.rows.proofs.Tables.{each_all, each_same}
use Rattle.bits.proofs.Laws.{field_lt}
use Rattle.layout.specs.Packets.{Part, part}
use Rattle.layout.specs.Precincts.{L0}
use Rattle.layout.specs.Slots.{slot_type, slot_line, candidates, line as candidate_line, line_at, sharing}
use Rattle.layout.proofs.Members.{Candidate, true_false}
use Rattle.layout.proofs.Shared.{shared_slot, slot_shared}
use Rattle.packets.specs.declared.Setting.{Setting}
use Rattle.packets.specs.declared.Precinct.{Precinct}
use Rattle.packets.specs.Passes.{line}
use Rattle.packets.specs.Packets.{any_line, head, flag_checks}
use Rattle.packets.specs.Ready.{Slotted}
use Rattle.packets.specs.Steps.{first_bound, bound_flag}

-- ---- a packet that is not empty has a candidate that is there

pub record Line_there (c : Setting) (p : Precinct) (slot n : ℕ) : Type 0 where
  pub j : ℕ
  pub below : j < n
  pub present : (line c p slot j).present ≡ true

pub any_there : (c : Setting) (p : Precinct) (slot n : ℕ) → any_line c p slot n ≡ true → Line_there c p slot n
unfolding any_line
any_there c p slot zero e = true_false e
any_there c p slot (suc n) e = by (any_line c p slot n) refl e (any_there c p slot n)
  where
    by : (t : Bool) → t ≡ any_line c p slot n → (t || (line c p slot n).present) ≡ true → (any_line c p slot n ≡ true → Line_there c p slot n) → Line_there c p slot (suc n)
    by true q e later =
        let l = later (sym q) in
        record { j = l.j; below = omega (arith, l.below); present = l.present }
    by false q e later = record { j = n; below = omega arith; present = e }

-- the part of Table B.4 that it is
abbrev pub part_at : Setting → ℕ → ℕ → Part
part_at c slot j =
    part c.shape (slot_type c.shape slot + j / c.shape.nc) (j % c.shape.nc)
    (slot_line slot + L0 c.shape (slot_type c.shape slot + j / c.shape.nc) (j % c.shape.nc))

pub there_candidate : (c : Setting) (p : Precinct) (slot : ℕ) (l : Line_there c p slot (candidates c.shape slot)) → Candidate c.shape p.row slot (part_at c slot l.j)
unfolding line_at candidate_line
there_candidate c p slot l = record { j = l.j; below = l.below; there = l.present; is = refl }

-- ---- the flag

module _ (s : List ℕ) (c : Setting) (p : Precinct) (slot at : ℕ) (slotted : Slotted c p slot) (any : any_line c p slot (candidates c.shape slot) ≡ true) (raws : List ℕ) where
  abbrev dr : ℕ
  dr = (head s c p slot at).dr

  abbrev flag_like : ℕ → Check
  flag_like k = check Mode at Dr dr (get_or raws k 0) (get_or raws k 0)

  abbrev flag_of : ℕ → List Check
  flag_of k = cond (sharing c.shape p.row slot k) (flag_like k ∷ []) []

  free : first (check Mode at Dr dr 0 1 ∷ []) ≡ Fine
  free = rw (le-ltb dr 0 (omega arith), le-ltb 1 dr (omega (arith, field_lt s (8 * at) 1)))

  -- below the first such slot no earlier packet shares a band
  none_shared : slot < first_bound → first (each slot flag_of) ≡ Fine
  none_shared l = each_all slot flag_of (λ k h. by k h (sharing c.shape p.row slot k) refl)
    where
      by : (k : ℕ) → k < slot → (t : Bool) → t ≡ sharing c.shape p.row slot k → first (cond t (flag_like k ∷ []) []) ≡ Fine
      by k h true e = absurd (omega (arith, (shared_slot c.shape slotted.settled.shape p.row slot slotted.which k h (sym e)).0))
      by k h false e = refl

  -- from it on slot − 3 does, and no other
  one_shared : first_bound ≤ slot → first (each slot flag_of) ≡ first (flag_like (slot - 3) ∷ [])
  one_shared l =
      each_same slot flag_of (slot - 3) (omega arith) (λ k h. by k h (sharing c.shape p.row slot k) refl)
      ∙ (λ i. first (cond (shared i) (flag_like (slot - 3) ∷ []) []))
    where
      shared : sharing c.shape p.row slot (slot - 3) ≡ true
      shared =
          slot_shared c.shape slotted.settled.shape p.row slot slotted.which (omega arith)
          (there_candidate c p slot (any_there c p slot (candidates c.shape slot) any))

      by : (k : ℕ) → k < slot → (t : Bool) → t ≡ sharing c.shape p.row slot k
          → (first (cond t (flag_like k ∷ []) []) ≡ Fine) ⊎ (first (cond t (flag_like k ∷ []) []) ≡ first (flag_of (slot - 3)))
      by k h true e =
          let q : k ≡ slot - 3 = (shared_slot c.shape slotted.settled.shape p.row slot slotted.which k h (sym e)).1 in
          inr ((λ i. first (cond (e i) (flag_like k ∷ []) [])) ∙ ap (λ (m : ℕ). first (flag_of m)) q)
      by k h false e = inl refl

  -- C.3's rule for a packet that has lines, where Rl = 0
  pub flags_table : first (check Mode at Dr dr (bound_flag c slot raws 0) (bound_flag c slot raws 1) ∷ []) ≡ first (flag_checks s c p slot at raws)
  unfolding flag_checks
  flags_table = by c.rl (dec_lt slot first_bound)
    where
      by : (rl : Bool) → Dec (slot < first_bound)
          → first (check Mode at Dr dr (cond (not rl && leb first_bound slot) (get_or raws (slot - 3) 0) 0) (cond (not rl && leb first_bound slot) (get_or raws (slot - 3) 0) 1) ∷ [])
          ≡ first (cond rl [] (each slot flag_of))
      by true d = free
      by false (yes l) = rw (lt-leb first_bound slot l) (free ∙ sym (none_shared l))
      by false (no n) = rw (le-leb first_bound slot (omega arith)) (sym (one_shared (omega arith)))
