-- What a reading walks is Table B.4's list of packets. Assumes nothing.
use mathlib.Core.Path.{◌≡◌, refl, sym, ap, ◌∙◌}
use mathlib.Core.Bool.{Bool, true, false}
use mathlib.Core.List.{List, [], ◌∷◌, ◌++◌, Memᴰ}
use Prim.Native.Nat.{ℕ, zero, suc, ◌+◌, ◌-◌, ◌<◌}
use native.Mathlib.Omega.{arith}
use lib.ListN.{length}
use Rattle.whole.specs.Numbers.{ceil_div}
use Rattle.layout.specs.Built.{Built}
use Rattle.layout.specs.Precincts.{Npy}
use Rattle.layout.specs.Packets.{Part, turns, loop, when, nonempty, packets}
use Rattle.layout.specs.Slots.{slots, candidates, slot, line_at, line as line_of}
use Rattle.layout.proofs.Packets.{slots_are_packets}
use Rattle.layout.proofs.Present.{slot_lines}
use Rattle.layout.proofs.Members.{Candidate, slot_member, member_slot, true_false}
use Rattle.packets.specs.declared.Setting.{Setting}
use Rattle.packets.specs.declared.Precinct.{Precinct}
use Rattle.packets.specs.Passes.{line}
use Rattle.packets.specs.Packets.{any_line}
use Rattle.packets.specs.Walked.{walked_lines, walked}
use Rattle.packets.proofs.LinePasses.{any_later}
use Rattle.packets.proofs.Flags.{any_there, there_candidate}

-- ---- leaving out the lists that are empty

one_more : {A : Type 0} (t : Bool) (l : List A) (rest : List (List A)) → (t ≡ true → l ≡ [] → ⊥) → (t ≡ false → l ≡ []) → nonempty (l ∷ rest) ≡ when t l ++ nonempty rest
unfolding nonempty
one_more true [] rest full none = absurd (full refl refl)
one_more true (a ∷ more) rest full none = refl
one_more false [] rest full none = refl
one_more false (a ∷ more) rest full none = absurd (omega (arith, ap length (none refl)))

nonempty_turns : {A : Type 0} (n x : ℕ) (f : ℕ → List A) (t : ℕ → Bool) → ((k : ℕ) → t k ≡ true → f k ≡ [] → ⊥) → ((k : ℕ) → t k ≡ false → f k ≡ [])
    → nonempty (turns n x 1 (λ k. f k ∷ [])) ≡ turns n x 1 (λ k. when (t k) (f k))
unfolding turns nonempty
nonempty_turns zero x f t full none = refl
nonempty_turns {A} (suc n) x f t full none =
    one_more (t x) (f x) (turns n (x + 1) 1 (λ k. f k ∷ [])) (full x) (none x)
    ∙ ap (λ (l : List (List A)). when (t x) (f x) ++ l) (nonempty_turns n (x + 1) f t full none)

-- ---- a slot has lines exactly where its packet has

module _ (c : Setting) (p : Precinct) (k : ℕ) where
  any_full : any_line c p k (candidates c.shape k) ≡ true → slot c.shape p.row k ≡ [] → ⊥
  any_full e none =
      let m = member_slot c.shape p.row k (there_candidate c p k (any_there c p k (candidates c.shape k) e)) in
      mathlib.Core.List.Memᴰ.not-nil (rw none at m)

  any_none : any_line c p k (candidates c.shape k) ≡ false → slot c.shape p.row k ≡ []
  unfolding line_at line_of
  any_none e = by (slot c.shape p.row k) refl
    where
      present : {x : Part} (d : Candidate c.shape p.row k x) → (line c p k d.j).present ≡ true
      present d = d.there

      by : (l : List Part) → l ≡ slot c.shape p.row k → l ≡ []
      by [] q = refl
      by (x ∷ l) q =
          let m : Memᴰ x (x ∷ l) = mathlib.Core.List.Memᴰ.head refl in
          let d = slot_member c.shape p.row k x (rw q at m) in
          true_false (sym e ∙ any_later c p k d.j (candidates c.shape k) d.below (present d))

-- ---- the whole

pub walked_lines_lem : (c : Setting) (p : Precinct) (k : ℕ) → walked_lines c p k ≡ slot c.shape p.row k
unfolding walked_lines
walked_lines_lem c p k = sym (slot_lines c.shape p.row p.column k)

-- the packets that are walked are Table B.4's, in its order, each with its lines in its order
pub walked_packets : (c : Setting) (p : Precinct) → Built c.shape → p.row < Npy c.shape → walked c p ≡ packets c.shape p.row
unfolding walked
walked_packets c p built down =
    (λ i. loop 0 (slots c.shape) 1 (λ k. when (any_line c p k (candidates c.shape k)) (walked_lines_lem c p k i)))
    ∙ sym (nonempty_turns (ceil_div (slots c.shape - 0) 1) 0 (slot c.shape p.row) (λ k. any_line c p k (candidates c.shape k)) (any_full c p) (any_none c p))
    ∙ slots_are_packets c.shape p.row built down
