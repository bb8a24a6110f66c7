-- Marked samples, whose distances are written over component by component. Assumes nothing.
use mathlib.Core.Path.{◌≡◌, refl, sym, ap, ap₂, ◌∙◌}
use mathlib.Core.List.{List, ◌++◌, append_assoc}
use Prim.Native.Nat.{ℕ, ◌+◌, ◌*◌, ◌-◌, ◌/◌, ◌%◌, ◌≤◌, ◌<◌}
use native.Mathlib.Nat.{div-add-mod'}
use native.Mathlib.Numerals.{add-one}
use native.Mathlib.Omega.{arith}
use lib.ListN.{length, take, drop, get_or}
use lib.Seq.{drop-drop}
use Rattle.whole.specs.Cells.{map_at}
use Rattle.whole.proofs.Lists.{listed_same}
use Rattle.whole.proofs.Passes.{map_at_length, map_at_at}
use Rattle.output.specs.Linear.{lost_distance}
use Rattle.layout.specs.declared.Shape.{Shape}
use Rattle.layout.specs.Bands.{Wc, Hc}
use Rattle.layout.specs.Cells.{area, samples}
use Rattle.layout.proofs.Cells.{starts_up}
use Rattle.planes.specs.Values.{plane, in_planes}
use Rattle.planes.specs.Marks.{marked_distances}
use Rattle.planes.specs.Components.{with_plane}
use Rattle.planes.proofs.Parts.{between, part_length, part_at, back_off}
use Rattle.planes.proofs.Planes.{plane_length, plane_made, plane_back, Written, written_none, written_more}

-- ---- one component

module _ (s : Shape) {i : ℕ} (there : i < s.nc) (marks out : List ℕ) (marks_long : length marks ≡ samples s s.nc) (long : length out ≡ samples s s.nc) where
  ends : samples s i + area s i ≤ samples s s.nc
  ends = omega (arith, starts_up s i s.nc there)

  abbrev part : List ℕ → List ℕ
  part l = take (area s i) (drop (samples s i) l)

  -- what its marks make of its distances
  lost_is : (B : ℕ) → map_at (λ n d. lost_distance B (get_or (part marks) n 0) d) (part out) ≡ plane (Wc s i) (Hc s i) (marked_distances s (λ _. B) marks out i)
  lost_is B =
      plane_made s i (marked_distances s (λ _. B) marks out i) 0 (map_at g (part out)) (map_at_length g (part out) ∙ part_length (samples s i) (area s i) out (omega (arith, ends)))
      (λ j h. map_at_at g (part out) j 0 (omega (arith, part_length (samples s i) (area s i) out (omega (arith, ends))))
      ∙ ap₂ (lost_distance B) (at marks marks_long j h) (at out long j h))
    where
      g : ℕ → ℕ → ℕ
      g n d = lost_distance B (get_or (part marks) n 0) d

      at : (l : List ℕ) → length l ≡ samples s s.nc → (j : ℕ) → j < area s i → get_or (part l) j 0 ≡ in_planes s l i (j % Wc s i) (j / Wc s i)
      at l e j h =
          part_at (samples s i) (area s i) l (omega (arith, ends)) 0 j h
          ∙ ap (λ (n : ℕ). get_or l (samples s i + n) 0) (sym (div-add-mod' j (Wc s i)))

  -- given back, as the code has it
  pub lost_given : (B : ℕ) {b n : ℕ} → b ≡ samples s i → n ≡ area s i → {ys : List ℕ}
      → ys ≡ map_at (λ k d. lost_distance B (get_or (take (b + n - b) (drop b marks)) k 0) d) (take (b + n - b) (drop b out))
      → take b out ++ (ys ++ drop (b + n - b) (drop b out)) ≡ with_plane s i (marked_distances s (λ _. B) marks out i) out
  lost_given B {b} {n} before size e = plane_back s i (marked_distances s (λ _. B) marks out i) out before size ((rw (between b n, before, size) at e) ∙ lost_is B)

-- ---- the first k components are written, the others are as they were
pub record LostFirst (s : Shape) (B : ℕ → ℕ) (marks first : List ℕ) (k : ℕ) (out : List ℕ) : Type 0 where
  pub written : Written s (marked_distances s B marks first) k out
  pub rest : (n : ℕ) → samples s k ≤ n → get_or out n 0 ≡ get_or first n 0

pub lost_none : {s : Shape} {B : ℕ → ℕ} {marks out : List ℕ} → length out ≡ samples s s.nc → LostFirst s B marks out 0 out
lost_none e = record { written = written_none e; rest = λ n h. refl }

pub lost_more : {s : Shape} {B : ℕ → ℕ} {marks first : List ℕ} {k : ℕ} {out out' : List ℕ} → LostFirst s B marks first k out → k < s.nc
    → out' ≡ with_plane s k (marked_distances s (λ _. B k) marks out k) out → LostFirst s B marks first (k + 1) out'
unfolding samples
lost_more {s} {B} {marks} {first} {k} {out} {out'} l there e =
    record {
      written = written_more l.written there (e ∙ ap (λ (p : List ℕ). take (samples s k) out ++ p ++ drop (samples s k + area s k) out) own);
      rest = λ n h. behind n (rw add-one at h);
    }
  where
    new : List ℕ
    new = plane (Wc s k) (Hc s k) (marked_distances s (λ _. B k) marks out k)

    own : new ≡ plane (Wc s k) (Hc s k) (marked_distances s B marks first k)
    own = listed_same (Hc s k * Wc s k) _ _ (λ j _. ap (lost_distance (B k) (in_planes s marks k (j % Wc s k) (j / Wc s k))) (l.rest _ (omega arith)))

    behind : (n : ℕ) → samples s k + area s k ≤ n → get_or out' n 0 ≡ get_or first n 0
    behind n h =
        ap (λ (o : List ℕ). get_or o n 0) (e ∙ append_assoc (take (samples s k) out) new (drop (samples s k + area s k) out)
        ∙ ap (λ (o : List ℕ). take (samples s k) out ++ (new ++ o)) (sym (drop-drop (area s k) (samples s k) out)))
        ∙ back_off (samples s k) (area s k) out (omega (arith, l.written.long, starts_up s k s.nc there)) new (plane_length s k (marked_distances s (λ _. B k) marks out k)) 0 n (λ _. h)
        ∙ l.rest n (omega arith)
