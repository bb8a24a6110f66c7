-- Filling cells with numbers: one turn more of a loop; no two turns of any of the loops share a cell; and behind all of them each coefficient's cell holds its
-- own number. Assumes nothing.
use mathlib.Core.Path.{◌≡◌, refl, sym, ap, ◌∙◌}
use mathlib.Core.List.{List}
use Prim.Native.Nat.{ℕ, ◌+◌, ◌/◌, ◌^◌, ◌≤◌, ◌<◌}
use native.Mathlib.Nat.{lt_of_lt_of_le}
use native.Mathlib.Omega.{arith}
use lib.IntN.{ℤ, pos}
use lib.Pow.{pow_mono}
use Rattle.whole.specs.Cells.{cell}
use Rattle.whole.proofs.Filling.{onto_turn, onto_none}
use Rattle.quantiser.proofs.Laws.{band_small}
use Rattle.wavelet.specs.Transform.{Kind}
use Rattle.layout.specs.Bands.{band}
use Rattle.layout.specs.Precincts.{Npx, Np, slices, slice_top}
use Rattle.layout.specs.Cells.{area, start, cell as place}
use Rattle.layout.specs.Slots.{slots, candidates}
use Rattle.layout.proofs.Cells.{Exists, cell_inside}
use Rattle.packets.specs.declared.Setting.{Setting}
use Rattle.packets.specs.declared.Precinct.{Precinct}
use Rattle.packets.specs.Precincts.{T}
use Rattle.packets.specs.Ready.{Settled}
use Rattle.packets.proofs.LinePasses.{T_most}
use Rattle.packets.proofs.Addresses.{There, SameLine, same_line, part_below, there_exists, there_cell}
use Rattle.slices.specs.Precinct.{precinct_at}
use Rattle.slices.specs.Slice.{row_of, column_in}
use Rattle.slices.specs.Walk.{walk_has, precinct_place}
use Rattle.slices.proofs.SliceLaws.{row_inside, column_inside}
use Rattle.slices.proofs.Coefficients.{same_number, number_is, own_slice, own_number as own_precinct, own_place, own_line}
use Rattle.distances.proofs.Types.{type_exists, type_cell}
use Rattle.places.specs.Own.{truncation_at, own_number}
use Rattle.places.specs.Steps.{Filled}
use Rattle.places.specs.Writes.{Writes, first, Written, number_in, line_writes, slot_writes, precinct_writes, precincts_of, slices_of, stream_writes}

-- ---- a line's number

-- T is at most 31
pub number_small : (c : Setting) (p : Precinct) (b : ℕ) → Settled c → {k : ℕ} → 31 + c.fq ≤ k → number_in c p b < 2 ^ k
number_small c p b settled {k} most =
    lt_of_lt_of_le (band_small (T c p b) c.fq) (pow_mono {i = T c p b + c.fq} {j = k} (omega (arith, T_most c p b settled, most)))

-- ---- a loop, each of whose turns writes

module _ {I : Type 0} (w : ℕ → Writes I) {x : List ℤ} where
  pub none_written : Written (first 0 w) x x
  none_written = onto_none (λ q h. absurd (omega (arith, h.0)))

  pub all_written : {y : List ℤ} {n m : ℕ} → n ≡ m → Written (first n w) x y → Written (first m w) x y
  all_written e h = rw (← e) h

  -- turn m writes too. No cell is of two turns
  pub next_written : {y z : List ℤ} (m : ℕ) → ((g h : ℕ) (a b : I) → g < m + 1 → h < m + 1 → (w g).Has a → (w h).Has b → (w g).cell a ≡ (w h).cell b → g ≡ h)
      → Written (first m w) x y → Written (w m) y z → Written (first (m + 1) w) x z
  next_written m apart =
      onto_turn {I = ℕ × I} {turn = λ q. q.0} {f = m} {n = 1}
      (record {
        apart = λ q r a b e. apart q.0 r.0 q.1 r.1 a.0 b.0 a.1 b.1 e;
        more = λ q a. (omega (arith, a.0), a.1);
        spot = λ j. (m, j);
        one = λ j b. ((omega arith, b), omega arith, omega arith);
        there = λ j b. refl;
        value = λ j b. refl;
        all = λ q a l u.
            let e : q.0 ≡ m = omega arith in
            (q.1, rw e at a.1, λ i. (sym e i, q.1));
        low = λ q a l. ((l, a.1), refl);
        high = λ q a l. absurd (omega (arith, a.0));
      })

-- ---- no two turns share a cell

module _ (c : Setting) (settled : Settled c) where
  -- the line of a coefficient that a precinct has
  there : (p : Precinct) → p.column < Npx c.shape → (q : ℕ × (ℕ × ℕ)) → (precinct_writes c p).Has q → There c.shape p.row p.column q.0 q.1.0
  there p across q h = record { across = across; which = h.0; candidate = h.1.0; present = h.1.1.0 }

  -- a cell tells its line
  same : (p p' : Precinct) → p.column < Npx c.shape → p'.column < Npx c.shape → (q r : ℕ × (ℕ × ℕ)) → (precinct_writes c p).Has q → (precinct_writes c p').Has r
      → (precinct_writes c p).cell q ≡ (precinct_writes c p').cell r → SameLine p.row p'.row p.column p'.column q.0 r.0 q.1.0 r.1.0
  same p p' across across' q r a b e =
      same_line c.shape settled.shape (there p across q a) (there p' across' r b) q.1.1 r.1.1 a.1.1.1 b.1.1.1 e

  -- the candidates of a slot, and the slots of a precinct
  module _ (p : Precinct) (across : p.column < Npx c.shape) {x y z : List ℤ} where
    pub next_candidate : {slot : ℕ} → slot < slots c.shape → (j : ℕ) → j < candidates c.shape slot
        → Written (first j (line_writes c p slot)) x y → Written (line_writes c p slot j) y z → Written (first (j + 1) (line_writes c p slot)) x z
    next_candidate {slot} which j l =
        next_written (line_writes c p slot) j
        (λ g h a b u v has has' e. (same p p across across (slot, (g, a)) (slot, (h, b)) (which, (omega arith, has)) (which, (omega arith, has')) e).candidates)

    pub next_slot : (k : ℕ) → k < slots c.shape
        → Written (first k (slot_writes c p)) x y → Written (slot_writes c p k) y z → Written (first (k + 1) (slot_writes c p)) x z
    next_slot k l =
        next_written (slot_writes c p) k (λ g h a b u v has has' e. (same p p across across (g, a) (h, b) (omega arith, has) (omega arith, has') e).slots)

-- ---- the precincts of a slice, and the slices of a stream

module _ (s : List ℕ) (c : Setting) (settled : Settled c) {x y z : List ℤ} where
  pub next_precinct : (t : ℕ) → t < slices c.shape → (at n : ℕ) → n < Np c.shape t
      → Written (first n (precincts_of s c t at)) x y → Written (precincts_of s c t at n) y z → Written (first (n + 1) (precincts_of s c t at)) x z
  next_precinct t h at n l =
      next_written (precincts_of s c t at) n
      (λ g k a b u v has has' e.
      let across : (n : ℕ) → n < Np c.shape t → column_in s c t n < Npx c.shape = column_inside c.shape settled.shape t h in
      let p : ℕ → Precinct = λ n. precinct_at s c (row_of s c t n) (column_in s c t n) (precinct_place s c at n) in
      let q = same c settled (p g) (p k) (across g (omega arith)) (across k (omega arith)) a b has has' e in
      same_number (Npx c.shape) g k (slice_top c.shape t) q.rows q.columns)

  pub next_slice : (at t : ℕ) → t < slices c.shape
      → Written (first t (slices_of s c at)) x y → Written (slices_of s c at t) y z → Written (first (t + 1) (slices_of s c at)) x z
  next_slice at t l =
      next_written (slices_of s c at) t
      (λ g k a b u v has has' e.
      let q =
      same c settled (walk_has s c at g a.0) (walk_has s c at k b.0) (column_inside c.shape settled.shape g (omega arith) a.0 has.0)
      (column_inside c.shape settled.shape k (omega arith) b.0 has'.0) a.1 b.1 has.1 has'.1 e in
      sym (row_inside c.shape settled.shape g (omega arith) a.0 has.0).1 ∙ ap (λ (r : ℕ). r / c.shape.hsl) q.rows
      ∙ (row_inside c.shape settled.shape k (omega arith) b.0 has'.0).1)

-- ---- each coefficient has its number

-- which is small, whatever the stream says
pub own_small : (s : List ℕ) (c : Setting) → Settled c → {n : ℕ} → 31 + c.fq ≤ n → (at i : ℕ) (k : Kind) (dx dy x y : ℕ) → own_number s c at i k dx dy x y < 2 ^ n
unfolding truncation_at
own_small s c settled most at i k dx dy x y = number_small c _ _ settled most

module _ (s : List ℕ) (c : Setting) (settled : Settled c) (at : ℕ) {l l' : List ℤ} (w : Written (stream_writes s c at) l l') where
  -- that of the precinct to which B.5 and B.11 give it
  own_written : {i β x y : ℕ} → i < c.shape.nc → Exists c.shape i β x y
      → cell l' (place c.shape β i x y) ≡ pos (number_in c (walk_has s c at (own_slice c i β x y) (own_precinct c i β x y)) (band c.shape β i))
  own_written {i} {β} {x} {y} h e =
      let t = own_slice c i β x y in
      let n = own_precinct c i β x y in
      let number = number_is s c settled h e in
      let line = own_line s c settled h e in
      ap (cell l') (sym line.coefficient)
      ∙ w.on (t, (n, (line.slot, (line.j, own_place s c settled h e))))
      (number.slice, (number.precinct, (line.there.which, (line.there.candidate, (line.there.present, line.inside)))))
      ∙ ap (λ (b : ℕ). pos (number_in c (walk_has s c at t n) b)) line.band

  -- a cell that is written is a coefficient's
  no_other : (n : ℕ) → ((i : ℕ) → i < c.shape.nc → start c.shape i ≤ n → start c.shape i + area c.shape i ≤ n)
      → (q : ℕ × (ℕ × (ℕ × (ℕ × ℕ)))) → (stream_writes s c at).Has q → n ≡ (stream_writes s c at).cell q → ⊥
  no_other n far q h e =
      let built = settled.shape in
      let across = column_inside c.shape built q.0 h.0 q.1.0 h.1.0 in
      let a = there c settled (walk_has s c at q.0 q.1.0) across q.1.1 h.1.1 in
      let x = q.1.1.1.1 in
      let inside = h.1.1.1.1.1 in
      let at_cell = there_cell c.shape built a x inside in
      let i = part_below c.shape built a in
      omega (arith, far _ i (omega (arith, at_cell, e)), at_cell, e, cell_inside c.shape built _ i (there_exists c.shape built a x inside))

  pub filled : Filled s c at l l'
  unfolding truncation_at
  filled =
      record {
        same = w.same;
        number = λ i h k dx dy x y d.
            ap (λ (n : ℕ). cell l' (start c.shape i + n)) (sym (type_cell c.shape settled.shape i h k dx dy d))
            ∙ own_written h (type_exists c.shape settled.shape i h k dx dy d);
        other = λ n far. w.off n (no_other n far);
      }
