-- Cell locality of a line and of a packet: what it leaves depends on the count cells that it reads alone. Assumes nothing.
use Rattle.std.specs.Prelude.{Ok, Err}
use Prim.Native.Nat.{ℕ, zero, suc, ◌+◌, ◌*◌, ◌/◌, ◌%◌, ◌≤◌, ◌<◌}
use mathlib.Core.Path.{◌≡◌, refl, subst, ◌∙◌}
use mathlib.Core.Bool.{Bool, true, false, cond}
use mathlib.Core.List.{List, ◌++◌}
use native.Mathlib.Omega.{arith}
use lib.IntN.{ℤ}
use lib.ListN.{set}
use Rattle.whole.specs.Cells.{Same}
use Rattle.whole.proofs.Same.{same_set}
use Rattle.loops.specs.Run.{go}
use Rattle.loops.proofs.Follows.{Both, run_both}
use Rattle.rows.specs.Rows.{first, Verdict}
use Rattle.bits.specs.Groups.{Ng, Ncg, nibbles_of, packed, held_m, held_t}
use Rattle.quantiser.specs.Inverse.{coefficient_of, scaled}
use Rattle.layout.specs.Slots.{candidates}
use Rattle.counts.specs.declared.group.Coding.{Coding}
use Rattle.counts.specs.declared.group.Mode.{Mode}
use Rattle.counts.specs.declared.group.Mode.TheVariants.{Raw, NoPrediction, Vertical}
use Rattle.counts.specs.Groups.{Group}
use Rattle.counts.specs.declared.Place.{Place}
use Rattle.counts.specs.Lines.{Line as LineCounts, end as counts_left}
use Rattle.counts.specs.Groups.{unpack_vertical}
use Rattle.counts.specs.Lines.{count_cell, insignificant, above_cell, above, unpack, State, Left, stored, turn, end, line_counts}
use Rattle.values.specs.Group.{sign_bits_of, index}
use Rattle.values.specs.declared.Coding.{Coding as Values}
use Rattle.values.specs.declared.Line.{Line as Valued}
use Rattle.values.specs.declared.Next.{Next}
use Rattle.values.specs.Line.{count_place, M, behind, group_at, placed, index_at, value_at, line_values}
use Rattle.packets.specs.declared.Setting.{Setting}
use Rattle.packets.specs.declared.Precinct.{Precinct}
use Rattle.packets.specs.Precincts.{D}
use Rattle.packets.specs.Passes.{line, marks, coding_of, place_of, Counting, counted, count_turn, packet_counts, values_of, valued, value_turn, packet_values}
use Rattle.packets.specs.Packets.{raw, mark_bytes, count_bytes, data_bytes, sign_bytes, head_checks, count_checks, data_checks, sign_checks, values_by, after_counts, counts_of, counts_by, packet}
use Rattle.packets.proofs.LinePasses.{vertical_odd}

-- ---- the counts of a line: they read the line above, by vertical prediction alone

module _ (P : ℕ → Type 0) (s sig : List ℕ) (k : Coding) (p : Place) (z : ℕ) (over : k.mode ≡ Vertical → (g : ℕ) → g < Ncg p.width → P (above_cell p g)) where
  abbrev SameState : State → State → Type 0
  SameState x y = (x.0 ≡ y.0) × (x.1 ≡ y.1) × Same P x.2 y.2

  abbrev SameLeft : Left → Left → Type 0
  SameLeft x y = (x.0 ≡ y.0) × Same P x.1 y.1

  unpack_same : (m : Mode) (g i : ℕ) (a b : List ℤ) → (m ≡ Vertical → above p g a ≡ above p g b) → unpack m s sig k p z g i a ≡ unpack m s sig k p z g i b
  unfolding unpack
  unpack_same Raw g i a b e = refl
  unpack_same NoPrediction g i a b e = refl
  unpack_same Vertical g i a b e = λ n. unpack_vertical s k (insignificant sig k z g) (held_m (e refl n)) (held_t (e refl n)) i

  stored_same : (to : ℕ) (x y : State) (u : Group) → SameState x y → Both SameState SameLeft (stored k to x u) (stored k to y u)
  stored_same to x y (Ok r) h = (refl, (λ i. h.1 i + nibbles_of r.m k.t k.fs), same_set h.2 to (packed r.m k.t))
  stored_same to x y (Err f) h = (refl, h.2)

  turn_same : (g : ℕ) (x y : State) → g < Ncg p.width → SameState x y → Both SameState SameLeft (turn s sig k p z g x) (turn s sig k p z g y)
  unfolding turn
  turn_same g x y l h =
      let u = unpack k.mode s sig k p z g x.0 x.2 in
      subst (λ (w : Group). Both SameState SameLeft (stored k (count_cell p g) x u) (stored k (count_cell p g) y w))
      ((λ i. unpack k.mode s sig k p z g (h.0 i) x.2) ∙ unpack_same k.mode g y.0 x.2 y.2 (λ v. h.2.cells (above_cell p g) (over v g l)))
      (stored_same (count_cell p g) x y u h)

  pub line_counts_same : (i : ℕ) (a b : List ℤ) → Same P a b → SameLeft (line_counts s sig k p i z a) (line_counts s sig k p i z b)
  unfolding line_counts
  line_counts_same i a b same =
      run_both SameState SameLeft (turn s sig k p z) (turn s sig k p z) end end (Ncg p.width) (λ x y h. ((λ n. Ok (record { next = h.0 n; need = h.1 n })), h.2)) turn_same
      (Ncg p.width) 0 (i, 0, a) (i, 0, b) (omega arith) (refl, refl, same)

-- ---- the values of a line: they read its own counts

module _ {P : ℕ → Type 0} (l : Valued) {a b : List ℤ} (same : Same P a b) (own : (g : ℕ) → g < Ncg l.width → P (count_place l g)) where
  M_same : (g : ℕ) → g < Ncg l.width → M l a g ≡ M l b g
  unfolding M
  M_same g h = λ i. held_m (same.cells (count_place l g) (own g h) i)

  placed_same : (from stride : ℕ) (f f' : ℕ → ℤ) (n : ℕ) → ((x : ℕ) → x < n → f x ≡ f' x) → Same P (placed from stride f n a) (placed from stride f' n b)
  unfolding placed
  placed_same from stride f f' zero e = same
  placed_same from stride f f' (suc x) e =
      subst (λ (v : ℤ). Same P (set (placed from stride f x a) (from + x * stride) (f x)) (set (placed from stride f' x b) (from + x * stride) v)) (e x (omega arith))
      (same_set (placed_same from stride f f' x (λ n h. e n (omega arith))) (from + x * stride) (f x))

  module _ (dat sgn : List ℕ) (how : Values) (from : Next) where
    group_same : (g : ℕ) → g ≤ Ncg l.width → group_at dat how l from a g ≡ group_at dat how l from b g
    unfolding behind
    group_same zero h = refl
    group_same (suc g) h =
        let n = group_same g (omega arith) in
        let m = M_same g (omega arith) in
        λ i. record { at = (n i).at + nibbles_of (m i) l.t how.fs; sign = (n i).sign + sign_bits_of dat how.fs (m i) l.t (n i).at }

    value_same : (x : ℕ) → x < l.width → value_at dat sgn how l from a x ≡ value_at dat sgn how l from b x
    unfolding value_at index_at
    value_same x h =
        let m = M_same (x / Ng) (omega arith) in
        let n = group_same (x / Ng) (omega arith) in
        λ i. scaled how.fq (coefficient_of how.uniform (m i) l.t (index dat how.fs (m i) l.t (n i).at sgn (n i).sign (x % Ng)))

    pub line_values_same : ((line_values dat sgn how l from a).0 ≡ (line_values dat sgn how l from b).0) × Same P (line_values dat sgn how l from a).1 (line_values dat sgn how l from b).1
    unfolding line_values
    line_values_same = (
      group_same (Ncg l.width) (omega arith),
      placed_same l.first l.stride (value_at dat sgn how l from a) (value_at dat sgn how l from b) l.width value_same,
    )

-- ---- a packet

-- the cells that its lines read are of a kind: the count cells of its lines and, by vertical prediction, those of the lines above
pub record Reaches (P : ℕ → Type 0) (s : List ℕ) (c : Setting) (p : Precinct) (slot : ℕ) : Type 0 where
  pub counts : (j : ℕ) → j < candidates c.shape slot → (line c p slot j).present ≡ true → (g : ℕ) → Ng * g < (line c p slot j).width
      → P (count_cell (place_of (line c p slot j)) g)
  pub over : (j : ℕ) → j < candidates c.shape slot → (line c p slot j).present ≡ true → D s c p (line c p slot j).band % 2 ≡ 1 → (g : ℕ) → Ng * g < (line c p slot j).width
      → P (above_cell (place_of (line c p slot j)) g)

module _ {P : ℕ → Type 0} (s : List ℕ) (c : Setting) (p : Precinct) (slot : ℕ) (reach : Reaches P s c p slot) where
  abbrev Results : {A : Type 0} → A × List ℤ → A × List ℤ → Type 0
  Results x y = (x.0 ≡ y.0) × Same P x.1 y.1

  abbrev SameCounting : Counting → Counting → Type 0
  SameCounting x y = (x.0 ≡ y.0) × (x.1 ≡ y.1) × Same P x.2 y.2

  counted_same : (n m : ℕ) (x y : LineCounts) (a b : List ℤ) → n ≡ m → x ≡ y → Same P a b → Both SameCounting (Results {A = LineCounts}) (counted n (x, a)) (counted m (y, b))
  counted_same n m x y a b e f same = subst (λ (w : LineCounts). Both SameCounting (Results {A = LineCounts}) (counted n (x, a)) (counted m (w, b))) f (by x)
    where
      by : (x : LineCounts) → Both SameCounting (Results {A = LineCounts}) (counted n (x, a)) (counted m (x, b))
      by (Ok k) = (refl, (λ i. e i + k.need), same)
      by (Err f) = (refl, same)

  packet_counts_same : (cnt sig : List ℕ) (raw : Bool) (a b : List ℤ) → Same P a b → Results (packet_counts s c p slot cnt sig raw a) (packet_counts s c p slot cnt sig raw b)
  unfolding packet_counts count_turn
  packet_counts_same cnt sig raw a b same =
      run_both SameCounting (Results {A = LineCounts}) (count_turn s c p slot cnt sig raw) (count_turn s c p slot cnt sig raw) counts_left counts_left
      (candidates c.shape slot) (λ x y h. ((λ n. Ok (record { next = h.0 n; need = h.1 n })), h.2)) (λ j x y l h. by j x y l h (line c p slot j).present refl) (candidates c.shape slot) 0 (0, 0, a) (0, 0, b)
      (omega arith) (refl, refl, same)
    where
      here : ℕ → ℕ → List ℤ → LineCounts × List ℤ
      here j at cells = line_counts cnt sig (coding_of s c p raw (line c p slot j).band) (place_of (line c p slot j)) at (marks s c p slot raw j) cells

      by : (j : ℕ) (x y : Counting) → j < candidates c.shape slot → SameCounting x y → (e : Bool) → (line c p slot j).present ≡ e
          → Both SameCounting (Results {A = LineCounts}) (cond e (counted x.1 (here j x.0 x.2)) (go x)) (cond e (counted y.1 (here j y.0 y.2)) (go y))
      by j x y l h true e =
          let q = line_counts_same P cnt sig (coding_of s c p raw (line c p slot j).band) (place_of (line c p slot j)) (marks s c p slot raw j)
          (λ v g m. reach.over j l e (vertical_odd raw (D s c p (line c p slot j).band) v) g (omega arith)) x.0 x.2 y.2 h.2 in
          subst (λ (n : ℕ). Both SameCounting (Results {A = LineCounts}) (counted x.1 (here j x.0 x.2)) (counted y.1 (here j n y.2))) h.0
          (counted_same x.1 y.1 (here j x.0 x.2).0 (here j x.0 y.2).0 (here j x.0 x.2).1 (here j x.0 y.2).1 h.1 q.0 q.1)
      by j x y l h false e = h

  packet_values_same : (dat sgn : List ℕ) (a b : List ℤ) → Same P a b → Results (packet_values c p slot dat sgn a) (packet_values c p slot dat sgn b)
  unfolding packet_values value_turn
  packet_values_same dat sgn a b same =
      run_both (Results {A = Next}) (Results {A = Next}) (value_turn c p slot dat sgn) (value_turn c p slot dat sgn) (λ x. x) (λ x. x)
      (candidates c.shape slot) (λ x y h. h) (λ j x y l h. by j x y l h (line c p slot j).present refl) (candidates c.shape slot) 0 (record { at = 0; sign = 0 }, a) (record { at = 0; sign = 0 }, b)
      (omega arith) (refl, same)
    where
      here : ℕ → Next → List ℤ → Next × List ℤ
      here j from cells = line_values dat sgn (values_of c) (valued c p (line c p slot j)) from cells

      by : (j : ℕ) (x y : Next × List ℤ) → j < candidates c.shape slot → Results x y → (e : Bool) → (line c p slot j).present ≡ e
          → Results (cond e (here j x.0 x.1) x) (cond e (here j y.0 y.1) y)
      by j x y l h true e =
          subst (λ (n : Next). Results (here j x.0 x.1) (here j n y.1)) h.0
          (line_values_same (valued c p (line c p slot j)) h.1 (λ g m. reach.counts j l e g (omega arith)) dat sgn (values_of c) x.0)
      by j x y l h false e = h

  module _ (at : ℕ) where
    by_values : (v : Verdict) (a b : List ℤ) → Same P a b → Results (values_by s c p slot at v a) (values_by s c p slot at v b)
    by_values (Ok _) a b same =
        let q = packet_values_same (data_bytes s c p slot at) (sign_bytes s c p slot at) a b same in
        ((λ i. first (sign_checks s c p slot at (q.0 i).sign)), q.1)
    by_values (Err k) a b same = (refl, same)

    by_counts : (v : Verdict) (a b : List ℤ) → Same P a b → Results (counts_by s c p slot at v a) (counts_by s c p slot at v b)
    by_counts (Ok _) a b same =
        let q = packet_counts_same (count_bytes s c p slot at) (mark_bytes s c p slot at) (raw s c p slot at) a b same in
        let x = counts_of s c p slot at a in
        let y = counts_of s c p slot at b in
        subst (λ (w : LineCounts). Results (after_counts s c p slot at x) (after_counts s c p slot at (w, y.1))) q.0
        (by_values (first (count_checks s c p slot at x.0 ++ data_checks s c p slot at x.0)) x.1 y.1 q.1)
    by_counts (Err k) a b same = (refl, same)

    -- a packet whose cells agree where its lines read leaves one verdict, accepted or refused, and cells that agree
    pub packet_same : (raws : List ℕ) (a b : List ℤ) → Same P a b → Results (packet s c p slot at raws a) (packet s c p slot at raws b)
    unfolding packet
    packet_same raws a b same = by_counts (first (head_checks s c p slot at raws)) a b same
