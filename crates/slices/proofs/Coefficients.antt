-- What an accepted slice leaves: every coefficient of its bands, by the quantiser and the T of its own precinct. It stays so behind steps that keep what other
-- slices have left; and so an accepted stream leaves every coefficient. Assumes nothing.
use Prim.Native.Nat.{ℕ, zero, suc, ◌+◌, ◌-◌, ◌*◌, ◌/◌, ◌%◌, ◌≤◌, ◌<◌}
use mathlib.Core.Path.{◌≡◌, refl, sym, ap, ◌∙◌}
use mathlib.Core.List.{List}
use native.Mathlib.Nat.{div-add-mod'}
use native.Mathlib.Decide.{ℕ_discrete, dec_lt}
use native.Mathlib.Numerals.{add-one}
use native.Mathlib.Omega.{arith}
use lib.IntN.{ℤ}
use lib.ListN.{length, get_or}
use Rattle.whole.specs.Cells.{cell}
use Rattle.loops.specs.Before.{before}
use Rattle.loops.proofs.Before.{before_carries}
use Rattle.rows.specs.Rows.{Fine}
use Rattle.layout.specs.Bands.{NL, band}
use Rattle.layout.specs.Precincts.{Npx, Np, slices, slice_top, first_x, Member, row_with, slice_with, column_with, number_with}
use Rattle.layout.specs.Cells.{start, cell as place}
use Rattle.layout.proofs.Cells.{Exists}
use Rattle.layout.proofs.Cover.{row_of_lem, row_below, column_of, column_below}
use Rattle.packets.specs.declared.Setting.{Setting}
use Rattle.packets.specs.declared.Precinct.{Precinct}
use Rattle.packets.specs.Ready.{Settled}
use Rattle.packets.proofs.Addresses.{Addressed}
use Rattle.packets.proofs.Lines.{band_below}
use Rattle.slices.specs.Precinct.{raised}
use Rattle.slices.specs.Slice.{State, Left, slice_header_bytes, row_of, column_in, is_top, precinct_turn, slice}
use Rattle.slices.specs.Stream.{stream}
use Rattle.slices.specs.Reached.{before_precinct, slice_has, slice_reads, slice_planes, slice_index, before_slice}
use Rattle.slices.proofs.SliceLaws.{row_inside, column_inside, Numbered, numbered}
use Rattle.slices.proofs.Laws.{FarFrom, precinct_length, slice_length, slice_tops_length, slice_tops_up, slice_other, raised_length}
use Rattle.slices.proofs.Reaching.{slice_precinct, slice_left, stream_slice}
use Rattle.slices.proofs.PrecinctCoefficients.{count_of, Stored, stored_still, address, precinct_coefficients, precinct_leaves, far_coefficient, far_count}

-- the number of a precinct in its slice is told by its row and column
pub same_number : (N n g top : ℕ) → top + n / N ≡ top + g / N → n % N ≡ g % N → n ≡ g
same_number N n g top e f =
    let q : n / N ≡ g / N = omega arith in
    sym (div-add-mod' n N) ∙ (λ i. q i * N + f i) ∙ div-add-mod' g N

-- ---- slice t, whose header stands at the state's place, and coefficient (x, y) of filter type β of component i

module _ (s : List ℕ) (c : Setting) (settled : Settled c) {i β x y : ℕ} (h : i < c.shape.nc) (e : Exists c.shape i β x y)
    (t : ℕ) (l : t < slices c.shape) (from : State) (long : NL c.shape ≤ length from.1) where
  -- an accepted slice leaves it where it belongs to precinct n of the slice
  module _ (room : start c.shape c.shape.nc ≤ length from.2) (fine : (slice s c t from).0 ≡ Fine)
      (n : ℕ) (k : n < Np c.shape t) (m : Member c.shape (row_of s c t n) (column_in s c t n) β i x y) where
    -- its line, and its place there
    abbrev A : Addressed c.shape (row_of s c t n) (column_in s c t n) i β x y (x - first_x c.shape (column_in s c t n) β i)
    A = address c settled h e m

    abbrev ξ : ℕ
    ξ = x - first_x c.shape (column_in s c t n) β i

    abbrev InSlice : ℕ → State → Type 0
    InSlice g z =
        (length z.2 ≡ length from.2) × (length z.1 ≡ length from.1) × (n < g → Stored c (slice_has s c from t n) (slice_planes s c from t n A.slot A.j (ξ / 4)) (slice_index s c from t n A.slot A.j ξ) z.1 z.2 i β x y)

    precinct_carries : (g : ℕ) → g < Np c.shape t → InSlice g (before_precinct s c from t g) → InSlice (g + 1) (before_precinct s c from t (g + 1))
    precinct_carries g w q =
        let r = slice_precinct s c t from fine g w in
        rw r.next (
          precinct_length s c (row_of s c t g) (column_in s c t g) (before_precinct s c from t g).0 (is_top s c t g) (before_precinct s c from t g).2 ∙ q.0,
          raised_length c (slice_has s c from t g) (NL c.shape) (before_precinct s c from t g).1 ∙ q.1,
          pick r.accepted (dec_lt n g),
        )
      where
        pick : (slice_reads s c from t g).0 ≡ Fine → Dec (n < g) → n < g + 1
            → Stored c (slice_has s c from t n) (slice_planes s c from t n A.slot A.j (ξ / 4)) (slice_index s c from t n A.slot A.j ξ) (raised c (slice_has s c from t g) (NL c.shape) (before_precinct s c from t g).1)
            (slice_reads s c from t g).1 i β x y
        pick accepted (yes before) u =
            precinct_leaves c settled h e s (row_of s c t g) (column_in s c t g) (before_precinct s c from t g).0 (is_top s c t g) (q.2 before)
            (column_inside c.shape settled.shape t l g w)
            (λ d f. omega (arith, same_number (Npx c.shape) n g (slice_top c.shape t) d f))
            (omega (arith, q.1, band_below c.shape β i h e.type))
        pick accepted (no after) u =
            let same : g ≡ n = omega arith in
            let q' = rw same at q in
            let z = before_precinct s c from t n in
            rw same
            (precinct_coefficients c settled h e m s z.0 (is_top s c t n) z.1 z.2 (row_inside c.shape settled.shape t l n k).0
            (omega (arith, q'.0)) (omega (arith, q'.1)) (rw same at accepted))

    -- as the precincts before g leave it
    pub in_slice : (g : ℕ) → g ≤ Np c.shape t → InSlice g (before_precinct s c from t g)
    in_slice g b =
        before_carries (precinct_turn s c t) (from.0 + slice_header_bytes, from.1, from.2) InSlice g (refl, refl, λ u. absurd (omega arith))
        (λ n w. precinct_carries n (omega arith))

    pub slice_coefficients : Stored c (slice_has s c from t n) (slice_planes s c from t n A.slot A.j (ξ / 4)) (slice_index s c from t n A.slot A.j ξ) (slice s c t from).1.1 (slice s c t from).1.2 i β x y
    slice_coefficients = rw (slice_left s c t from fine) ((in_slice (Np c.shape t) (omega arith)).2 k)

-- ---- a step for slice g, whether it reads the slice or not

-- what other slices have left it keeps: the coefficients of their precincts, and the counts of their groups. No band's largest T falls
pub record Passes (c : Setting) (g : ℕ) (from to : State) : Type 0 where
  pub cells : length to.2 ≡ length from.2
  pub tops : length to.1 ≡ length from.1
  pub up : (b : ℕ) → b < length from.1 → get_or from.1 b 0 ≤ get_or to.1 b 0
  pub coefficient : {i β x y row column : ℕ} → i < c.shape.nc → Exists c.shape i β x y → Member c.shape row column β i x y → (row / c.shape.hsl ≡ g → ⊥)
      → cell to.2 (place c.shape β i x y) ≡ cell from.2 (place c.shape β i x y)
  pub count : {i β x y row column : ℕ} → i < c.shape.nc → Exists c.shape i β x y → Member c.shape row column β i x y → (row / c.shape.hsl ≡ g → ⊥)
      → cell to.2 (count_of c.shape column β i x y) ≡ cell from.2 (count_of c.shape column β i x y)

module _ (c : Setting) (settled : Settled c) where
  -- such is a step that keeps the cells far from the slice's own lines
  pub far_passes : (g : ℕ) (from to : State) → length to.2 ≡ length from.2 → length to.1 ≡ length from.1
      → ((b : ℕ) → b < length from.1 → get_or from.1 b 0 ≤ get_or to.1 b 0) → ((n : ℕ) → FarFrom c g n → cell to.2 n ≡ cell from.2 n)
      → Passes c g from to
  far_passes g from to cells tops up far =
      record {
        cells = cells;
        tops = tops;
        up = up;
        coefficient = λ {i} {β} {x} {y} h e m other. far (place c.shape β i x y)
            (λ row column slot j r d k u l a. far_coefficient c settled h e m (record { across = k; which = u; candidate = l; present = a }) (λ f v. other (ap (λ (b : ℕ). b / c.shape.hsl) f ∙ d)));
        count = λ {i} {β} {x} {y} {row} {column} h e m other. far (count_of c.shape column β i x y)
            (λ row column slot j r d k u l a. far_count c settled h e m (record { across = k; which = u; candidate = l; present = a }) (λ f v. other (ap (λ (b : ℕ). b / c.shape.hsl) f ∙ d)));
      }

  -- and so the reading of a slice, accepted or refused
  pub slice_passes : (s : List ℕ) (t : ℕ) → t < slices c.shape → (from : State) → Passes c t from (slice s c t from).1
  slice_passes s t l from =
      far_passes t from (slice s c t from).1 (slice_length s c settled t l from) (slice_tops_length s c t from) (slice_tops_up s c t from)
      (λ n far. slice_other s c settled n t l far from)

  -- what is stored of a coefficient stays so behind the step of another slice
  pub passes_leave : {i β x y : ℕ} → i < c.shape.nc → Exists c.shape i β x y → {g : ℕ} {from to : State} → Passes c g from to → NL c.shape ≤ length from.1
      → {p : Precinct} {M : ℕ} {index : ℤ} → Stored c p M index from.1 from.2 i β x y → (p.row / c.shape.hsl ≡ g → ⊥) → Stored c p M index to.1 to.2 i β x y
  passes_leave {i} {β} h e {to = to} pass long q other =
      stored_still to.1 to.2 q (pass.coefficient h e q.member other) (pass.count h e q.member other)
      (pass.up (band c.shape β i) (omega (arith, band_below c.shape β i h e.type)))

-- ---- where B.5 puts coefficient (x, y) of filter type β of component i

-- in the precinct in this row and column, and so in this slice and with this number there
module _ (c : Setting) (i β x y : ℕ) where
  abbrev row : ℕ
  row = row_with c.shape β i y

  abbrev column : ℕ
  column = column_with c.shape β i x

  abbrev pub own_slice : ℕ
  own_slice = slice_with c.shape β i y

  abbrev pub own_number : ℕ
  own_number = number_with c.shape β i x y

module _ (s : List ℕ) (c : Setting) (settled : Settled c) {i β x y : ℕ} (h : i < c.shape.nc) (e : Exists c.shape i β x y) where
  pub number_is : Numbered c.shape (row c i β x y) (column c i β x y) (own_slice c i β x y) (own_number c i β x y)
  number_is =
      let down = row_below c.shape settled.shape β i h y e.row in
      let across = column_below c.shape settled.shape β i e.type h x e.column in
      numbered c.shape settled.shape (omega (arith, down, row_of_lem c.shape settled.shape β i h y))
      (omega (arith, across, column_of c.shape settled.shape β i e.type h x))

  pub member_there : Member c.shape (row_of s c (own_slice c i β x y) (own_number c i β x y)) (column_in s c (own_slice c i β x y) (own_number c i β x y)) β i x y
  member_there = record { down = sym number_is.down; across = sym number_is.across }

  -- its place in a line of that precinct, and the line
  abbrev pub own_place : ℕ
  own_place = x - first_x c.shape (column_in s c (own_slice c i β x y) (own_number c i β x y)) β i

  abbrev pub own_line : Addressed c.shape (row_of s c (own_slice c i β x y) (own_number c i β x y)) (column_in s c (own_slice c i β x y) (own_number c i β x y)) i β x y own_place
  own_line = address c settled h e member_there

-- ---- states one after the other, by one step for each slice

-- the step of slice t reads it, and the others keep what it has left
pub record ReadsOne (s : List ℕ) (c : Setting) (z : ℕ → State) (t : ℕ) : Type 0 where
  pub own : slice s c t (z t) ≡ (Fine, z (t + 1))
  pub others : (g : ℕ) → g < slices c.shape → (g ≡ t → ⊥) → Passes c g (z g) (z (g + 1))

-- and coefficient (x, y) of filter type β of component i
module _ (s : List ℕ) (c : Setting) (settled : Settled c) (z : ℕ → State) (room : start c.shape c.shape.nc ≤ length (z 0).2)
    (long : NL c.shape ≤ length (z 0).1) {i β x y : ℕ} (h : i < c.shape.nc) (e : Exists c.shape i β x y) where
  -- they leave the coefficient where it belongs to precinct n of slice t
  module _ (t : ℕ) (l : t < slices c.shape) (reads : ReadsOne s c z t) (n : ℕ) (k : n < Np c.shape t)
      (m : Member c.shape (row_of s c t n) (column_in s c t n) β i x y) where
    -- its line, and its place there
    abbrev line_here : Addressed c.shape (row_of s c t n) (column_in s c t n) i β x y (x - first_x c.shape (column_in s c t n) β i)
    line_here = address c settled h e m

    abbrev place_here : ℕ
    place_here = x - first_x c.shape (column_in s c t n) β i

    abbrev LeftBy : ℕ → Type 0
    LeftBy g =
        Stored c (slice_has s c (z t) t n) (slice_planes s c (z t) t n line_here.slot line_here.j (place_here / 4)) (slice_index s c (z t) t n line_here.slot line_here.j place_here) (z g).1 (z g).2 i β x y

    abbrev InStates : ℕ → Type 0
    InStates g = (length (z g).2 ≡ length (z 0).2) × (length (z g).1 ≡ length (z 0).1) × (t < g → LeftBy g)

    -- the step of slice t passes too, for the others
    each_passes : (g : ℕ) → g < slices c.shape → Dec (g ≡ t) → Passes c g (z g) (z (g + 1))
    each_passes g w (yes same) =
        let passed = slice_passes c settled s t l (z t) in
        rw same (rw (ap (λ (r : Left). r.1) reads.own) at passed)
    each_passes g w (no other) = reads.others g w other

    step_carries : (g : ℕ) → g < slices c.shape → InStates g → InStates (g + 1)
    step_carries g w q =
        let passed = each_passes g w (ℕ_discrete g t) in
        (passed.cells ∙ q.0, passed.tops ∙ q.1, pick passed (dec_lt t g))
      where
        pick : Passes c g (z g) (z (g + 1)) → Dec (t < g) → t < g + 1 → LeftBy (g + 1)
        pick passed (yes before) u =
            passes_leave c settled h e passed (omega (arith, q.1)) (q.2 before) (λ d. omega (arith, d, (row_inside c.shape settled.shape t l n k).1))
        pick passed (no after) u =
            let same : g ≡ t = omega arith in
            let q' = rw same at q in
            let left =
            slice_coefficients s c settled h e t l (z t) (omega (arith, q'.1)) (omega (arith, q'.0)) (ap (λ (r : Left). r.0) reads.own) n k m in
            rw same (rw (ap (λ (r : Left). r.1) reads.own) at left)

    in_states : (g : ℕ) → g ≤ slices c.shape → InStates g
    in_states zero b = (refl, refl, λ u. absurd (omega arith))
    in_states (suc g) b = rw (← add-one g) (step_carries g (omega arith) (in_states g (omega arith)))

    pub states_precinct : LeftBy (slices c.shape)
    states_precinct = (in_states (slices c.shape) (omega arith)).2 l

  -- and there is such a precinct
  pub states_coefficients :
      let t = own_slice c i β x y in
      let n = own_number c i β x y in
      let line = own_line s c settled h e in
      let ξ = own_place s c settled h e in
      ReadsOne s c z t
      → Stored c (slice_has s c (z t) t n) (slice_planes s c (z t) t n line.slot line.j (ξ / 4)) (slice_index s c (z t) t n line.slot line.j ξ)
      (z (slices c.shape)).1 (z (slices c.shape)).2 i β x y
  states_coefficients reads =
      let own = number_is s c settled h e in
      states_precinct (own_slice c i β x y) own.slice reads (own_number c i β x y) own.precinct (member_there s c settled h e)

-- ---- a stream, whose first slice header stands at the state's place

-- an accepted one reads each slice
pub stream_reads : (s : List ℕ) (c : Setting) → Settled c → (from : State) → (stream s c from).0 ≡ Fine → (t : ℕ) → t < slices c.shape → ReadsOne s c (before_slice s c from) t
stream_reads s c settled from fine t l =
    record {
      own = stream_slice s c from fine t l;
      others = λ g w other.
          let passed = slice_passes c settled s g w (before_slice s c from g) in
          rw (ap (λ (r : Left). r.1) (stream_slice s c from fine g w)) at passed;
    }
