-- C.6.1, Table C.13: in an accepted slice, and so in an accepted stream, the vertical predictor of a code group is M, and T, of the same group on the band's line directly
-- above. Row 8 keeps that line in the slice; no line that is read between the two writes over its counts. Assumes nothing.
use Rattle.std.specs.Prelude.{Ok, Err}
use Prim.Native.Nat.{ℕ, suc, ◌+◌, ◌-◌, ◌*◌, ◌/◌, ◌%◌, ◌^◌, ◌≤◌, ◌<◌}
use mathlib.Core.Path.{◌≡◌, refl, sym, ap, ◌∙◌}
use mathlib.Core.Bool.{Bool, true, false}
use mathlib.Core.List.{List}
use native.Mathlib.Nat.{mul-le-mul_left, div-lt_iff_lt-mul, div-eq_of_lt, div-mul-le_self, suc-mul, add-div_right, add-mod_right}
use native.Mathlib.Decide.{dec_lt}
use native.Mathlib.Omega.{arith}
use borrow.Author.Tests.{eqb-false}
use lib.Pow.{pow_pos}
use lib.IntN.{ℤ}
use lib.ListN.{length}
use Rattle.whole.specs.Cells.{cell}
use Rattle.loops.proofs.Before.{before_carries}
use Rattle.rows.specs.Rows.{first, Fine, Verdict}
use Rattle.layout.specs.Bands.{sy, NL, N'y, depth, band}
use Rattle.layout.specs.Precincts.{Npx, Npy, Np, slices, first_x, first_y, most_lines, Member}
use Rattle.layout.specs.Cells.{start, area, cell as place}
use Rattle.layout.specs.Slots.{slot_type, slot_line, line_at, line as line_of}
use Rattle.layout.proofs.Cells.{Exists}
use Rattle.layout.proofs.Columns.{Npx_some}
use Rattle.layout.proofs.Cover.{row_of_lem, column_of}
use Rattle.counts.specs.declared.group.Coding.{Coding}
use Rattle.counts.specs.declared.group.Mode.TheVariants.{Vertical}
use Rattle.bits.specs.Groups.{Ncg, held_m, held_t}
use Rattle.counts.specs.Lines.{count_cell, insignificant, unpack}
use Rattle.counts.specs.Groups.{unpack_vertical}
use Rattle.packets.specs.declared.Setting.{Setting}
use Rattle.packets.specs.Precincts.{D, T}
use Rattle.packets.specs.Ready.{Settled}
use Rattle.packets.specs.Passes.{marks, place_of}
use Rattle.packets.specs.Packets.{raw, count_bytes, mark_bytes}
use Rattle.packets.specs.Counted.{coding_in, before_group}
use Rattle.packets.proofs.Addresses.{There, part_below, there_exists, there_column, there_row, Addressed}
use Rattle.packets.proofs.Lines.{lies}
use Rattle.packets.proofs.LinePasses.{vertical_odd}
use Rattle.packets.proofs.Laws.{packet_other}
use Rattle.packets.proofs.Above.{predictor_cell, upper_earlier, before_keeps, groups_leave}
use Rattle.slices.specs.Precinct.{header_checks, body, no_flags, Packing, packet_turn, packets_by, precinct}
use Rattle.slices.specs.Slice.{State, Left, row_of, column_in, is_top, slice}
use Rattle.slices.specs.Stream.{slice_turn, stream}
use Rattle.slices.specs.Reached.{before_precinct, slice_has, slice_planes, before_slice}
use Rattle.slices.specs.Predicted.{slice_packet, slice_line, slice_mode, slice_top, Predicted}
use Rattle.slices.proofs.PrecinctLaws.{clash, header_modes}
use Rattle.slices.proofs.SliceLaws.{row_inside}
use Rattle.slices.proofs.Laws.{packet_turn_keeps, slice_length, slice_tops_length}
use Rattle.slices.proofs.Reaching.{slice_precinct, stream_slice}
use Rattle.slices.proofs.PrecinctCoefficients.{apart_count, carries, precinct_same, precinct_named, address}
use Rattle.slices.proofs.Coefficients.{in_slice}

-- ---- the row of precincts of the line above

row_same : (y m row : ℕ) → 0 < m → y / m ≡ row → row * m ≤ y - 1 → (y - 1) / m ≡ row
row_same y m row some e h = by (dec_lt ((y - 1) / m) row)
  where
    less : (y - 1) / m < row + 1
    less = (div-lt_iff_lt-mul some).1 (omega (arith, (div-lt_iff_lt-mul {k = m} {x = y} {y = row + 1} some).0 (omega arith)))

    by : Dec ((y - 1) / m < row) → (y - 1) / m ≡ row
    by (yes l) = absurd (omega (arith, (div-lt_iff_lt-mul {k = m} {x = y - 1} {y = row} some).0 l))
    by (no l) = omega (arith, less)

row_above : (y m row : ℕ) → 0 < m → y / m ≡ row → y - 1 < row * m → 0 < row → (y - 1) / m + 1 ≡ row
row_above y m row some e h up = by (dec_lt ((y - 1) / m) (row - 1))
  where
    less : (y - 1) / m < row
    less = (div-lt_iff_lt-mul some).1 h

    last : row ≡ suc (row - 1)
    last = omega arith

    by : Dec ((y - 1) / m < row - 1) → (y - 1) / m + 1 ≡ row
    by (yes l) =
        absurd
        (omega
        (arith, (div-lt_iff_lt-mul {k = m} {x = y - 1} {y = row - 1} some).0 l, div-mul-le_self y m, ap (λ (r : ℕ). r * m) e, ap (λ (r : ℕ). r * m) last, suc-mul (row - 1) m))
    by (no l) = omega (arith, less)

-- the header of an accepted precinct is accepted
precinct_header : (s : List ℕ) (c : Setting) (row column at : ℕ) (top : Bool) (cells : List ℤ) → (precinct s c row column at top cells).0 ≡ Fine
    → first (header_checks s c row column at top) ≡ Fine
unfolding precinct
precinct_header s c row column at top cells = by (first (header_checks s c row column at top))
  where
    by : (v : Verdict) → (packets_by s c row column at v cells).0 ≡ Fine → v ≡ Fine
    by (Ok _) e = refl
    by (Err k) e = clash e

module _ (s : List ℕ) (c : Setting) (settled : Settled c) (t : ℕ) (l : t < slices c.shape) (x : State) (long : NL c.shape ≤ length x.1)
    (room : start c.shape c.shape.nc ≤ length x.2) (fine : (slice s c t x).0 ≡ Fine) (n : ℕ) (below : n < Np c.shape t) {k j : ℕ}
    (a : There c.shape (row_of s c t n) (column_in s c t n) k j) (vertical : slice_mode s c x t n k j ≡ Vertical) where
  down : row_of s c t n < Npy c.shape
  down = (row_inside c.shape settled.shape t l n below).0

  -- row 8: the precinct does not stand in the slice's top row
  not_top : 0 < n / Npx c.shape
  not_top = by (is_top s c t n) refl
    where
      by : (b : Bool) → is_top s c t n ≡ b → 0 < n / Npx c.shape
      by true e =
          let line = lies c (slice_has s c x t n) k j (record { settled = settled; row = down; column = a.across; which = a.which }) a.candidate a.present in
          let e' = precinct_header s c (row_of s c t n) (column_in s c t n) (before_precinct s c x t n).0 (is_top s c t n) (before_precinct s c x t n).2 (slice_precinct s c t x fine n below).accepted in
          let even = header_modes s c (row_of s c t n) (column_in s c t n) (before_precinct s c x t n).0 (is_top s c t n) e' e (slice_line s c x t n k j).band line.band line.exists in
          let odd = vertical_odd (raw s c (slice_has s c x t n) k (slice_packet s c x t n k).0) (D s c (slice_has s c x t n) (slice_line s c x t n k j).band) vertical in
          absurd (omega (arith, even, odd))
      by false e = omega (arith, eqb-false)

  -- its filter type and component, and its line in the band
  abbrev β : ℕ
  β = slot_type c.shape k + j / c.shape.nc

  abbrev i : ℕ
  i = j % c.shape.nc

  abbrev y : ℕ
  y = first_y c.shape (row_of s c t n) β i + slot_line k / sy c.shape i

  component : i < c.shape.nc
  component = part_below c.shape settled.shape a

  y_some : 0 < y
  y_some =
      let m = N'y c.shape i - depth c.shape β i in
      omega (arith, mul-le-mul_left {m = 1} {n = 2 ^ m} (row_of s c t n) (pow_pos m), not_top)

  module _ (g : ℕ) (f : g < Ncg (slice_line s c x t n k j).width) where
    wide : 4 * g < (slice_line s c x t n k j).width
    wide = omega arith

    -- the first coefficient of the group on the line above
    abbrev first_in : ℕ
    first_in = first_x c.shape (column_in s c t n) β i + 4 * g

    exists_above : Exists c.shape i β first_in (y - 1)
    exists_above =
        let here = there_exists c.shape settled.shape a (4 * g) wide in
        record { type = here.type; there = here.there; column = here.column; row = omega (arith, here.row) }

    -- the precinct of the line above
    module _ (n' : ℕ) (below' : n' < Np c.shape t) (across : column_in s c t n' ≡ column_in s c t n)
        (row : (y - 1) / most_lines c.shape β i ≡ row_of s c t n') where
      member : Member c.shape (row_of s c t n') (column_in s c t n') β i first_in (y - 1)
      member = record {
        down = sym (row_of_lem c.shape settled.shape β i component (y - 1) ∙ row);
        across =
            across
            ∙ sym (column_of c.shape settled.shape β i exists_above.type component first_in ∙ there_column c.shape settled.shape a (4 * g) wide);
      }

      abbrev A : Addressed c.shape (row_of s c t n') (column_in s c t n') i β first_in (y - 1) (first_in - first_x c.shape (column_in s c t n') β i)
      A = address c settled component exists_above member

      abbrev ξ : ℕ
      ξ = first_in - first_x c.shape (column_in s c t n') β i

      starts : first_x c.shape (column_in s c t n') β i ≡ first_x c.shape (column_in s c t n) β i
      starts = ap (λ (m : ℕ). first_x c.shape m β i) across

      -- its group's count cell is the one that is read as predictor
      abbrev counted_at : ℕ
      counted_at =
          (line_at c.shape (row_of s c t n') (column_in s c t n') A.slot A.j).cell
          + 4 * (ξ / 4) * (line_at c.shape (row_of s c t n') (column_in s c t n') A.slot A.j).stride
          + (line_at c.shape (row_of s c t n') (column_in s c t n') A.slot A.j).area

      place_is : counted_at ≡ count_cell (place_of (slice_line s c x t n k j)) g - (slice_line s c x t n k j).up
      unfolding line_at line_of
      place_is =
          let e : first_x c.shape (column_in s c t n') β i + 4 * (ξ / 4) ≡ first_in = omega (arith, starts) in
          A.count ∙ ap (λ (m : ℕ). place c.shape β i m (y - 1) + area c.shape i) e ∙ sym (predictor_cell c (slice_has s c x t n) k j g y_some)

      -- the lines of the packet are apart from it
      module _ (other : row_of s c t n' ≡ row_of s c t n → A.slot ≡ k → ⊥) where
        top_is : slice_top s c x t n k j g ≡ cell (slice_packet s c x t n k).2 counted_at
        top_is =
            ap (cell (before_group s c (slice_has s c x t n) k (slice_packet s c x t n k).0 (slice_packet s c x t n k).2 j g).2) (sym place_is)
            ∙ groups_leave s c (slice_has s c x t n) k (slice_packet s c x t n k).0 (slice_packet s c x t n k).2 counted_at
            (λ j' m e. apart_count c settled A.there ξ A.inside (record { across = a.across; which = a.which; candidate = m; present = e }) (λ r q. other r))
            j g a.candidate a.present (omega arith)

        predicted : held_m (cell (slice_packet s c x t n k).2 counted_at) ≡ slice_planes s c x t n' A.slot A.j (ξ / 4)
            → held_t (cell (slice_packet s c x t n k).2 counted_at) ≡ T c (slice_has s c x t n') (band c.shape β i) → Predicted s c x t n k j g
        unfolding line_at line_of
        predicted m v =
            let q : ξ / 4 ≡ g = omega (arith, starts) in
            record {
              precinct = n';
              slot = A.slot;
              candidate = A.j;
              precinct_below = below';
              slot_below = A.there.which;
              candidate_below = A.there.candidate;
              present = A.there.present;
              band = A.band;
              above = omega (arith, A.height, y_some);
              column = across;
              planes = ap held_m top_is ∙ m ∙ ap (slice_planes s c x t n' A.slot A.j) q;
              truncation = ap held_t top_is ∙ v;
            }

    -- in the same precinct the line above stands in an earlier slot
    in_precinct : (y - 1) / most_lines c.shape β i ≡ row_of s c t n → Predicted s c x t n k j g
    unfolding line_at line_of
    in_precinct row =
        let line = A n below refl row in
        let ξ' = ξ n below refl row in
        let earlier : line.slot < k = upper_earlier c.shape settled.shape a line.there line.band (omega (arith, line.height, y_some)) in
        let at = before_precinct s c x t n in
        let held = in_slice s c settled component exists_above t l x long room fine n below (member n below refl row) n (omega arith) in
        let wide_enough : start c.shape c.shape.nc ≤ length at.2 = omega (arith, held.0) in
        let accepted = (slice_precinct s c t x fine n below).accepted in
        let named = precinct_named c settled line.there ξ' line.inside s at.0 down (is_top s c t n) at.2 wide_enough accepted in
        let same = precinct_same c settled line.there ξ' line.inside s at.0 down (is_top s c t n) at.2 wide_enough accepted in
        let kept = (carries c settled line.there ξ' line.inside s at.0 down (is_top s c t n) at.2 wide_enough accepted k (omega (arith, a.which))).1 earlier in
        let e = kept.1 ∙ sym same.1 in
        predicted n below refl row (λ r q. omega (arith, earlier)) (ap held_m e ∙ named.planes) (ap held_t e ∙ named.truncation ∙ ap (T c (slice_has s c x t n)) line.band)

    -- and else in the precinct above, which no packet between them writes over
    in_precinct_above : (n' : ℕ) → n' + Npx c.shape ≡ n → (y - 1) / most_lines c.shape β i + 1 ≡ row_of s c t n → Predicted s c x t n k j g
    in_precinct_above n' e up =
        let some = Npx_some c.shape settled.shape in
        let below' : n' < Np c.shape t = omega (arith, below) in
        let across : column_in s c t n' ≡ column_in s c t n = sym (add-mod_right n' (Npx c.shape)) ∙ ap (λ (m : ℕ). m % Npx c.shape) e in
        let one : n / Npx c.shape ≡ n' / Npx c.shape + 1 = ap (λ (m : ℕ). m / Npx c.shape) (sym e) ∙ add-div_right n' some in
        let row : (y - 1) / most_lines c.shape β i ≡ row_of s c t n' = omega (arith, up, one) in
        let line = A n' below' across row in
        let ξ' = ξ n' below' across row in
        let at = before_precinct s c x t n in
        let cell_of = counted_at n' below' across row in
        let apart : row_of s c t n' ≡ row_of s c t n → ⊥ = (λ r. omega (arith, r, one)) in
        let stored = (in_slice s c settled component exists_above t l x long room fine n' below' (member n' below' across row) n (omega arith)).2 (omega (arith, some)) in
        let named = rw (← line.count) at stored.named in
        let kept : cell (slice_packet s c x t n k).2 cell_of ≡ cell at.2 cell_of =
        before_keeps (λ (z : Packing s c (row_of s c t n) (column_in s c t n) at.0). cell z.2 cell_of ≡ cell at.2 cell_of) (λ (r : Verdict × List ℤ). cell r.1 cell_of ≡ cell at.2 cell_of)
        (packet_turn s c (row_of s c t n) (column_in s c t n) at.0)
        (body s c (row_of s c t n) (column_in s c t n) at.0, no_flags s c (row_of s c t n) (column_in s c t n) at.0, at.2) refl k
        (λ slot z w h.
        packet_turn_keeps s c (λ z. cell z cell_of ≡ cell at.2 cell_of) (row_of s c t n) (column_in s c t n) at.0
        (λ slot place raws cells w d.
        packet_other s c (slice_has s c x t n) slot place raws cells cell_of
        (λ j' m u. apart_count c settled line.there ξ' line.inside (record { across = a.across; which = w; candidate = m; present = u }) (λ r q o. apart r))
        ∙ d)
        slot z (omega (arith, a.which)) h) in
        predicted n' below' across row (λ r q. apart r) (ap held_m kept ∙ named.planes) (ap held_t kept ∙ named.truncation)

    -- Table C.13
    pub slice_predictor : Predicted s c x t n k j g
    slice_predictor = by (dec_lt (y - 1) (first_y c.shape (row_of s c t n) β i))
      where
        rows : y / most_lines c.shape β i ≡ row_of s c t n
        rows = there_row c.shape settled.shape a

        some : 0 < most_lines c.shape β i
        some = pow_pos (N'y c.shape i - depth c.shape β i)

        second : Npx c.shape ≤ n
        second = pick (dec_lt n (Npx c.shape))
          where
            pick : Dec (n < Npx c.shape) → Npx c.shape ≤ n
            pick (yes h) = absurd (omega (arith, div-eq_of_lt h, not_top))
            pick (no h) = omega arith

        by : Dec (y - 1 < first_y c.shape (row_of s c t n) β i) → Predicted s c x t n k j g
        by (no inside) = in_precinct (row_same y (most_lines c.shape β i) (row_of s c t n) some rows (omega arith))
        by (yes first) =
            in_precinct_above (n - Npx c.shape) (omega (arith, second))
            (row_above y (most_lines c.shape β i) (row_of s c t n) some rows first (omega (arith, not_top)))

-- of every code group that is coded with vertical prediction, in an accepted stream whose first slice header stands at the state's place
module _ (s : List ℕ) (c : Setting) (settled : Settled c) (x : State) (long : NL c.shape ≤ length x.1) (room : start c.shape c.shape.nc ≤ length x.2)
    (fine : (stream s c x).0 ≡ Fine) where
  abbrev AsLong : ℕ → State → Type 0
  AsLong g z = (length z.1 ≡ length x.1) × (length z.2 ≡ length x.2)

  as_long : (t : ℕ) → t ≤ slices c.shape → AsLong t (before_slice s c x t)
  as_long t b =
      before_carries (slice_turn s c) x AsLong t (refl, refl) (λ g w q.
      rw (← ap (λ (z : Left). z.1) (stream_slice s c x fine g (omega arith)))
      (slice_tops_length s c g (before_slice s c x g) ∙ q.0, slice_length s c settled g (omega arith) (before_slice s c x g) ∙ q.1))

  pub predictor_is : (t n k j g : ℕ) → t < slices c.shape → n < Np c.shape t → There c.shape (row_of s c t n) (column_in s c t n) k j
      → slice_mode s c (before_slice s c x t) t n k j ≡ Vertical → g < Ncg (slice_line s c (before_slice s c x t) t n k j).width
      → Predicted s c (before_slice s c x t) t n k j g
  predictor_is t n k j g l below a vertical f =
      let q = as_long t (omega arith) in
      slice_predictor s c settled t l (before_slice s c x t) (omega (arith, q.0)) (omega (arith, q.1)) (ap (λ (z : Left). z.0) (stream_slice s c x fine t l)) n below a
      vertical g f

-- and so they are what Table C.15 is given for the group, whose code stands at bit b of the counts
module _ (s : List ℕ) (c : Setting) (x : State) (t n k j g b : ℕ) where
  abbrev at : ℕ
  at = (slice_packet s c x t n k).0

  abbrev cnt : List ℕ
  cnt = count_bytes s c (slice_has s c x t n) k at

  abbrev sig : List ℕ
  sig = mark_bytes s c (slice_has s c x t n) k at

  abbrev code : Coding
  code = coding_in s c (slice_has s c x t n) k at j

  abbrev flag : ℕ
  flag = marks s c (slice_has s c x t n) k (raw s c (slice_has s c x t n) k at) j

  abbrev held_before : List ℤ
  held_before = (before_group s c (slice_has s c x t n) k at (slice_packet s c x t n k).2 j g).2

  pub group_predicted : code.mode ≡ Vertical → (q : Predicted s c x t n k j g)
      → unpack code.mode cnt sig code (place_of (slice_line s c x t n k j)) flag g b held_before
      ≡ unpack_vertical cnt code (insignificant sig code flag g) (slice_planes s c x t q.precinct q.slot q.candidate g)
      (T c (slice_has s c x t q.precinct) (slice_line s c x t n k j).band) b
  unfolding unpack
  group_predicted vertical q =
      (λ z. unpack (vertical z) cnt sig code (place_of (slice_line s c x t n k j)) flag g b held_before)
      ∙ (λ z. unpack_vertical cnt code (insignificant sig code flag g) (q.planes z) (q.truncation z) b)
