-- No two lines of the picture share a cell: the cells of a line tell its address, which is the row and column of its precinct, its slot, and its number
-- among the slot's candidates. Assumes nothing.
use mathlib.Core.Path.{◌≡◌, refl, sym, ap, ◌∙◌}
use mathlib.Core.Bool.{true}
use Prim.Native.Nat.{ℕ, ◌+◌, ◌*◌, ◌-◌, ◌/◌, ◌%◌, ◌^◌, ◌≤◌, ◌<◌}
use native.Mathlib.Nat.{mod-lt, mul-add-div_right, div-eq_of_lt}
use native.Mathlib.Decide.{dec_lt}
use native.Mathlib.Omega.{arith}
use lib.Pow.{pow_pos}
use Rattle.layout.specs.declared.Shape.{Shape}
use Rattle.layout.specs.Bands.{sx, sy, N'y, Nβ, dx, dy, depth, band}
use Rattle.layout.specs.Built.{Built}
use Rattle.layout.specs.Precincts.{Cs, Npx, Wpb, Member, most_lines, first_x, first_y}
use Rattle.layout.specs.Packets.{included}
use Rattle.layout.specs.Cells.{area, start, cell}
use Rattle.layout.specs.Slots.{slots, slot_type, slot_line, candidates, line_with, slot_with, candidate_with, line as line_of, line_at}
use Rattle.layout.proofs.Slots.{slot_fits}
use Rattle.layout.proofs.Reaches.{line_fits}
use Rattle.layout.proofs.Cells.{Exists, cell_inside, cells_differ, starts_up}
use Rattle.layout.proofs.Cover.{row_of_lem, column_of, column_below, member_column, column_member}
use Rattle.layout.proofs.Present.{line_exists, line_inside}
use Rattle.layout.proofs.Once.{every_line, one_line}

-- ---- coefficients of different components

same_cell : (s : Shape) → Built s → {β β' i i' x x' y y' : ℕ} → i < s.nc → i' < s.nc → Exists s i β x y → Exists s i' β' x' y'
    → cell s β i x y ≡ cell s β' i' x' y' → (i ≡ i') × (β ≡ β') × (x ≡ x') × (y ≡ y')
same_cell s built {β} {β'} {i} {i'} {x} {x'} {y} {y'} h h' c d e = pick (dec_lt i i') (dec_lt i' i)
  where
    pick : Dec (i < i') → Dec (i' < i) → (i ≡ i') × (β ≡ β') × (x ≡ x') × (y ≡ y')
    pick (yes l) after = absurd (omega (arith, e, cell_inside s built i h c, starts_up s i i' l))
    pick (no l) (yes m) = absurd (omega (arith, e, cell_inside s built i' h' d, starts_up s i' i m))
    pick (no l) (no m) =
        let q : i' ≡ i = omega arith in
        let f : cell s β i x y ≡ cell s β' i x' y' = rw q at e in
        let same = cells_differ s built i h c (rw q at d) (omega (arith, f)) in
        (sym q, same.0, same.1, same.2)

-- a is a coefficient cell of component i, and b one of component i'
module _ (s : Shape) (i i' a b : ℕ) (low : start s i ≤ a) (high : a < start s i + area s i) (low' : start s i' ≤ b)
    (high' : b < start s i' + area s i') where
  -- their count cells are the same where they are
  counts_same : a + area s i ≡ b + area s i' → a ≡ b
  counts_same e = pick (dec_lt i i') (dec_lt i' i)
    where
      pick : Dec (i < i') → Dec (i' < i) → a ≡ b
      pick (yes l) after = absurd (omega (arith, starts_up s i i' l))
      pick (no l) (yes m) = absurd (omega (arith, starts_up s i' i m))
      pick (no l) (no m) =
          let q : i' ≡ i = omega arith in
          omega (arith, ap (area s) q)

  -- and no count cell is a coefficient's
  count_differs : a + area s i ≡ b → ⊥
  count_differs e = pick (dec_lt i i') (dec_lt i' i)
    where
      pick : Dec (i < i') → Dec (i' < i) → ⊥
      pick (yes l) after = omega (arith, starts_up s i i' l)
      pick (no l) (yes m) = omega (arith, starts_up s i' i m)
      pick (no l) (no m) =
          let q : i' ≡ i = omega arith in
          omega (arith, ap (start s) q, ap (area s) q)

-- ---- lines

-- a line that a precinct has
pub record There (s : Shape) (row column slot j : ℕ) : Type 0 where
  pub across : column < Npx s
  pub which : slot < slots s
  pub candidate : j < candidates s slot
  pub present : (line_at s row column slot j).present ≡ true

-- its filter type, its component, and its number among the lines of its band
module _ (s : Shape) (slot j : ℕ) where
  abbrev type : ℕ
  type = slot_type s slot + j / s.nc

  abbrev part : ℕ
  part = j % s.nc

  abbrev down : ℕ → ℕ
  down row = first_y s row type part + slot_line slot / sy s part

module _ (s : Shape) (built : Built s) {row column slot j : ℕ} (a : There s row column slot j) where
  fits : (type s slot j < Nβ s) × (slot_line slot < 4) × (slot_line slot < 2 ^ (s.nly - dy s (type s slot j)))
  fits = slot_fits s built slot j a.which a.candidate

  pub part_below : part s slot j < s.nc
  part_below = mod-lt j built.some

  here : included s row (type s slot j) (part s slot j) (slot_line slot) ≡ true
  unfolding line_at line_of
  here = a.present

  -- coefficient x of the line: its column in the band, and its cell
  abbrev column_at : ℕ → ℕ
  column_at x = first_x s column (type s slot j) (part s slot j) + x

  abbrev cell_at : ℕ → ℕ
  cell_at x = (line_at s row column slot j).cell + x * (line_at s row column slot j).stride

  module _ (x : ℕ) (h : x < (line_at s row column slot j).width) where
    pub there_exists : Exists s (part s slot j) (type s slot j) (column_at x) (down s slot j row)
    unfolding line_at line_of
    there_exists = line_exists s built row column (type s slot j) (part s slot j) (slot_line slot) fits.0 part_below fits.2 a.across here x h

    pub there_cell : cell_at x ≡ cell s (type s slot j) (part s slot j) (column_at x) (down s slot j row)
    unfolding line_at line_of
    there_cell = (line_inside s built row column (type s slot j) (part s slot j) (slot_line slot) fits.0 part_below fits.2 a.across here x h).0

    there_inside : (start s (part s slot j) ≤ cell_at x) × (cell_at x < start s (part s slot j) + area s (part s slot j))
    there_inside = (omega (arith, there_cell), omega (arith, there_cell, cell_inside s built (part s slot j) part_below there_exists))

    -- it tells the precinct's column
    pub there_column : column_at x * (sx s (part s slot j) * 2 ^ dx s (type s slot j)) / Cs s ≡ column
    unfolding line_at line_of
    there_column =
        (column_member s built (type s slot j) (part s slot j) fits.0 part_below column (column_at x) a.across (omega arith) (omega arith)).1

  there_area : (line_at s row column slot j).area ≡ area s (part s slot j)
  unfolding line_at line_of
  there_area = refl

  -- the line tells the precinct's row
  pub there_row : down s slot j row / most_lines s (type s slot j) (part s slot j) ≡ row
  there_row =
      mul-add-div_right (pow_pos (N'y s (part s slot j) - depth s (type s slot j) (part s slot j))) row (slot_line slot / sy s (part s slot j))
      ∙ ap (λ (n : ℕ). row + n) (div-eq_of_lt (line_fits s (type s slot j) (part s slot j) built part_below (slot_line slot) fits.2))
      ∙ omega arith

-- ---- the address

pub record SameLine (row row' column column' slot slot' j j' : ℕ) : Type 0 where
  pub rows : row ≡ row'
  pub columns : column ≡ column'
  pub slots : slot ≡ slot'
  pub candidates : j ≡ j'

module _ (s : Shape) (built : Built s) {row row' column column' slot slot' j j' : ℕ} (a : There s row column slot j) (b : There s row' column' slot' j')
    (x x' : ℕ) (h : x < (line_at s row column slot j).width) (h' : x' < (line_at s row' column' slot' j').width) where
  -- lines that share a coefficient cell are one
  pub same_line : cell_at s built a x ≡ cell_at s built b x' → SameLine row row' column column' slot slot' j j'
  same_line e =
      let q =
      same_cell s built (part_below s built a) (part_below s built b) (there_exists s built a x h) (there_exists s built b x' h')
      (sym (there_cell s built a x h) ∙ e ∙ there_cell s built b x' h') in
      let r : row ≡ row' = sym (there_row s built a) ∙ (λ n. q.3 n / most_lines s (q.1 n) (q.0 n)) ∙ there_row s built b in
      let same =
      one_line s built (type s slot j) (part s slot j) (fits s built a).0 (part_below s built a) {row = row} {y = down s slot j row}
      (record { slot = a.which; candidate = a.candidate; type = refl; component = refl; line = refl; present = here s built a })
      (record {
        slot = b.which;
        candidate = b.candidate;
        type = sym q.1;
        component = sym q.0;
        line = (λ n. first_y s (r n) (q.1 n) (q.0 n) + slot_line slot' / sy s (q.0 n)) ∙ sym q.3;
        present = (λ n. included s (r n) (q.1 n) (q.0 n) (slot_line slot')) ∙ here s built b;
      }) in
      record {
        rows = r;
        columns = sym (there_column s built a x h) ∙ (λ n. q.2 n * (sx s (q.0 n) * 2 ^ dx s (q.1 n)) / Cs s) ∙ there_column s built b x' h';
        slots = same.0;
        candidates = same.1;
      }

  -- and so are lines that share a count cell
  pub same_counts : cell_at s built a x + (line_at s row column slot j).area ≡ cell_at s built b x' + (line_at s row' column' slot' j').area
      → SameLine row row' column column' slot slot' j j'
  same_counts e =
      let p = there_inside s built a x h in
      let q = there_inside s built b x' h' in
      same_line
      (counts_same s (part s slot j) (part s slot' j') _ _ p.0 p.1 q.0 q.1 (omega (arith, e, there_area s built a, there_area s built b)))

  -- no count cell of a line is a coefficient cell of a line
  pub count_apart : cell_at s built a x + (line_at s row column slot j).area ≡ cell_at s built b x' → ⊥
  count_apart e =
      let p = there_inside s built a x h in
      let q = there_inside s built b x' h' in
      count_differs s (part s slot j) (part s slot' j') _ _ p.0 p.1 q.0 q.1 (omega (arith, e, there_area s built a))

-- ---- every coefficient of a band has its line in the precinct that it belongs to

-- the address there, and its cell and that of its group's count, where n is its number on the line
pub record Addressed (s : Shape) (row column i β x y n : ℕ) : Type 0 where
  pub slot : ℕ
  pub j : ℕ
  pub slot_is : slot ≡ slot_with s β (line_with s β i y)
  pub j_is : j ≡ candidate_with s β i
  pub there : There s row column slot j
  pub band : (line_at s row column slot j).band ≡ band s β i
  pub height : (line_at s row column slot j).y ≡ y
  pub number : first_x s column β i + n ≡ x
  pub inside : n < (line_at s row column slot j).width
  pub behind : (line_at s row column slot j).area ≡ area s i
  pub coefficient : (line_at s row column slot j).cell + n * (line_at s row column slot j).stride ≡ cell s β i x y
  pub count : (line_at s row column slot j).cell + 4 * (n / 4) * (line_at s row column slot j).stride + (line_at s row column slot j).area
      ≡ cell s β i (first_x s column β i + 4 * (n / 4)) y + area s i

module _ (s : Shape) (built : Built s) {i β x y : ℕ} (h : i < s.nc) (e : Exists s i β x y) where
  abbrev row_here : ℕ
  row_here = y / most_lines s β i

  abbrev column_here : ℕ
  column_here = x * (sx s i * 2 ^ dx s β) / Cs s

  addressed_here : Addressed s row_here column_here i β x y (x - first_x s column_here β i)
  unfolding line_at line_of
  addressed_here =
      let m = every_line s built β i e.type h e.there y e.row in
      let slot = slot_with s β (line_with s β i y) in
      let j = candidate_with s β i in
      let across = member_column s built β i e.type h x e.column in
      let t : There s row_here column_here slot j =
      record {
        across = column_below s built β i e.type h x e.column;
        which = m.slot;
        candidate = m.candidate;
        present = (λ n. included s row_here (m.type n) (m.component n) (slot_line slot)) ∙ m.present;
      } in
      let wide : Wpb s column_here (type s slot j) (part s slot j) ≡ Wpb s column_here β i =
      λ n. Wpb s column_here (m.type n) (m.component n) in
      let at : (n : ℕ) → n < Wpb s column_here β i → cell_at s built t n ≡ cell s β i (first_x s column_here β i + n) y =
      λ n l. there_cell s built t n (omega arith)
      ∙ (λ z.
      cell s (m.type z) (m.component z) (first_x s column_here (m.type z) (m.component z) + n)
      (first_y s row_here (m.type z) (m.component z) + slot_line slot / sy s (m.component z)))
      ∙ (λ z. cell s β i (first_x s column_here β i + n) (m.line z))
      in
      let back : first_x s column_here β i + (x - first_x s column_here β i) ≡ x = omega (arith, across) in
      record {
        slot = slot;
        j = j;
        slot_is = refl;
        j_is = refl;
        there = t;
        band = λ n. band s (m.type n) (m.component n);
        height = (λ n. first_y s row_here (m.type n) (m.component n) + slot_line slot / sy s (m.component n)) ∙ m.line;
        number = back;
        inside = omega (arith, across);
        behind = λ n. area s (m.component n);
        coefficient = at (x - first_x s column_here β i) (omega (arith, across)) ∙ (λ n. cell s β i (back n) y);
        count = (λ n. at (4 * ((x - first_x s column_here β i) / 4)) (omega (arith, across)) n + area s (m.component n));
      }

  pub addressed : {row column : ℕ} → Member s row column β i x y → Addressed s row column i β x y (x - first_x s column β i)
  addressed m = rw (m.down ∙ row_of_lem s built β i h y, m.across ∙ column_of s built β i e.type h x) addressed_here
