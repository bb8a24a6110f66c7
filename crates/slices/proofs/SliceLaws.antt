-- What the steps of a slice and of the stream rest on. Assumes nothing.
use Rattle.std.specs.Prelude.{⊤, Result, Ok, Err}
use Rattle.std.proofs.lemmas.Result.{MatchResult-at_ok as if_ok}
use Prim.Native.Nat.{ℕ, suc, ◌+◌, ◌-◌, ◌*◌, ◌/◌, ◌%◌, ◌≤◌, ◌<◌}
use mathlib.Core.Path.{◌≡◌, refl, sym, ap, ◌∙◌}
use mathlib.Core.List.{List, [], ◌∷◌, ◌++◌}
use native.Mathlib.Nat.{mul_comm, suc-mul, mod-lt, mod-eq_of_lt, div-eq_of_lt, div-lt_iff_lt-mul, mul-le-mul_right, mul-add-div_right, mul-add-mod_self_right}
use native.Mathlib.Omega.{arith}
use borrow.Author.Tests.{eqb-false}
use lib.IntN.{ℤ}
use lib.ListN.{length}
use Rattle.loops.specs.Run.{Turn, go, stop}
use Rattle.rows.specs.Rows.{check, first, Fine, Refused, Verdict}
use Rattle.rows.specs.declared.Check.{Check}
use Rattle.rows.specs.declared.Row.TheVariants.{Value}
use Rattle.rows.specs.declared.Field.TheVariants.{Lslh, Ysl}
use Rattle.rows.proofs.Tables.{append_fine, held}
use Rattle.bits.specs.Fields.{field_at}
use Rattle.picture.specs.Segment.{segment_at, length_checks}
use Rattle.pieces.specs.declared.Bytes.{Bytes}
use Rattle.pieces.specs.Pieces.{Piece, bytes_of, nothing}
use Rattle.pieces.proofs.Laws.{refused_bytes}
use Rattle.layout.specs.declared.Shape.{Shape}
use Rattle.layout.specs.Built.{Built}
use Rattle.layout.specs.Bands.{NL}
use Rattle.layout.specs.Precincts.{Npx, Npy, Np, slices, slice_rows, slice_top}
use Rattle.layout.proofs.Columns.{Npx_some}
use Rattle.layout.proofs.Cover.{row_slice, slice_row}
use Rattle.packets.specs.declared.Setting.{Setting}
use Rattle.packets.specs.declared.Precinct.{Precinct}
use Rattle.packets.specs.Ready.{Settled}
use Rattle.slices.specs.declared.Reading.{Reading}
use Rattle.slices.specs.Precinct.{precinct, raised}
use Rattle.slices.specs.Slice.{State, Left, slice_length, slice_header_bytes, slice_marker, slice_checks, top_row, row_of, column_in, is_top, placed, precinct_turn, slice}
use Rattle.slices.specs.Stream.{sliced, slice_turn}
use Rattle.slices.specs.Pieces.{precinct_pieces, placed_pieces, slice_pieces}
use Rattle.slices.specs.Steps.{Placed, IsPrecinct, said, IsPacked, further, Turned, Read}
use Rattle.slices.proofs.PrecinctLaws.{clash, row_is, column_is, ends_at, precinct_inside}

-- ---- where a precinct of a slice stands

module _ (s : Shape) (built : Built s) (t : ℕ) (h : t < slices s) where
  module _ (n : ℕ) (k : n < Np s t) where
    -- its row is one of the picture's, and of the slice's
    pub row_inside : (slice_top s t + n / Npx s < Npy s) × ((slice_top s t + n / Npx s) / s.hsl ≡ t)
    row_inside =
        let d : n / Npx s < slice_rows s t = (div-lt_iff_lt-mul (Npx_some s built)).1 (omega (arith, k, mul_comm (Npx s) (slice_rows s t))) in
        slice_row s built t (slice_top s t + n / Npx s) h (omega arith) (omega (arith, d))

    pub column_inside : n % Npx s < Npx s
    column_inside = mod-lt n (Npx_some s built)

-- the precinct in this row and column is number n of slice t
pub record Numbered (s : Shape) (row column t n : ℕ) : Type 0 where
  pub slice : t < slices s
  pub precinct : n < Np s t
  pub down : row ≡ slice_top s t + n / Npx s
  pub across : column ≡ n % Npx s

-- every precinct of the picture has such a number
pub numbered : (s : Shape) → Built s → {row column : ℕ} → row < Npy s → column < Npx s
    → Numbered s row column (row / s.hsl) ((row - slice_top s (row / s.hsl)) * Npx s + column)
numbered s built {row} {column} h k =
    let q = row_slice s built row h in
    let t = row / s.hsl in
    let r = row - slice_top s t in
    let more : suc r * Npx s ≤ slice_rows s t * Npx s = mul-le-mul_right (Npx s) (omega (arith, q)) in
    let div : (r * Npx s + column) / Npx s ≡ r + 0 = mul-add-div_right (Npx_some s built) r column ∙ ap (λ (m : ℕ). r + m) (div-eq_of_lt k) in
    record {
      slice = q.0;
      precinct = omega (arith, more, suc-mul r (Npx s), mul_comm (Npx s) (slice_rows s t));
      down = omega (arith, q, div);
      across = sym (mul-add-mod_self_right r (Npx s) column ∙ mod-eq_of_lt k);
    }

-- precinct n of slice t, where `columns` is the number of precincts in a row
pub seen : (s : List ℕ) (c : Setting) (t n at : ℕ) {columns : ℕ} {p : Precinct} → columns ≡ Npx c.shape
    → IsPrecinct s c (slice_top c.shape t + n / columns) (n % columns) at p → IsPrecinct s c (row_of s c t n) (column_in s c t n) at p
seen s c t n at e x = rw (← e) x

-- what is asked of it, and what it leaves
module _ (s : List ℕ) (c : Setting) (t n at : ℕ) {p : Precinct} (x : IsPrecinct s c (row_of s c t n) (column_in s c t n) at p) where
  pub placed_in : Settled c → t < slices c.shape → n < Np c.shape t → Placed c p (top_row c.shape t p.row)
  placed_in settled h k =
      record {
        row = omega (arith, row_is x, (row_inside c.shape settled.shape t h n k).0);
        column = omega (arith, column_is x, column_inside c.shape settled.shape t h n k);
        later = λ z. omega (arith, row_is x, eqb-false);
      }

  pub seen_precinct : {v : Verdict} (cells : List ℤ) {cells' : List ℤ} → precinct s c p.row p.column p.at (top_row c.shape t p.row) cells ≡ (v, cells')
      → precinct s c (row_of s c t n) (column_in s c t n) at (is_top s c t n) cells ≡ (v, cells')
  seen_precinct cells f =
      (λ i. precinct s c (sym x.is i).row (sym x.is i).column (sym x.is i).at (top_row c.shape t (sym x.is i).row) cells) ∙ f

-- ---- the header of a slice

pub header_ends : (s : List ℕ) (t at : ℕ) → first (slice_checks s t at) ≡ Fine → at + slice_header_bytes ≤ length s
header_ends s t at e =
    let l = length_checks (segment_at s at) Lslh slice_length slice_length in
    let y = check Value (at + 4) Ysl (field_at s (at + 4) 16) t t ∷ [] in
    let h = held l (append_fine l y (append_fine (slice_marker (segment_at s at)) (l ++ y) e).1).0 in
    omega (arith, h.1.0.least, h.1.1.0.least)

-- ---- a reading that goes on, and one that stops

module _ {s : List ℕ} {turn : Turn State Left} {has : List Piece} {r : Reading} {cells' : List ℤ} (x : Turned s turn has r cells') where
  pub turned_goes : r.verdict ≡ Fine → turn ≡ go (r.at, r.tops, cells')
  turned_goes v = x.is ∙ (λ i. further (v i) (r.at, r.tops, cells'))

  pub turned_stops : {k : Check} → r.verdict ≡ Refused k → turn ≡ stop (Refused k, (r.at, r.tops, cells'))
  turned_stops v = x.is ∙ (λ i. further (v i) (r.at, r.tops, cells'))

pub read_still : {s : List ℕ} {left left' : Left} {has : List Piece} {r : Reading} {cells' : List ℤ} → left' ≡ left → Read s left has r cells' → Read s left' has r cells'
read_still e x = record { is = e ∙ x.is; inside = x.inside; bytes = x.bytes }

-- what is refused where it stands, and has nothing
pub stops_here : {s : List ℕ} {left : Left} {v : Verdict} {k : Check} {x : State} {r : Reading} (has : List Piece) → left ≡ (v, x) → v ≡ Refused k
    → (r.verdict ≡ v) × (r.at ≡ x.0) × (r.tops ≡ x.1) × (r.bytes ≡ nothing) → Read s left has r x.2
stops_here {x = x} has e f h =
    record {
      is = e ∙ (λ i. (sym h.0 i, (sym h.1 i, sym h.2 i, x.2)));
      inside = λ z. clash (sym (h.0 ∙ f) ∙ z);
      bytes = h.3 ∙ refused_bytes (bytes_of has) (h.0 ∙ f);
    }

-- ---- the turns of a precinct and of a slice

sliced_is : (v : Verdict) (x : State) → sliced (v, x) ≡ further v x
sliced_is (Ok _) x = refl
sliced_is (Err k) x = refl

turned_by : {s : List ℕ} {turn : Turn State Left} {left : Left} {has : List Piece} {r : Reading} {cells' : List ℤ} → turn ≡ sliced left → Read s left has r cells' → Turned s turn has r cells'
turned_by {r = r} {cells' = cells'} e y =
    record { is = e ∙ (λ i. sliced (y.is i)) ∙ sliced_is r.verdict (r.at, r.tops, cells'); inside = y.inside; bytes = y.bytes }

pub slice_turned : (s : List ℕ) (c : Setting) (t : ℕ) (x : State) {r : Reading} {cells' : List ℤ} → Read s (slice s c t x) (slice_pieces s c t x) r cells'
    → Turned s (slice_turn s c t x) (slice_pieces s c t x) r cells'
unfolding slice_turn
slice_turned s c t x y = turned_by refl y

module _ (s : List ℕ) (c : Setting) (t n at : ℕ) (tops : List ℕ) (cells : List ℤ) {p : Precinct} (x : IsPrecinct s c (row_of s c t n) (column_in s c t n) at p) where
  module _ {r : Result Bytes Check} {cells' : List ℤ} (q : IsPacked s c p (precinct s c p.row p.column p.at (top_row c.shape t p.row) cells) cells r cells') where
    said_is : {w : Result Bytes Check} → r ≡ w → precinct s c (row_of s c t n) (column_in s c t n) at (is_top s c t n) cells ≡ (said w, cells')
    said_is e = seen_precinct s c t n at x cells (q.is ∙ (λ i. (said (e i), cells')))

    -- behind one that is accepted the reading stands at its end
    pub turned_on : {b : Bytes} {raise : List ℕ} → r ≡ Ok b → raise ≡ raised c p (NL c.shape) tops
        → Turned s (precinct_turn s c t n (at, tops, cells)) (placed_pieces s c t n (at, tops, cells)) (record { verdict = Fine; at = p.end; tops = raise; bytes = b }) cells'
    unfolding precinct_turn
    turned_on {b} e f =
        let inside = precinct_inside s c (row_of s c t n) (column_in s c t n) at (is_top s c t n) cells (λ i. (said_is e i).0) in
        record {
          is =
              (λ i. placed s c t n (at, tops, cells) (said_is e i))
              ∙ (λ i. go ((sym x.is i).end, raised c (sym x.is i) (NL c.shape) tops, cells'))
              ∙ (λ i. go (p.end, sym f i, cells'));
          inside = λ z. omega (arith, ends_at x, inside);
          bytes =
              if_ok (λ b. b ≡ bytes_of (precinct_pieces s c p.row p.column p.at cells)) (λ k. ⊤) b e q.bytes
              ∙ (λ i. bytes_of (precinct_pieces s c (x.is i).row (x.is i).column (x.is i).at cells));
        }

    -- one that is refused stops it where it stood
    pub turned_back : {k : Check} {g : Reading} → r ≡ Err k → (g.verdict ≡ Refused k) × (g.at ≡ at) × (g.tops ≡ tops) × (g.bytes ≡ nothing)
        → Turned s (precinct_turn s c t n (at, tops, cells)) (placed_pieces s c t n (at, tops, cells)) g cells'
    unfolding precinct_turn
    turned_back e h = turned_by (λ i. placed s c t n (at, tops, cells) (said_is e i)) (stops_here (placed_pieces s c t n (at, tops, cells)) refl refl h)
