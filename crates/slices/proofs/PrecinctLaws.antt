-- What the steps of a precinct rest on: tables whose checks hold, the modes of its header, the turn of a slot. Assumes nothing.
use Rattle.std.specs.Prelude.{Result, Ok, Err}
use Prim.Native.Nat.{ℕ, zero, suc, ◌+◌, ◌*◌, ◌-◌, ◌/◌, ◌%◌, ◌≤◌, ◌<◌}
use mathlib.Core.Path.{◌≡◌, refl, sym, subst, ◌∙◌}
use mathlib.Core.Bool.{Bool, true, false, not, cond}
use mathlib.Core.List.{List, [], ◌∷◌}
use native.Mathlib.Numerals.{add-one}
use native.Mathlib.Omega.{arith}
use borrow.Author.Tests.{le-ltb}
use lib.IntN.{ℤ}
use lib.ListN.{length, set, get_or}
use Rattle.loops.specs.Run.{go, stop}
use Rattle.rows.specs.Rows.{check, first, each, then, Fine, Refused, Verdict}
use Rattle.rows.specs.declared.Check.{Check}
use Rattle.rows.specs.declared.Row.TheVariants.{Mode, Length}
use Rattle.rows.specs.declared.Field.TheVariants.{D as ModeField, Rest}
use Rattle.rows.proofs.Tables.{first_append, append_fine, each_fine, held}
use Rattle.bits.specs.Fields.{field}
use Rattle.pieces.specs.declared.Bytes.{Bytes}
use Rattle.layout.specs.declared.Shape.{Shape}
use Rattle.layout.specs.Bands.{NL, band_exists}
use Rattle.layout.specs.Headers.{mode_bit, header_bytes_of}
use Rattle.layout.specs.Slots.{candidates}
use Rattle.layout.proofs.Sums.{header_most}
use Rattle.packets.specs.declared.Setting.{Setting}
use Rattle.packets.specs.declared.Precinct.{Precinct}
use Rattle.packets.specs.Precincts.{D}
use Rattle.packets.specs.Ready.{Settled, Standing}
use Rattle.packets.specs.Packets.{any_line, head, past, packet}
use Rattle.slices.specs.declared.precincts.Flags.{Flags}
use Rattle.slices.specs.Precinct.{precinct_at, lprc, field_checks, mode_checks, header_checks, packed, packet_turn, rest_checks, packets_by, precinct, raised_by, raised}
use Rattle.slices.specs.Steps.{Lent, Placed, IsPrecinct, onward, Passed, IsPacked}

-- ---- tables whose checks all hold

pub one_fine : (c : Check) → c.4 ≤ c.3 → c.3 ≤ c.5 → first (c ∷ []) ≡ Fine
one_fine c h k = rw (le-ltb c.3 c.4 h, le-ltb c.5 c.3 k)

pub all_fine : (n : ℕ) (f : ℕ → List Check) → ((k : ℕ) → first (f k) ≡ Fine) → first (each n f) ≡ Fine
unfolding each
all_fine zero f h = refl
all_fine (suc n) f h = first_append (each n f) (f n) ∙ (λ i. then (all_fine n f h i) (h n i))

-- ---- the precinct header

-- D of a band in the top row of a slice, by the bit of its field
abbrev pub top_check : List ℕ → ℕ → ℕ → Bool → List Check
top_check s at bit exists = cond exists (check Mode (at + bit / 8) ModeField (field s (8 * at + bit) 2 % 2) 0 0 ∷ []) []

abbrev pub top_checks : List ℕ → Shape → ℕ → ℕ → List Check
top_checks s shape at b = top_check s at (mode_bit shape b) (band_exists shape b)

pub on : (b : Bool) → not b ≡ false → b ≡ true
on true e = refl
on false e = sym e

pub off : (b : Bool) → not b ≡ true → b ≡ false
off true e = sym e
off false e = refl

-- the bits of a field where it is there
pub two_if : (exists : Bool) {r : ℕ} → r ≡ cond exists 2 0 → (r ≡ 2 * cond exists 1 0) × (r ≤ 2)
two_if true e = (e, omega arith)
two_if false e = (e, omega arith)

module _ (s : List ℕ) (c : Setting) (row column at : ℕ) where
  -- they are the checks of a top row, and a lower row has none that breaks
  pub top_modes : (b : ℕ) → first (each b (top_checks s c.shape at)) ≡ first (each b (mode_checks s c row column at true))
  unfolding D
  top_modes b = refl

  free_mode : (b : ℕ) → first (mode_checks s c row column at false b) ≡ Fine
  free_mode b = by (band_exists c.shape b)
    where
      by : (e : Bool) → first (cond e (check Mode (at + mode_bit c.shape b / 8) ModeField (D s c (precinct_at s c row column at) b % 2) 0 1 ∷ []) []) ≡ Fine
      by true = one_fine (check Mode (at + mode_bit c.shape b / 8) ModeField (D s c (precinct_at s c row column at) b % 2) 0 1) (omega arith) (omega arith)
      by false = refl

  pub free_modes : (n : ℕ) → first (each n (mode_checks s c row column at false)) ≡ Fine
  free_modes n = all_fine n (mode_checks s c row column at false) free_mode

module _ {s : List ℕ} {c : Setting} {row column at : ℕ} {p : Precinct} (x : IsPrecinct s c row column at p) where
  pub row_is : p.row ≡ row
  row_is = λ i. (x.is i).row

  pub column_is : p.column ≡ column
  column_is = λ i. (x.is i).column

  pub place_is : p.at ≡ at
  place_is = λ i. (x.is i).at

pub head_most : {c : Setting} → Settled c → c.head ≤ 15
head_most {c} x = omega (arith, x.head, header_most c.shape x.shape)

pub ends_at : {s : List ℕ} {c : Setting} {row column at : ℕ} {p : Precinct} → IsPrecinct s c row column at p → p.end ≡ at + header_bytes_of c.shape + lprc s c row column at
ends_at x = λ i. (x.is i).end

-- ---- the packets

pub settled : {A : Type 0} {left : Verdict × A} {v w : Verdict} {rest : A} → left ≡ (w, rest) → v ≡ w → ◌≡◌ {A = Verdict × A} left (v, rest)
settled {rest = rest} e f = e ∙ (λ i. (sym f i, rest))

module _ (s : List ℕ) (c : Setting) (row column place slot at : ℕ) (raws : List ℕ) (cells : List ℤ) {p : Precinct} (e : IsPrecinct s c row column place p) where
  -- the turn of a slot with a packet, by what the packet's decoder says, and where that accepts it; and that of a slot without
  pub packet_there : {v w : Verdict} {cells' : List ℤ} → any_line c p slot (candidates c.shape slot) ≡ true → packet s c p slot at raws cells ≡ (v, cells') → v ≡ w
      → packet_turn s c row column place slot (at, raws, cells) ≡ packed s c row column place slot at raws (w, cells')
  unfolding packet_turn
  packet_there any left says =
      rw ((λ i. any_line c (sym e.is i) slot (candidates c.shape slot)) ∙ any)
      (λ i. packed s c row column place slot at raws (((λ j. packet s c (sym e.is j) slot at raws cells) ∙ settled left (sym says)) i))

  pub packet_goes : {v : Verdict} {dr next : ℕ} {cells' : List ℤ} → any_line c p slot (candidates c.shape slot) ≡ true → packet s c p slot at raws cells ≡ (v, cells') → v ≡ Fine
      → dr ≡ (head s c p slot at).dr → next ≡ past s c p slot at → packet_turn s c row column place slot (at, raws, cells) ≡ go (next, set raws slot dr, cells')
  packet_goes {cells' = cells'} any left fine flag behind =
      packet_there any left fine
      ∙ (λ i. go (((λ j. past s c (sym e.is j) slot at) ∙ sym behind) i, set raws slot (((λ j. (head s c (sym e.is j) slot at).dr) ∙ sym flag) i), cells'))

  pub packet_absent : any_line c p slot (candidates c.shape slot) ≡ false → packet_turn s c row column place slot (at, raws, cells) ≡ go (at, raws, cells)
  unfolding packet_turn
  packet_absent none = rw ((λ i. any_line c (sym e.is i) slot (candidates c.shape slot)) ∙ none)

-- a slot that refuses stops the packets, and one that does not goes on
module _ {s : List ℕ} {c : Setting} {p : Precinct} {slot at : ℕ} {raws : List ℕ} {cells cells' : List ℤ} {r : Result Flags Check} where
  pub refused_slot : {k : Check} → packet_turn s c p.row p.column p.at slot (at, raws, cells) ≡ stop (Refused k, cells') → r ≡ Err k → Passed s c p slot at raws cells r cells'
  refused_slot turn e = rw e (record { turn = turn; inside = tt; bytes = tt })

  module _ (x : Passed s c p slot at raws cells r cells') where
    pub passed_stops : {k : Check} → r ≡ Err k → packet_turn s c p.row p.column p.at slot (at, raws, cells) ≡ stop (Refused k, cells')
    passed_stops e = x.turn ∙ (λ i. onward (e i) cells')

    pub passed_goes : {f : Flags} → r ≡ Ok f → Passed s c p slot at raws cells (Ok f) cells'
    passed_goes e = subst (λ r. Passed s c p slot at raws cells r cells') e x

-- bytes left, counted from the precinct's own end
pub rest_is : {s : List ℕ} {c : Setting} {row column at : ℕ} {p : Precinct} (place : ℕ) → IsPrecinct s c row column at p
    → first (check Length at Rest (p.end - place) 0 0 ∷ []) ≡ first (rest_checks s c row column at place)
rest_is {at = at} place x = λ i. first (check Length at Rest ((x.is i).end - place) 0 0 ∷ [])

-- ---- a precinct

-- a precinct that is refused has no bytes
pub refused_precinct : {s : List ℕ} {c : Setting} {p : Precinct} {left : Verdict × List ℤ} {cells cells' : List ℤ} {r : Result Bytes Check} {k : Check}
    → left ≡ (Refused k, cells') → r ≡ Err k → IsPacked s c p left cells r cells'
refused_precinct is e = rw e (record { is = is; bytes = tt })

-- a precinct's own row, column and place are those at which it was read
pub own : {s : List ℕ} {c : Setting} {row column at : ℕ} {p : Precinct} → IsPrecinct s c row column at p → IsPrecinct s c p.row p.column p.at p
own {s} {c} x =
    record { is = x.is ∙ (λ i. precinct_at s c (sym x.is i).row (sym x.is i).column (sym x.is i).at); small = x.small }

pub clash : {A : Type 0} {k : Check} → Refused k ≡ Fine → A
clash e = let z : ◌≡◌ {A = ℕ} 0 1 = cc in absurd (omega arith)

module _ (s : List ℕ) (c : Setting) (row column at : ℕ) (top : Bool) where
  -- an accepted header: the precinct ends in the stream, and in the top row of a slice no existing band has vertical prediction
  pub header_inside : first (header_checks s c row column at top) ≡ Fine → (precinct_at s c row column at).end ≤ length s
  header_inside e =
      let h = held (field_checks s c row column at) (append_fine (field_checks s c row column at) (each (NL c.shape) (mode_checks s c row column at top)) e).0 in
      omega (arith, h.1.0.least, h.1.1.0.most)

  pub header_modes : first (header_checks s c row column at top) ≡ Fine → top ≡ true → (b : ℕ) → b < NL c.shape → band_exists c.shape b ≡ true
      → D s c (precinct_at s c row column at) b % 2 ≤ 0
  header_modes e t b l x =
      let f = each_fine (NL c.shape) (mode_checks s c row column at top) (append_fine (field_checks s c row column at) (each (NL c.shape) (mode_checks s c row column at top)) e).1 b l in
      let m = check Mode (at + mode_bit c.shape b / 8) ModeField (D s c (precinct_at s c row column at) b % 2) 0 in
      (held (m 0 ∷ []) ((λ i. first (cond (sym x i) (m (cond (sym t i) 0 1) ∷ []) [])) ∙ f)).0.most

  pub precinct_inside : (cells : List ℤ) → (precinct s c row column at top cells).0 ≡ Fine → (precinct_at s c row column at).end ≤ length s
  unfolding precinct
  precinct_inside cells e = by _ refl e
    where
      by : (v : Verdict) → first (header_checks s c row column at top) ≡ v → (packets_by s c row column at v cells).0 ≡ Fine → (precinct_at s c row column at).end ≤ length s
      by (Ok _) f e = header_inside f
      by (Err k) f e = clash e

-- what the packets of an accepted precinct rest on
pub stands : {s : List ℕ} {c : Setting} {p : Precinct} {top : Bool} {n : ℕ} → Lent s c p.at n → Placed c p top → IsPrecinct s c p.row p.column p.at p
    → first (header_checks s c p.row p.column p.at top) ≡ Fine → Standing s c p n
unfolding D
stands {s} {c} {p} {top} lent placed x e =
    record {
      short = lent.short;
      row = placed.row;
      column = placed.column;
      at = omega (arith, ends_at x);
      end = omega (arith, ends_at x, header_inside s c p.row p.column p.at top e);
      predicted = λ b l there d. by top refl b l there d;
      room = lent.room;
    }
  where
    by : (t : Bool) → top ≡ t → (b : ℕ) → b < NL c.shape → band_exists c.shape b ≡ true → D s c p b % 2 ≡ 1 → 0 < p.row
    by false t b l there d = placed.later t
    by true t b l there d = absurd (omega (arith, header_modes s c p.row p.column p.at top e t b l there))

-- ---- the largest T of a band

pub raised_next : (c : Setting) (p : Precinct) (b : ℕ) (tops : List ℕ) {out : List ℕ} {r : ℕ} → out ≡ raised c p b tops → r ≡ raised_by c p b (get_or tops b 0) → set out b r ≡ raised c p (b + 1) tops
unfolding raised
raised_next c p b tops e f = rw (add-one, e, f)
