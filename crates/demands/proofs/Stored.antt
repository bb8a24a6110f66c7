-- What an accepted page stores of each coefficient: its index, by name, and the largest T of its band. Assumes nothing.
use mathlib.Core.Path.{◌≡◌, refl, sym, subst, ap, ◌∙◌}
use mathlib.Core.List.{List}
use Prim.Native.Nat.{ℕ, ◌+◌, ◌*◌, ◌-◌, ◌/◌, ◌%◌, ◌≤◌, ◌<◌}
use native.Mathlib.Nat.{lt_of_lt_of_le, mod-lt}
use native.Mathlib.Omega.{arith}
use lib.IntN.{ℤ, pos, nat_abs}
use lib.ListN.{length, get_or, length-replicate}
use lib.Pow.{pow_mono}
use Rattle.whole.specs.Cells.{cell}
use Rattle.loops.specs.Before.{before}
use Rattle.rows.specs.Rows.{Fine}
use Rattle.quantiser.specs.Inverse.{coefficient_of, scaled, Carried}
use Rattle.quantiser.proofs.Laws.{coefficient_small, index_back, coefficient_one, scaled_one}
use Rattle.wavelet.specs.Transform.{Kind}
use Rattle.wavelet.specs.Bands.{Coefficient}
use Rattle.layout.specs.Bands.{sy, Wc, Hc, N'x, N'y, NL, band}
use Rattle.layout.specs.Precincts.{slices, first_x, first_y}
use Rattle.layout.specs.Packets.{included}
use Rattle.layout.specs.Cells.{start}
use Rattle.layout.specs.Slots.{slot_type, slot_line, line as line_of, line_at}
use Rattle.layout.proofs.Sums.{bands_most}
use Rattle.layout.proofs.Cells.{Exists}
use Rattle.layout.proofs.Cover.{column_of, place_of}
use Rattle.layout.proofs.Once.{Named as NamedLine, one_line}
use Rattle.packets.specs.Precincts.{T}
use Rattle.packets.proofs.Addresses.{Addressed}
use Rattle.packets.proofs.Lines.{band_parts}
use Rattle.slices.specs.Slice.{State}
use Rattle.slices.specs.Reached.{slice_planes, slice_index}
use Rattle.slices.specs.Walk.{slice_place}
use Rattle.slices.proofs.Reaching.{stream_left}
use Rattle.slices.proofs.WalkHas.{slice_walk_has, stream_stands}
use Rattle.slices.proofs.PrecinctCoefficients.{Stored}
use Rattle.slices.proofs.Coefficients.{ReadsOne, stream_reads, number_is, own_place, own_line, states_coefficients}
use Rattle.planes.specs.Places.{coefficients_in}
use Rattle.distances.proofs.Types.{type_exists, type_cell}
use Rattle.places.specs.Own.{truncation_at}
use Rattle.reader.specs.Settings.{N}
use Rattle.reader.specs.Decoding.{decoded, decoded_verdict, tops, cells}
use Rattle.reader.specs.Page.{header_of, Reads}
use Rattle.reader.specs.declared.page.Page.{Page}
use Rattle.reader.specs.Steps.{Opened}
use Rattle.reader.proofs.Openings.{settled}
use Rattle.demands.specs.Stored.{its_slice, its_number, its_slot, its_candidate, place_with, shape, setting, beginning, β, scaled_up, precinct_from, truncation_from, planes_from, stored_from, OnLineFrom, QuantisedAt, dequantised_from, plain_states}
use Rattle.demands.specs.Demands.{ByNameFrom, ByName}
use Rattle.demands.proofs.Accepted.{page_read}

-- ---- a coefficient of an accepted header's page, and its slice

module _ {s : List ℕ} (o : Opened s (header_of s)) {i : ℕ} (h : i < (shape s).nc) {k : Kind} {dx dy x y : ℕ}
    (d : Coefficient (Wc (shape s) i) (Hc (shape s) i) (N'x (shape s) i) (N'y (shape s) i) k dx dy x y) where
  pub exists : Exists (shape s) i (β s i k dx dy x y) x y
  exists = type_exists (shape s) o.shape i h k dx dy d

  pub slice_inside : its_slice (shape s) (β s i k dx dy x y) i x y < slices (shape s)
  slice_inside = (number_is s (setting s) (settled o) h exists).slice

-- states one after the other, from where the slices begin, each where the walk comes to its slice: behind the last slice are these largest T and these cells
pub record Leads (s : List ℕ) (z : ℕ → State) (tops : List ℕ) (cells : List ℤ) : Type 0 where
  pub from : z 0 ≡ beginning s
  pub stands : (t : ℕ) → t ≤ slices (shape s) → (z t).0 ≡ slice_place s (setting s) (header_of s).slice t
  pub largest : (z (slices (shape s))).1 ≡ tops
  pub left : (z (slices (shape s))).2 ≡ cells

-- where the step from one of them reads the coefficient's slice, and the others keep what it leaves
module _ {s : List ℕ} (o : Opened s (header_of s)) {z : ℕ → State} {tops : List ℕ} {cells : List ℤ} (w : Leads s z tops cells) {i : ℕ} (h : i < (shape s).nc)
    {k : Kind} {dx dy x y : ℕ} (d : Coefficient (Wc (shape s) i) (Hc (shape s) i) (N'x (shape s) i) (N'y (shape s) i) k dx dy x y)
    (reads : ReadsOne s (setting s) z (its_slice (shape s) (β s i k dx dy x y) i x y)) where
  abbrev b : ℕ
  b = β s i k dx dy x y

  abbrev t : ℕ
  t = its_slice (shape s) b i x y

  abbrev n : ℕ
  n = its_number (shape s) b i x y

  room : start (shape s) (shape s).nc ≤ length (z 0).2
  room = rw w.from (omega (arith, length-replicate (2 * N (header_of s)) (pos 0)))

  long : NL (shape s) ≤ length (z 0).1
  long = rw w.from (omega (arith, length-replicate {A = ℕ} 40 0, bands_most (shape s) o.shape))

  -- the line in which it stands, and what the slices leave of it there
  abbrev ξ : ℕ
  ξ = own_place s (setting s) (settled o) h (exists o h d)

  abbrev at_line : Addressed (shape s) (precinct_from s z i k dx dy x y).row (precinct_from s z i k dx dy x y).column i b x y ξ
  at_line = own_line s (setting s) (settled o) h (exists o h d)

  abbrev StoredBy : ℕ → ℕ → ℕ → Type 0
  StoredBy slot j ξ =
      Stored (setting s) (precinct_from s z i k dx dy x y) (slice_planes s (setting s) (z t) t n slot j (ξ / 4)) (slice_index s (setting s) (z t) t n slot j ξ) tops cells i b x y

  left : StoredBy at_line.slot at_line.j ξ
  left =
      let stored = states_coefficients s (setting s) (settled o) z room long h (exists o h d) reads in
      rw (w.largest, w.left) at stored

  -- Table E.2's place there
  place_is : ξ ≡ place_with (shape s) b i x y
  place_is =
      ap (λ (c : ℕ). x - first_x (shape s) c b i) (left.member.across ∙ column_of (shape s) o.shape b i (exists o h d).type h x)
      ∙ place_of (shape s) o.shape b i (exists o h d).type h x (exists o h d).column

  -- by name
  stored : StoredBy (its_slot (shape s) b i x y) (its_candidate (shape s) b i x y) (place_with (shape s) b i x y)
  stored = subst (λ (q : ℕ × ℕ × ℕ). StoredBy q.0 q.1 q.2) (λ n. (at_line.slot_is n, at_line.j_is n, place_is n)) left

  pub coefficient_is : coefficients_in (shape s) cells i k dx dy x y ≡ scaled_up s (dequantised_from s z) i k dx dy x y
  unfolding truncation_from planes_from stored_from
  coefficient_is = ap (λ (n : ℕ). cell cells (start (shape s) i + n)) (sym (type_cell (shape s) o.shape i h k dx dy d)) ∙ stored.named.is

  pub index_carried : Carried (planes_from s z i k dx dy x y) (truncation_from s z i k dx dy x y) (nat_abs (stored_from s z i k dx dy x y))
  unfolding truncation_from planes_from stored_from
  index_carried = stored.named.carried

  index_one : (index : ℤ) → Carried (planes_from s z i k dx dy x y) (truncation_from s z i k dx dy x y) (nat_abs index)
      → coefficients_in (shape s) cells i k dx dy x y ≡ scaled (setting s).fq (coefficient_of (setting s).uniform (planes_from s z i k dx dy x y) (truncation_from s z i k dx dy x y) index)
      → index ≡ stored_from s z i k dx dy x y
  index_one index carried is =
      let M = planes_from s z i k dx dy x y in
      let T = truncation_from s z i k dx dy x y in
      coefficient_one (setting s).uniform M T index (stored_from s z i k dx dy x y) carried.below index_carried.below
      (scaled_one (setting s).fq (coefficient_of (setting s).uniform M T index) (dequantised_from s z i k dx dy x y) (sym is ∙ coefficient_is))

  pub largest_known : truncation_from s z i k dx dy x y ≤ get_or tops (band (shape s) b i) 0
  unfolding truncation_from
  largest_known = stored.largest

  -- the walk finds its precinct, and so its T
  pub truncation_walks : truncation_from s z i k dx dy x y ≡ truncation_at s (setting s) (header_of s).slice i k dx dy x y
  unfolding truncation_from truncation_at
  truncation_walks =
      let found =
      slice_walk_has s (setting s) (header_of s).slice t (z t) (w.stands t (omega (arith, slice_inside o h d))) (λ m. (reads.own m).0) n
      (number_is s (setting s) (settled o) h (exists o h d)).precinct in
      λ m. T (setting s) (found m) (band (shape s) b i)

  on_line : OnLineFrom s z i k dx dy x y (its_slot (shape s) b i x y) (its_candidate (shape s) b i x y)
  on_line =
      subst (λ (q : ℕ × ℕ). OnLineFrom s z i k dx dy x y q.0 q.1) (λ n. (at_line.slot_is n, at_line.j_is n))
      (record { which = at_line.there.which; candidate = at_line.there.candidate; present = at_line.there.present; band = at_line.band; row = at_line.height })

  named : {slot j : ℕ} → OnLineFrom s z i k dx dy x y slot j → NamedLine (shape s) (precinct_from s z i k dx dy x y).row b i y slot j
  unfolding line_at line_of
  named {slot} {j} q =
      let parts = band_parts (shape s) b i h in
      let parts' = band_parts (shape s) (slot_type (shape s) slot + j / (shape s).nc) (j % (shape s).nc) (mod-lt j o.shape.some) in
      let t : slot_type (shape s) slot + j / (shape s).nc ≡ b = sym parts'.0 ∙ ap (λ (n : ℕ). n / (shape s).nc) q.band ∙ parts.0 in
      let c : j % (shape s).nc ≡ i = sym parts'.1 ∙ ap (λ (n : ℕ). n % (shape s).nc) q.band ∙ parts.1 in
      let row = (precinct_from s z i k dx dy x y).row in
      record {
        slot = q.which;
        candidate = q.candidate;
        type = t;
        component = c;
        line = (λ n. first_y (shape s) row (sym t n) (sym c n) + slot_line slot / sy (shape s) (sym c n)) ∙ q.row;
        present = (λ n. included (shape s) row (sym t n) (sym c n) (slot_line slot)) ∙ q.present;
      }

  only_line : (slot j : ℕ) → OnLineFrom s z i k dx dy x y slot j → (slot ≡ its_slot (shape s) b i x y) × (j ≡ its_candidate (shape s) b i x y)
  only_line slot j q = one_line (shape s) o.shape b i (exists o h d).type h (named q) (named on_line)

  pub named_by : ByNameFrom s z (coefficients_in (shape s) cells) i k dx dy x y
  named_by = record { is = coefficient_is; carried = index_carried; one = index_one; line = on_line; only = only_line }

  -- the forward quantiser takes what the inverse quantiser gives back to the index stored
  pub own_quantised : QuantisedAt s z i k dx dy x y (dequantised_from s z i k dx dy x y)
  own_quantised =
      let u = (setting s).uniform in
      let M = planes_from s z i k dx dy x y in
      let T = truncation_from s z i k dx dy x y in
      let index = stored_from s z i k dx dy x y in
      record {
        small = lt_of_lt_of_le (coefficient_small u M T index index_carried.below) (pow_mono (omega arith));
        gives = index_back u M T index index_carried.below;
      }

-- ---- `read` reads every slice

module _ {s : List ℕ} (o : Opened s (header_of s)) (fine : decoded_verdict s (header_of s) ≡ Fine) where
  pub plain_leads : Leads s (plain_states s) (tops s (header_of s)) (cells s (header_of s))
  unfolding decoded before
  plain_leads =
      let left = stream_left s (setting s) (beginning s) fine in
      record { from = refl; stands = stream_stands s (setting s) (beginning s) fine; largest = λ n. (sym left n).1.1; left = λ n. (sym left n).1.2 }

  pub plain_reads : {i : ℕ} (h : i < (shape s).nc) {k : Kind} {dx dy x y : ℕ} (d : Coefficient (Wc (shape s) i) (Hc (shape s) i) (N'x (shape s) i) (N'y (shape s) i) k dx dy x y)
      → ReadsOne s (setting s) (plain_states s) (its_slice (shape s) (β s i k dx dy x y) i x y)
  unfolding decoded
  plain_reads {i} h {k} {dx} {dy} {x} {y} d =
      stream_reads s (setting s) (settled o) (beginning s) fine (its_slice (shape s) (β s i k dx dy x y) i x y) (slice_inside o h d)

-- ---- of a page that is read

-- every coefficient is c'[p,λ,b,ξ] × 2^Fq for the precinct, line and place that Table E.2 gives: what the demands say of `dequantised` is said of what the reader
-- decodes, with M of the coefficient's own group and T of its own precinct
pub coefficient_by_name : {s a a' : List ℕ} {w w' : List ℤ} {r : Page} → Reads s a w r a' w' → r.answer ≡ 0 → (i : ℕ) → i < (shape s).nc → (k : Kind) (dx dy x y : ℕ)
    → Coefficient (Wc (shape s) i) (Hc (shape s) i) (N'x (shape s) i) (N'y (shape s) i) k dx dy x y → ByName s i k dx dy x y
coefficient_by_name read accepted i h k dx dy x y d =
    let page = page_read read accepted in
    named_by page.opened (plain_leads page.opened page.fine) h d (plain_reads page.opened page.fine h d)
