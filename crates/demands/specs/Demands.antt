-- The customer's three demands, as statements of one reading: s is the stream, a and w are the sample and work cells that are lent, r is the record, and a' and
-- w' are the cells afterwards. `Reads s a w r a' w'`, the contract of `read`, gives each of them.
use Rattle.std.specs.Prelude.{◌≡◌, ◌↔◌, List, ℕ, ◌*◌, ◌≤◌, ℤ, nat_abs, length, get_or}
use Rattle.whole.specs.Numbers.{Near}
use Rattle.rows.specs.Rows.{number}
use Rattle.rows.specs.declared.Check.{Check}
use Rattle.rows.specs.Tables.{Unbroken, FirstBroken}
use Rattle.quantiser.specs.Inverse.{coefficient_of, scaled, Carried}
use Rattle.wavelet.specs.Transform.{Kind}
use Rattle.slices.specs.Slice.{State}
use Rattle.planes.specs.Values.{Coefficients, Values, in_planes}
use Rattle.planes.specs.Places.{Inside}
use Rattle.reader.specs.declared.page.Page.{Page}
use Rattle.reader.specs.Settings.{N}
use Rattle.reader.specs.Decoding.{samples_from, coefficients}
use Rattle.reader.specs.Page.{header_of, lent_verdict, work_by}
use Rattle.reader.specs.Places.{place_distance}
use Rattle.demands.specs.Stored.{its_slot, its_candidate, shape, setting, β, scaled_up, truncation_from, planes_from, stored_from, OnLineFrom, dequantised_from, plain_states, dequantised, Quantised}
use Rattle.demands.specs.Table.{table_of}

-- the sample of component i in column x and row y: 'samples stand component by component, row by row'
abbrev pub sample_at : List ℕ → List ℕ → Values ℕ
sample_at s a' = in_planes (shape s) a'

-- ---- demand 1: 'every stream, damaged or foreign, is read or refused by a number of document 01, with the place. A refused page leaves the sample buffer
-- untouched, and the work buffer as document 01 states'

pub record One (s a : List ℕ) (w : List ℤ) (r : Page) (a' : List ℕ) (w' : List ℤ) : Type 0 where
  -- a number of document 01, 0 to 8, and a place in the stream
  pub answer : r.answer ≤ 8
  pub place : r.place ≤ length s
  -- a refused page leaves every sample cell
  pub samples : (r.answer ≡ 0 → ⊥) → a' ≡ a
  -- the work cells are unchanged until row 5 has passed; from then on the first 2N are 0 and the rest unchanged
  pub work : w' ≡ work_by (lent_verdict s (length a) (length w)) (2 * N (header_of s)) w

-- ---- demand 2: 'a stream is accepted exactly when no row of document 01's refusal table applies, and each sample is then the one that ISO/IEC
-- 21122-1:2024 defines'

-- the first broken check of the table decides: its row's number and its place are the answer's
pub record Decided (t : List Check) (r : Page) : Type 0 where
  pub check : Check
  pub first_broken : FirstBroken t check
  pub answer : r.answer ≡ number check.0
  pub place : r.place ≡ check.1

pub record Two (s a : List ℕ) (w : List ℤ) (r : Page) (a' : List ℕ) : Type 0 where
  -- 0 exactly when no check of the table is broken
  pub accepted : (r.answer ≡ 0) ↔ Unbroken (table_of s (length a) (length w))
  -- and otherwise the first broken one decides
  pub refused : (r.answer ≡ 0 → ⊥) → Decided (table_of s (length a) (length w)) r
  -- each sample of an accepted page is G.3 of F.3 of Annex E of the coefficients c' × 2^Fq, where Annex D makes c' of the indices that Annex C stores.
  -- `samples_from` is Annex E, F.3 where Cpih is 1, and G.3
  pub sample : r.answer ≡ 0 → (i x y : ℕ) → Inside (shape s) i x y → sample_at s a' i x y ≡ samples_from (header_of s) (scaled_up s (dequantised s)) i x y

-- ---- the coefficients of an accepted page, by name: of component i, in a band with the letters k and the depths dx and dy, in its column x and row y

-- where D is what a reading decodes, which takes the slices from the states z
pub record ByNameFrom (s : List ℕ) (z : ℕ → State) (D : Coefficients) (i : ℕ) (k : Kind) (dx dy x y : ℕ) : Type 0 where
  -- E.3, Table E.2: what the reader decodes is c'[p,λ,b,ξ] × 2^Fq, of its own index, its own group's M and its own precinct and band's T
  pub is : D i k dx dy x y ≡ scaled_up s (dequantised_from s z) i k dx dy x y
  -- M is at most 31, and M − T planes carry the index
  pub carried : Carried (planes_from s z i k dx dy x y) (truncation_from s z i k dx dy x y) (nat_abs (stored_from s z i k dx dy x y))
  -- no other index that they carry gives the coefficient
  pub one : (index : ℤ) → Carried (planes_from s z i k dx dy x y) (truncation_from s z i k dx dy x y) (nat_abs index)
      → D i k dx dy x y ≡ scaled (setting s).fq (coefficient_of (setting s).uniform (planes_from s z i k dx dy x y) (truncation_from s z i k dx dy x y) index)
      → index ≡ stored_from s z i k dx dy x y
  -- the line that Table E.2 names is its row of its band, in its precinct, and no other line is
  pub line : OnLineFrom s z i k dx dy x y (its_slot (shape s) (β s i k dx dy x y) i x y) (its_candidate (shape s) (β s i k dx dy x y) i x y)
  pub only : (slot j : ℕ) → OnLineFrom s z i k dx dy x y slot j
      → (slot ≡ its_slot (shape s) (β s i k dx dy x y) i x y) × (j ≡ its_candidate (shape s) (β s i k dx dy x y) i x y)

-- as `read` takes them
abbrev pub ByName : List ℕ → ℕ → Kind → ℕ → ℕ → ℕ → ℕ → Type 0
ByName s = ByNameFrom s (plain_states s) (coefficients s (header_of s))

-- ---- demand 3, of an accepted page: 'for any whole-number coefficients, each of size below 2^max(M, T), that the standard's forward quantiser turns into the
-- indices stored, every sample read lies within the distance of the sample those coefficients give'

-- `Near e m n` says that m and n differ by at most e; `samples_from` is the definition that gives the samples of demand 2
pub record Three (s a' : List ℕ) (r : Page) : Type 0 where
  -- within the record's distance of its component
  pub near : (C : Coefficients) → Quantised s C → (i x y : ℕ) → Inside (shape s) i x y
      → Near (get_or r.distance i 0) (sample_at s a' i x y) (samples_from (header_of s) (scaled_up s C) i x y)
  -- and within the distance that document 01's rule gives its own place
  pub near_place : (C : Coefficients) → Quantised s C → (i x y : ℕ) → Inside (shape s) i x y
      → Near (place_distance s (header_of s) i x y) (sample_at s a' i x y) (samples_from (header_of s) (scaled_up s C) i x y)
  -- there are such coefficients: those that the page itself gives
  pub some : Quantised s (dequantised s)

-- 'if every T is 0', every distance is 0, and the sample read is the sample of those coefficients
pub record Exact (s a' : List ℕ) (r : Page) : Type 0 where
  pub distance : (i : ℕ) → get_or r.distance i 0 ≡ 0
  pub sample : (C : Coefficients) → Quantised s C → (i x y : ℕ) → Inside (shape s) i x y → sample_at s a' i x y ≡ samples_from (header_of s) (scaled_up s C) i x y
