-- Document 02, C-22, as statements of one reading with a plane of distances: s is the stream, d the plane that is lent and d' the plane afterwards, and the rest is as
-- in Demands and Damaged. `ReadsPlaces s a w d r a' w' d'`, the contract of `read_places`, gives those of a whole page, and `ReadsDamagedPlaces`, that of
-- `read_damaged_places`, those of a damaged one.
use Rattle.std.specs.Prelude.{Bool, true, false, cond, List, ◌++◌, ◌↔◌, ◌≡◌, ℕ, ◌*◌, ◌-◌, ◌^◌, ◌≤◌, ◌<◌, ℤ, length, get_or}
use Rattle.whole.specs.Numbers.{Near}
use Rattle.rows.specs.declared.Check.{Check}
use Rattle.rows.specs.Tables.{Unbroken}
use Rattle.header.specs.Table.{header_checks}
use Rattle.slices.specs.Table.{stream_checks}
use Rattle.slices.specs.Walk.{walk_table}
use Rattle.planes.specs.Values.{Coefficients, Values, in_planes}
use Rattle.planes.specs.Places.{Inside}
use Rattle.reader.specs.declared.page.Page.{Page}
use Rattle.reader.specs.Settings.{depth_of, N}
use Rattle.reader.specs.Decoding.{samples_from}
use Rattle.reader.specs.Page.{header_of, work_by}
use Rattle.reader.specs.Places.{room_checks_by, lent_verdict_by}
use Rattle.demands.specs.Stored.{shape, setting, beginning, scaled_up, Quantised, QuantisedWhere}
use Rattle.demands.specs.Demands.{sample_at, Decided}
use Rattle.demands.specs.Damaged.{damaged_states, mark_at, Counts}

-- the distance of the sample of component i in column x and row y
abbrev pub distance_at : List ℕ → List ℕ → Values ℕ
distance_at s d' = in_planes (shape s) d'

-- ---- demand 1: 'a refused page leaves the plane unchanged', and of one that is read the cells behind the N are as they were

pub record OnePlane (s d : List ℕ) (r : Page) (d' : List ℕ) : Type 0 where
  pub refused : (r.answer ≡ 0 → ⊥) → d' ≡ d
  pub rest : r.answer ≡ 0 → (n : ℕ) → N (header_of s) ≤ n → get_or d' n 0 ≡ get_or d n 0

-- and beside the plane, also where it is short, what `One` and `OneDamaged` say of a reading without it: no number above 8, or of a damaged page above 6
pub record OneBeside (damaged : Bool) (s a : List ℕ) (w : List ℤ) (m d : List ℕ) (r : Page) (a' : List ℕ) (w' : List ℤ) (m' : List ℕ) : Type 0 where
  pub answer : r.answer ≤ cond damaged 6 8
  pub place : r.place ≤ length s
  pub samples : (r.answer ≡ 0 → ⊥) → a' ≡ a
  pub marks : (r.answer ≡ 0 → ⊥) → m' ≡ m
  -- row 5 has passed where the plane has too
  pub work : w' ≡ work_by (lent_verdict_by damaged true s (length a) (length w) (length m) (length d)) (2 * N (header_of s)) w

-- ---- the checks, of a whole page and of a damaged one: row 5 asks for N cells of the plane, behind what it asks for without one. 'A short plane is 5'

unfoldable pub table_with : List ℕ → ℕ → ℕ → ℕ → List Check
table_with s a w d = header_checks s ++ (room_checks_by false true (header_of s) a w 0 d ++ stream_checks s (setting s) (beginning s))

unfoldable pub page_table_with : List ℕ → ℕ → ℕ → ℕ → ℕ → List Check
page_table_with s a w m d = header_checks s ++ (room_checks_by true true (header_of s) a w m d ++ walk_table s (setting s) (header_of s).slice)

-- by the table t: 0 exactly when none of its checks is broken, and otherwise the first broken one decides. Each distance of a page that is read is the one
-- that f tells
pub record TwoPlane (t : List Check) (s : List ℕ) (f : Values ℕ) (r : Page) (d' : List ℕ) : Type 0 where
  pub accepted : (r.answer ≡ 0) ↔ Unbroken t
  pub refused : (r.answer ≡ 0 → ⊥) → Decided t r
  pub distance : r.answer ≡ 0 → (i x y : ℕ) → Inside (shape s) i x y → distance_at s d' i x y ≡ f i x y

-- ---- demand 3 'sample by sample with these smaller numbers, and none exceeds its component's distance', of a page that is read

pub record ThreePlaces (s a' d' : List ℕ) (r : Page) : Type 0 where
  pub near : (C : Coefficients) → Quantised s C → (i x y : ℕ) → Inside (shape s) i x y
      → Near (distance_at s d' i x y) (sample_at s a' i x y) (samples_from (header_of s) (scaled_up s C) i x y)
  pub most : (i x y : ℕ) → Inside (shape s) i x y → distance_at s d' i x y ≤ get_or r.distance i 0

-- the same of the samples marked 0. 'Samples marked lost under C-15 get 2^B − 1 instead and are outside both statements'
pub record ThreeDamagedPlaces (s a' m' d' : List ℕ) (r : Page) : Type 0 where
  pub near : (C : Coefficients) → QuantisedWhere s (damaged_states s) (Counts s) C → (i x y : ℕ) → Inside (shape s) i x y → mark_at s m' i x y ≡ 0
      → Near (distance_at s d' i x y) (sample_at s a' i x y) (samples_from (header_of s) (scaled_up s C) i x y)
  pub most : (i x y : ℕ) → Inside (shape s) i x y → mark_at s m' i x y ≡ 0 → distance_at s d' i x y ≤ get_or r.distance i 0
  pub lost : (i x y : ℕ) → Inside (shape s) i x y → mark_at s m' i x y ≡ 1 → distance_at s d' i x y ≡ 2 ^ depth_of (header_of s) i - 1

-- 'if every T is 0', all are 0; and of a damaged page, where every T of the slices that are not spoilt is 0, those of the samples marked 0
abbrev pub ExactPlaces : List ℕ → List ℕ → Type 0
ExactPlaces s d' = (i x y : ℕ) → Inside (shape s) i x y → distance_at s d' i x y ≡ 0

abbrev pub ExactDamagedPlaces : List ℕ → List ℕ → List ℕ → Type 0
ExactDamagedPlaces s m' d' = (i x y : ℕ) → Inside (shape s) i x y → mark_at s m' i x y ≡ 0 → distance_at s d' i x y ≡ 0

-- ---- a reading without the plane leaves the record r; one of the same stream into the same buffers, and a plane of d cells, leaves the record q

-- 'a short plane is 5', at the first slice header, where the page would have been read without it
abbrev pub ShortPlane : List ℕ → ℕ → Page → Page → Type 0
ShortPlane s d r q = r.answer ≡ 0 → d < N (header_of s) → (q.answer ≡ 5) × (q.place ≡ (header_of s).slice)
