-- Document 02, C-15, as statements of one reading of a damaged page: s is the stream, a, w and m are the sample cells, work cells and marks that are lent, r is
-- the record, and a', w' and m' are the cells and marks afterwards. `ReadsDamaged s a w m r a' w' m'`, the contract of `read_damaged`, gives each of them. 'In this
-- mode demand 2 speaks of the samples marked 0, and so does demand 3, with the coefficients of spoilt slices left free.'
use Rattle.std.specs.Prelude.{Bool, true, false, List, ◌++◌, ◌↔◌, ◌≡◌, ℕ, ◌*◌, ◌≤◌, ◌<◌, ℤ, length, get_or, drop, replicate}
use Rattle.whole.specs.Numbers.{Near}
use Rattle.rows.specs.declared.Check.{Check}
use Rattle.rows.specs.Tables.{Unbroken}
use Rattle.wavelet.specs.Transform.{Kind}
use Rattle.layout.specs.Bands.{NL}
use Rattle.layout.specs.Precincts.{Np, slices}
use Rattle.header.specs.Table.{header_checks}
use Rattle.packets.specs.Precincts.{T}
use Rattle.slices.specs.Precinct.{holds}
use Rattle.slices.specs.Slice.{State}
use Rattle.slices.specs.Reached.{slice_has}
use Rattle.slices.specs.Walk.{walk_table}
use Rattle.damage.specs.Stream.{before_damaged}
use Rattle.damage.specs.Apart.{Differing}
use Rattle.planes.specs.Values.{Coefficients, Values, in_planes}
use Rattle.planes.specs.Marks.{bit}
use Rattle.planes.specs.Places.{Inside}
use Rattle.reader.specs.declared.page.Page.{Page}
use Rattle.reader.specs.Settings.{N}
use Rattle.reader.specs.Decoding.{samples_from, begun}
use Rattle.reader.specs.Page.{header_of, work_by}
use Rattle.reader.specs.Modes.{spoilt_slice, lost_sample, room_checks_in, lent_verdict_in}
use Rattle.demands.specs.Stored.{shape, setting, Each, scaled_up, dequantised_from, QuantisedWhere}
use Rattle.demands.specs.Lost.{lost_at, spared}
use Rattle.demands.specs.Demands.{sample_at, Decided}

module _ (s : List ℕ) where
  -- the states from which the slices of a damaged page are read
  abbrev pub damaged_states : ℕ → State
  damaged_states t = before_damaged s (setting s) (begun (header_of s)) t

  -- a slice is spoilt
  abbrev pub lost : ℕ → Bool
  lost = spoilt_slice s (header_of s)

-- the mark of the sample of component i in column x and row y
abbrev pub mark_at : List ℕ → List ℕ → Values ℕ
mark_at s m' = in_planes (shape s) m'

-- ---- demand 1

pub record OneDamaged (s a : List ℕ) (w : List ℤ) (m : List ℕ) (r : Page) (a' : List ℕ) (w' : List ℤ) (m' : List ℕ) : Type 0 where
  -- rows 7 and 8 spoil a slice, and never answer
  pub answer : r.answer ≤ 6
  pub place : r.place ≤ length s
  -- a refused page leaves every sample cell, and every mark
  pub samples : (r.answer ≡ 0 → ⊥) → a' ≡ a
  pub marks : (r.answer ≡ 0 → ⊥) → m' ≡ m
  pub work : w' ≡ work_by (lent_verdict_in true s (length a) (length w) (length m)) (2 * N (header_of s)) w
  -- of a page that is read the first N marks are 0 or 1, and those behind them as they were
  pub marked : r.answer ≡ 0 → (n : ℕ) → n < N (header_of s) → get_or m' n 0 ≤ 1
  pub rest : r.answer ≡ 0 → (n : ℕ) → N (header_of s) ≤ n → get_or m' n 0 ≡ get_or m n 0

-- ---- demand 2

-- the checks that end a page: the header, row 5, and the walk by declared lengths, whatever stands in the precincts
unfoldable pub page_table : List ℕ → ℕ → ℕ → ℕ → List Check
page_table s a w m = header_checks s ++ (room_checks_in true (header_of s) a w m ++ walk_table s (setting s) (header_of s).slice)

-- what the reader decodes: Annex D of what the stream stores, × 2^Fq; 'sets that slice's coefficients to 0'
abbrev pub kept : List ℕ → Coefficients
kept s = scaled_up s (spared s (lost s) (dequantised_from s (damaged_states s)))

-- a coefficient counts where it is not lost; what it is where it is lost is free
abbrev pub Counts : List ℕ → ℕ → Kind → ℕ → ℕ → ℕ → ℕ → Type 0
Counts s i k dx dy x y = lost_at s (lost s) i k dx dy x y ≡ false

pub record TwoDamaged (s a : List ℕ) (w : List ℤ) (m : List ℕ) (r : Page) (a' m' : List ℕ) : Type 0 where
  -- 0 exactly when none of these checks is broken, and otherwise the first broken one decides
  pub accepted : (r.answer ≡ 0) ↔ Unbroken (page_table s (length a) (length w) (length m))
  pub refused : (r.answer ≡ 0 → ⊥) → Decided (page_table s (length a) (length w) (length m)) r
  -- every sample, marked or not
  pub sample : r.answer ≡ 0 → (i x y : ℕ) → Inside (shape s) i x y → sample_at s a' i x y ≡ samples_from (header_of s) (kept s) i x y
  -- '1 where a sample depends on a lost coefficient, directly or through Annex E's filters or the colour transform, and 0 elsewhere'
  pub mark : r.answer ≡ 0 → (i x y : ℕ) → Inside (shape s) i x y → mark_at s m' i x y ≡ bit (lost_sample s (header_of s) i x y)
  -- a sample marked 0 is the one that the standard defines, whatever the lost coefficients were
  pub shield : r.answer ≡ 0 → (C : Coefficients)
      → Each s (λ i k dx dy x y. Counts s i k dx dy x y → C i k dx dy x y ≡ scaled_up s (dequantised_from s (damaged_states s)) i k dx dy x y)
      → (i x y : ℕ) → Inside (shape s) i x y → mark_at s m' i x y ≡ 0 → sample_at s a' i x y ≡ samples_from (header_of s) C i x y

-- ---- demand 3, of a page that is read: 'with the coefficients of spoilt slices left free'

pub record ThreeDamaged (s a' m' : List ℕ) (r : Page) : Type 0 where
  pub near : (C : Coefficients) → QuantisedWhere s (damaged_states s) (Counts s) C → (i x y : ℕ) → Inside (shape s) i x y → mark_at s m' i x y ≡ 0
      → Near (get_or r.distance i 0) (sample_at s a' i x y) (samples_from (header_of s) (scaled_up s C) i x y)
  -- there are such coefficients
  pub some : QuantisedWhere s (damaged_states s) (Counts s) (dequantised_from s (damaged_states s))

-- 'if every T is 0' of the slices that are not spoilt
abbrev pub UncutKept : List ℕ → Type 0
UncutKept s =
    (t : ℕ) → t < slices (shape s) → lost s t ≡ false → (n : ℕ) → n < Np (shape s) t → (b : ℕ) → b < NL (shape s)
    → holds (setting s) (slice_has s (setting s) (damaged_states s t) t n) b ≡ true → T (setting s) (slice_has s (setting s) (damaged_states s t) t n) b ≡ 0

pub record ExactDamaged (s a' m' : List ℕ) (r : Page) : Type 0 where
  pub distance : (i : ℕ) → get_or r.distance i 0 ≡ 0
  pub sample : (C : Coefficients) → QuantisedWhere s (damaged_states s) (Counts s) C → (i x y : ℕ) → Inside (shape s) i x y → mark_at s m' i x y ≡ 0
      → sample_at s a' i x y ≡ samples_from (header_of s) (scaled_up s C) i x y

-- ---- 'Suppose a sound stream and a damaged one of equal length differ only in one slice, outside precinct lengths and slice headers, and the damaged slice is
-- refused. Then every sample marked 0 is the same in both'

-- s is sound, and s' the damaged one, in its slice t
pub record DamagedIn (s s' : List ℕ) (t : ℕ) : Type 0 where
  pub slice : t < slices (shape s)
  pub differ : Differing s s' (setting s) (header_of s).slice t
  -- 'the damaged slice is refused'
  pub refused : lost s' t ≡ true

-- a' are the samples that `read` leaves of s; b', m' and q are the samples, marks and record that `read_damaged` leaves of s'
pub record ApartFrom (s a' s' b' m' : List ℕ) (q : Page) : Type 0 where
  pub answer : q.answer ≡ 0
  pub sample : (i x y : ℕ) → Inside (shape s) i x y → mark_at s' m' i x y ≡ 0 → sample_at s' b' i x y ≡ sample_at s a' i x y

-- ---- a page that `read` reads is read alike, with the record r, the samples a' and the work cells w', and no mark: q, b', v' and m' are what `read_damaged`
-- leaves, and m are the marks that are lent
pub record WholeAs (s a' : List ℕ) (w' : List ℤ) (r : Page) (m b' : List ℕ) (v' : List ℤ) (m' : List ℕ) (q : Page) : Type 0 where
  pub page : q ≡ r
  pub samples : b' ≡ a'
  pub work : v' ≡ w'
  pub marks : m' ≡ replicate (N (header_of s)) 0 ++ drop (N (header_of s)) m
