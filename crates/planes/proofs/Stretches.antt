-- The stretches of the work cells that hold the components' values. Assumes nothing.
use mathlib.Core.Path.{◌≡◌, refl, subst}
use mathlib.Core.Logic.{◌≢◌}
use mathlib.Core.List.{List}
use Prim.Native.Nat.{ℕ, zero, suc, ◌+◌, ◌*◌, ◌-◌, ◌/◌, ◌%◌, ◌≤◌, ◌<◌}
use native.Mathlib.Nat.{mul_comm, mod-lt, div-lt_iff_lt-mul, div-add-mod'}
use native.Mathlib.Decide.{ℕ_discrete, dec_lt}
use native.Mathlib.Omega.{arith}
use lib.IntN.{ℤ, pos, nat_abs}
use lib.ListN.{length}
use Rattle.whole.specs.Cells.{cell}
use Rattle.wavelet.specs.Places.{bands, Component}
use Rattle.layout.specs.declared.Shape.{Shape}
use Rattle.layout.specs.Bands.{Wc, Hc, N'x, N'y}
use Rattle.layout.specs.Built.{Built}
use Rattle.layout.specs.Cells.{area, start}
use Rattle.layout.specs.Sizes.{component_of}
use Rattle.layout.proofs.Shapes.{component_small}
use Rattle.layout.proofs.Places.{place_found}
use Rattle.layout.proofs.Cells.{cell_below, starts_up}
use Rattle.planes.specs.Values.{Values, Every}
use Rattle.planes.specs.Places.{values_in, Inside, Ready}
use Rattle.planes.specs.Numbers.{NumbersOne, HoldingNumbers}
use Rattle.planes.specs.Components.{ReadyOne}

-- a component is one that Annex E takes
pub component : {s : Shape} → Built s → {i : ℕ} → i < s.nc → Component (Wc s i) (Hc s i) (N'x s i) (N'y s i) (area s i)
unfolding area
component {s} built {i} h =
    let p = component_small s i (component_of s i) built h refl in
    record {
      sheet = record { all = mul_comm (Hc s i) (Wc s i); wide = p.wide; narrow = p.narrow; high = p.high; low = p.low };
      levels = built.levels;
      fewer = p.levels;
      parts = (built.sampled i h).parts;
    }

module _ (s : Shape) where
  -- a value stands in its component's stretch
  pub offset_below : (i x y : ℕ) → x < Wc s i → y < Hc s i → y * Wc s i + x < area s i
  unfolding area
  offset_below i x y c r = cell_below (Wc s i) y x c (Hc s i) r

  -- and in no other's
  pub stretches_apart : {i j : ℕ} → i ≢ j → (n : ℕ) → n < area s i → start s j ≤ start s i + n → start s j + area s j ≤ start s i + n
  stretches_apart {i} {j} d n h = pick (dec_lt i j)
    where
      pick : Dec (i < j) → start s j ≤ start s i + n → start s j + area s j ≤ start s i + n
      pick (yes l) k = absurd (omega (arith, starts_up s i j l))
      pick (no l) k = omega (arith, starts_up s j i (omega (arith, d)))

-- every cell of the stretch is a value's: the n-th stands in column n mod W and row floor(n / W)
pub row_below : {s : Shape} → Built s → {i : ℕ} → i < s.nc → (n : ℕ) → n < area s i → (n % Wc s i < Wc s i) × (n / Wc s i < Hc s i)
unfolding area
row_below {s} built {i} h n l =
    let wide = (component built h).sheet.wide in
    (mod-lt n wide, (div-lt_iff_lt-mul wide).1 (omega (arith, mul_comm (Wc s i) (Hc s i))))

-- every place is some coefficient's: what holds of each coefficient, where it stands, holds of the value at each place
pub every_value : {A : Type 0} {s : Shape} → Built s → (P : A → Type 0) (v : Values A) → Every s (λ i k dx dy x y. P (bands (v i) k dx dy x y))
    → (i x y : ℕ) → Inside s i x y → P (v i x y)
every_value {s = s} built P v given i x y p =
    let f = place_found (Wc s i) (Hc s i) (N'x s i) (N'y s i) x y (built.sampled i p.component).parts.no_more p.column p.row in
    subst (λ (q : ℕ × ℕ). P (v i q.0 q.1)) (λ j. (f.stands.column j, f.stands.row j))
    (given i p.component f.kind f.dx f.dy f.x f.y f.stands.coefficient)

-- a cell is in the stretch of one of the first k components, or in none
pub data Owner (s : Shape) (k j : ℕ) : Type 0 where
  within : (i n : ℕ) → i < k → n < area s i → j ≡ start s i + n → Owner s k j
  outside : ((i : ℕ) → i < k → start s i ≤ j → start s i + area s i ≤ j) → Owner s k j

pub owner : (s : Shape) (k j : ℕ) → Owner s k j
owner s zero j = outside (λ i h. absurd (omega arith))
owner s (suc k) j = pick (owner s k j) (dec_lt j (start s k)) (dec_lt j (start s k + area s k))
  where
    none : ((i : ℕ) → i < k → start s i ≤ j → start s i + area s i ≤ j) → (start s k ≤ j → start s k + area s k ≤ j) → Owner s (suc k) j
    none f own = outside (λ i h. at i h (ℕ_discrete i k))
      where
        at : (i : ℕ) → i < suc k → Dec (i ≡ k) → start s i ≤ j → start s i + area s i ≤ j
        at i h (yes e) = rw e own
        at i h (no n) = f i (omega (arith, n))

    pick : Owner s k j → Dec (j < start s k) → Dec (j < start s k + area s k) → Owner s (suc k) j
    pick (within i n h b e) _ _ = within i n (omega arith) b e
    pick (outside f) (yes l) _ = none f (λ h. absurd (omega arith))
    pick (outside f) (no l) (yes m) = within k (j - start s k) (omega arith) (omega arith) (omega arith)
    pick (outside f) (no l) (no m) = none f (λ _. omega arith)

-- ---- what is asked of the cells, of one component
pub ready_one : {s : Shape} {bound i : ℕ} {l : List ℤ} → Ready s bound l → i < s.nc → ReadyOne s bound i l
ready_one {i = i} ready h =
    record { built = ready.built; there = h; room = ready.room; small = λ x y c r. ready.small i x y (record { component = h; column = c; row = r }) }

pub number_one : {s : Shape} {i : ℕ} {l : List ℤ} → HoldingNumbers s l → i < s.nc → NumbersOne s i l
number_one {i = i} numbers h = record { number = λ x y c r. numbers.number i x y (record { component = h; column = c; row = r }) }

-- what holds of the component's values holds of each cell of its stretch
stretch_each : {s : Shape} {i : ℕ} (l : List ℤ) (P : ℤ → Type 0) → Built s → i < s.nc → ((x y : ℕ) → x < Wc s i → y < Hc s i → P (values_in s l i x y))
    → (n : ℕ) → n < area s i → P (cell l (start s i + n))
stretch_each {s} {i} l P built there each n h =
    let p = row_below built there n h in
    subst (λ (k : ℕ). P (cell l (start s i + k))) (div-add-mod' n (Wc s i)) (each (n % Wc s i) (n / Wc s i) p.0 p.1)

module _ {s : Shape} {bound i : ℕ} {l : List ℤ} (ready : ReadyOne s bound i l) where
  pub stretch_fits : start s i + area s i ≤ length l
  stretch_fits = omega (arith, starts_up s i s.nc ready.there, ready.room)

  pub stretch_small : (n : ℕ) → n < area s i → nat_abs (cell l (start s i + n)) ≤ bound
  stretch_small = stretch_each l (λ z. nat_abs z ≤ bound) ready.built ready.there ready.small

  pub stretch_number : NumbersOne s i l → (n : ℕ) → n < area s i → cell l (start s i + n) ≡ pos (nat_abs (cell l (start s i + n)))
  stretch_number numbers = stretch_each l (λ z. z ≡ pos (nat_abs z)) ready.built ready.there numbers.number
