-- Uniqueness: two outcomes that keep the contract of `read`, `read_damaged`, `read_places` or `read_damaged_places` are equal. Assumes nothing.
use mathlib.Core.Path.{◌≡◌, sym, ◌∙◌}
use mathlib.Core.Bool.{Bool}
use mathlib.Core.List.{List}
use Prim.Native.Nat.{ℕ}
use lib.IntN.{ℤ}
use Rattle.rows.specs.Rows.{Verdict}
use Rattle.header.specs.declared.header.Header.{Header}
use Rattle.reader.specs.Page.{Reads}
use Rattle.reader.specs.Modes.{LeavesIn, ReadsDamaged}
use Rattle.reader.specs.Places.{ReadsPlaces, ReadsDamagedPlaces}
use Rattle.reader.specs.declared.page.Page.{Page}

-- a record r, samples a' and work cells w', and another outcome of the same call
pub unique : {s a a' b' : List ℕ} {w w' v' : List ℤ} {r q : Page} → Reads s a w r a' w' → Reads s a w q b' v' → (r ≡ q) × (a' ≡ b') × (w' ≡ v')
unique x y = (x.page ∙ sym y.page, x.samples ∙ sym y.samples, x.work ∙ sym y.work)

-- the same in either mode, with marks m', by any verdicts
pub unique_in : {damaged : Bool} {s : List ℕ} {h : Header} {lent all : Verdict} {a a' b' m m' n' : List ℕ} {w w' v' : List ℤ} {r q : Page}
    → LeavesIn damaged s h lent all a w m r a' w' m' → LeavesIn damaged s h lent all a w m q b' v' n' → (r ≡ q) × (a' ≡ b') × (w' ≡ v') × (m' ≡ n')
unique_in x y = (x.page ∙ sym y.page, x.samples ∙ sym y.samples, x.work ∙ sym y.work, x.marks ∙ sym y.marks)

-- of a damaged page
pub unique_damaged : {s a a' b' m m' n' : List ℕ} {w w' v' : List ℤ} {r q : Page} → ReadsDamaged s a w m r a' w' m' → ReadsDamaged s a w m q b' v' n'
    → (r ≡ q) × (a' ≡ b') × (w' ≡ v') × (m' ≡ n')
unique_damaged = unique_in

-- with a plane d' of distances, of a page and of a damaged page
pub unique_places : {s a a' b' d d' e' : List ℕ} {w w' v' : List ℤ} {r q : Page} → ReadsPlaces s a w d r a' w' d' → ReadsPlaces s a w d q b' v' e'
    → (r ≡ q) × (a' ≡ b') × (w' ≡ v') × (d' ≡ e')
unique_places x y =
    let u = unique_in x.beside y.beside in
    (u.0, u.1, u.2, x.distances ∙ sym y.distances)

pub unique_damaged_places : {s a a' b' m m' n' d d' e' : List ℕ} {w w' v' : List ℤ} {r q : Page} → ReadsDamagedPlaces s a w m d r a' w' m' d'
    → ReadsDamagedPlaces s a w m d q b' v' n' e' → (r ≡ q) × (a' ≡ b') × (w' ≡ v') × (m' ≡ n') × (d' ≡ e')
unique_damaged_places x y =
    let u = unique_in x.beside y.beside in
    (u.0, u.1, u.2, u.3, x.distances ∙ sym y.distances)
