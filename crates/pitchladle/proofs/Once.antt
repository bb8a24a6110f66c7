-- Uniqueness: two outcomes that keep an exported function's contract are equal, cell by cell. Assumes nothing.
use Prim.Native.Nat.{ℕ}
use mathlib.Core.Bool.{Bool}
use mathlib.Core.List.{List}
use mathlib.Core.Path.{◌≡◌, sym, ◌∙◌}
use lib.IntN.{ℤ}
use Rattle.pitchladle.specs.Exported.{Handed, HandedDamaged, HandedBy, Explained, HandedCoarsest}

pub handed_once : {s a c₁ c₂ a₁ a₂ : List ℕ} {w w₁ w₂ : List ℤ} → Handed s a w c₁ a₁ w₁ → Handed s a w c₂ a₂ w₂
    → (c₁ ≡ c₂) × (a₁ ≡ a₂) × (w₁ ≡ w₂)
handed_once x y =
    (x.cells_are ∙ sym y.cells_are, x.reads.samples ∙ sym y.reads.samples, x.reads.work ∙ sym y.reads.work)

pub handed_damaged_once : {s a m c₁ c₂ a₁ a₂ m₁ m₂ : List ℕ} {w w₁ w₂ : List ℤ} → HandedDamaged s a w m c₁ a₁ w₁ m₁ → HandedDamaged s a w m c₂ a₂ w₂ m₂
    → (c₁ ≡ c₂) × (a₁ ≡ a₂) × (w₁ ≡ w₂) × (m₁ ≡ m₂)
handed_damaged_once x y =
    let p = x.reads in
    let q = y.reads in
    (x.cells_are ∙ sym y.cells_are, p.samples ∙ sym q.samples, p.work ∙ sym q.work, p.marks ∙ sym q.marks)

pub handed_places_once : {damaged : Bool} {s a m d c₁ c₂ a₁ a₂ m₁ m₂ d₁ d₂ : List ℕ} {w w₁ w₂ : List ℤ} → HandedBy damaged s a w m d c₁ a₁ w₁ m₁ d₁
    → HandedBy damaged s a w m d c₂ a₂ w₂ m₂ d₂ → (c₁ ≡ c₂) × (a₁ ≡ a₂) × (w₁ ≡ w₂) × (m₁ ≡ m₂) × (d₁ ≡ d₂)
handed_places_once x y =
    let p = x.reads.beside in
    let q = y.reads.beside in (
      x.cells_are ∙ sym y.cells_are,
      p.samples ∙ sym q.samples,
      p.work ∙ sym q.work,
      p.marks ∙ sym q.marks,
      x.reads.distances ∙ sym y.reads.distances,
    )

pub explained_once : {s c₁ c₂ n₁ n₂ : List ℕ} {mode a m d : ℕ} {w w₁ w₂ : List ℤ} → Explained s mode a w m d w₁ c₁ n₁ → Explained s mode a w m d w₂ c₂ n₂
    → (c₁ ≡ c₂) × (n₁ ≡ n₂) × (w₁ ≡ w₂)
explained_once x y = (x.cells_are ∙ sym y.cells_are, x.name_is ∙ sym y.name_is, x.work ∙ sym y.work)

pub coarsest_once : {s c₁ c₂ : List ℕ} {a : ℕ} {w w₁ w₂ : List ℤ} → HandedCoarsest s a w w₁ c₁ → HandedCoarsest s a w w₂ c₂ → (c₁ ≡ c₂) × (w₁ ≡ w₂)
coarsest_once x y = (x.cells_are ∙ sym y.cells_are, x.work ∙ sym y.work)
