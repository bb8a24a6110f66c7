-- Uniqueness: two outcomes that keep the contract of one of the functions of a text are equal. Assumes nothing.
use Prim.Native.Nat.{ℕ}
use mathlib.Core.List.{List}
use mathlib.Core.Path.{◌≡◌, sym, subst, ◌∙◌}
use lib.IntN.{ℤ}
use Rattle.reader.specs.declared.page.Page.{Page}
use Rattle.show.specs.Buffer.{Leads}
use Rattle.show.specs.Modes.{ReadsWhole, ReadsSpoilt, text_as, TextOf}
use Rattle.show.specs.declared.modes.Mode.{Mode}
use Rattle.show.specs.declared.modes.Mode.TheVariants.{Plain, Damaged, Places, DamagedPlaces, Bytes, DamagedBytes}
use Rattle.show.specs.declared.modes.Told.{Told}

pub text_once : {whole o o₁ o₂ : List ℕ} {r₁ r₂ : ℕ} → Leads whole o r₁ o₁ → Leads whole o r₂ o₂ → (r₁ ≡ r₂) × (o₁ ≡ o₂)
text_once x y = (x.count ∙ sym y.count, x.text ∙ sym y.text)

-- two readings of a stream have the same record, and the same planes
module _ {s a m d a₁ a₂ m₁ m₂ d₁ d₂ : List ℕ} {w w₁ w₂ : List ℤ} {p₁ p₂ : Page} where
  whole_once : ReadsWhole s a w m d p₁ a₁ w₁ m₁ d₁ → ReadsWhole s a w m d p₂ a₂ w₂ m₂ d₂ → (p₁ ≡ p₂) × (a₁ ≡ a₂) × (m₁ ≡ m₂) × (d₁ ≡ d₂)
  whole_once u v = (u.0.page ∙ sym v.0.page, u.0.samples ∙ sym v.0.samples, u.1 ∙ sym v.1, u.2 ∙ sym v.2)

  spoilt_once : ReadsSpoilt s a w m d p₁ a₁ w₁ m₁ d₁ → ReadsSpoilt s a w m d p₂ a₂ w₂ m₂ d₂ → (p₁ ≡ p₂) × (a₁ ≡ a₂) × (m₁ ≡ m₂) × (d₁ ≡ d₂)
  spoilt_once u v = (u.0.page ∙ sym v.0.page, u.0.samples ∙ sym v.0.samples, u.0.marks ∙ sym v.0.marks, u.1 ∙ sym v.1)

-- and so have two in a mode
module _ {s o : List ℕ} {r₁ r₂ : Told} {o₁ o₂ : List ℕ} where
  reads_once : (mode : Mode) (x : TextOf mode s o r₁ o₁) (y : TextOf mode s o r₂ o₂)
      → (x.page ≡ y.page) × (x.samples ≡ y.samples) × (x.marks ≡ y.marks) × (x.distances ≡ y.distances)
  reads_once Plain x y = whole_once x.reads y.reads
  reads_once Damaged x y = spoilt_once x.reads y.reads
  reads_once Places x y =
      let u = x.reads in
      let v = y.reads in
      (u.0.beside.page ∙ sym v.0.beside.page, u.0.beside.samples ∙ sym v.0.beside.samples, u.1 ∙ sym v.1, u.0.distances ∙ sym v.0.distances)
  reads_once DamagedPlaces x y =
      let u = x.reads in
      let v = y.reads in
      (u.beside.page ∙ sym v.beside.page, u.beside.samples ∙ sym v.beside.samples, u.beside.marks ∙ sym v.beside.marks, u.distances ∙ sym v.distances)
  reads_once Bytes x y = whole_once x.reads y.reads
  reads_once DamagedBytes x y = spoilt_once x.reads y.reads

  -- and so the same text
  pub mode_once : (mode : Mode) → TextOf mode s o r₁ o₁ → TextOf mode s o r₂ o₂ → (r₁ ≡ r₂) × (o₁ ≡ o₂)
  mode_once mode x y =
      let same = reads_once mode x y in
      let text = subst (λ (t : List ℕ). Leads t o r₁.size o₁) (λ i. text_as mode (same.0 i) (same.1 i) (same.2 i) (same.3 i)) x.text in
      let once = text_once text y.text in
      ((λ i. record { size = once.0 i; caption = (x.caption ∙ (λ j. (same.0 j).caption) ∙ sym y.caption) i }), once.1)
