-- Laws of putting texts: one after another, and what a text at the buffer's beginning leaves. Assumes nothing.
use Prim.Native.Nat.{ℕ, suc, ◌+◌, ◌≤◌, ◌<◌, min}
use mathlib.Core.Bool.{cond}
use mathlib.Core.List.{List, [], ◌∷◌, ◌++◌, append_assoc}
use mathlib.Core.Path.{◌≡◌, refl, sym, ap, ◌∙◌}
use native.Mathlib.Numerals.{add-one}
use native.Mathlib.Nat.{zero-min, min-zero, suc-min-suc, min-le_right}
use native.Mathlib.Omega.{arith}
use borrow.Author.Tests.{lt-ltb, le-ltb, lt-leb}
use lib.ListN.{length, set, take, drop, get_or, length-append, length-set}
use lib.Seq.{take-suc, take-nil, set_out, set-append_seam}
use Rattle.show.specs.Text.{Kind, Samples, Marks, Distances, decimal, gap, cells_text, Part, also, next_row, rows, width_of, height_of, title, component, components}
use Rattle.show.specs.Buffer.{State, put_byte, puts, Put, Shown, Leads}
use Rattle.show.proofs.Counted.{counted}
use Rattle.io.specs.Counts.{IsPrefixLen}
use Rattle.reader.specs.declared.page.Page.{Page}
use Rattle.show.specs.declared.Progress.{Progress}

-- ---- one byte

pub put_in : (b at : ℕ) (o : List ℕ) → at < length o → Put (b ∷ []) at o (at + 1) (set o at b)
unfolding puts
put_in b at o h = record { state = λ i. (cond (sym (lt-ltb at (length o) h) i) (at + 1) at, set o at b) }

pub put_out : (b at : ℕ) (o : List ℕ) → length o ≤ at → Put (b ∷ []) at o at o
unfolding puts
put_out b at o h = record { state = λ i. (cond (sym (le-ltb at (length o) h) i) (at + 1) at, sym (set_out o at b h) i) }

-- ---- one text after another

puts_append : (t u : List ℕ) (s : State) → puts (t ++ u) s ≡ puts u (puts t s)
unfolding puts
puts_append [] u s = refl
puts_append (b ∷ t) u s = puts_append t u (put_byte b s)

puts_length : (t : List ℕ) (s : State) → length (puts t s).1 ≡ length s.1
unfolding puts
puts_length [] s = refl
puts_length (b ∷ t) s = puts_length t (put_byte b s) ∙ length-set s.1 s.0 b

-- the buffer keeps its length
pub put_length : {t o o' : List ℕ} {at r : ℕ} → Put t at o r o' → length o' ≡ length o
put_length {t} {o} {at = at} p = (λ i. length (p.state i).1) ∙ puts_length t (at, o)

pub put_none : (at : ℕ) (o : List ℕ) → Put [] at o at o
unfolding puts
put_none at o = record { state = refl }

pub put_both : {t u o o₁ o₂ : List ℕ} {at r₁ r₂ : ℕ} → Put t at o r₁ o₁ → Put u r₁ o₁ r₂ o₂ → Put (t ++ u) at o r₂ o₂
put_both {t} {u} {o} {at = at} p q = record { state = q.state ∙ ap (puts u) p.state ∙ sym (puts_append t u (at, o)) }

pub put_next : {o o₁ o₂ : List ℕ} {at r₁ r₂ : ℕ} (x : List ℕ) (i : ℕ) → i < length x → Put (take i x) at o r₁ o₁ → Put (get_or x i 0 ∷ []) r₁ o₁ r₂ o₂
    → Put (take (i + 1) x) at o r₂ o₂
put_next x i h p q = rw (add-one, take-suc x i 0) (put_both p q)

-- ---- the planes

-- no space before the first cell
pub first_gap : (kind : Kind) (x at : ℕ) (o : List ℕ) → x ≡ 0 → Put (gap kind x) at o at o
first_gap Samples x at o h = rw h (put_none at o)
first_gap Marks x at o h = put_none at o
first_gap Distances x at o h = rw h (put_none at o)

-- one cell more of a row
pub put_cell : {o o₁ o₂ o₃ : List ℕ} {at r₁ r₂ r₃ : ℕ} (kind : Kind) (cells : List ℕ) (next x : ℕ) → Put (cells_text kind cells next x) at o r₁ o₁
    → Put (gap kind x) r₁ o₁ r₂ o₂ → Put (decimal (get_or cells (next + x) 0)) r₂ o₂ r₃ o₃ → Put (cells_text kind cells next (x + 1)) at o r₃ o₃
unfolding cells_text
put_cell kind cells next x p g n = rw add-one (put_both p (put_both g n))

-- ---- parts

pub shown_none : (p : Progress) (o : List ℕ) → Shown ([], p.next) p.at o p o
shown_none p o = record { next_is = refl; put = put_none p.at o }

pub shown_also : {p : Part} {o o₁ o₂ : List ℕ} {at : ℕ} {r₁ r₂ : Progress} (f : ℕ → Part)
    → Shown p at o r₁ o₁ → Shown (f r₁.next) r₁.at o₁ r₂ o₂ → Shown (also p f) at o r₂ o₂
shown_also f a b =
    let c = rw a.next_is at b in
    record { next_is = c.next_is; put = put_both a.put c.put }

module _ (kind : Kind) (cells : List ℕ) where
  -- no row, where there are not so many cells
  pub row_left : (width : ℕ) (p : Progress) (o : List ℕ) → length cells < p.next + width → Shown (next_row kind cells width p.next) p.at o p o
  row_left width p o h = rw (lt-leb (p.next + width) (length cells) h) (shown_none p o)

  -- one row more
  pub shown_row : {o o₁ o₂ : List ℕ} {at : ℕ} {r₁ r₂ : Progress} (width next y : ℕ) → Shown (rows kind cells width next y) at o r₁ o₁
      → Shown (next_row kind cells width r₁.next) r₁.at o₁ r₂ o₂ → Shown (rows kind cells width next (y + 1)) at o r₂ o₂
  unfolding rows
  shown_row width next y a b = rw add-one (shown_also (next_row kind cells width) a b)

module _ (p : Page) (kind : Kind) (cells : List ℕ) where
  -- a component that the page has not
  pub no_component : (i : ℕ) (q : Progress) (o : List ℕ) → p.components ≤ i → Shown (component p kind cells i q.next) q.at o q o
  no_component i q o h = rw (le-ltb i p.components h) (shown_none q o)

  -- one that it has: its title and its rows
  pub one_component : {o o₁ o₂ : List ℕ} {at r : ℕ} {q : Progress} (i next : ℕ) → i < p.components → Put (title p kind i) at o r o₁
      → Shown (rows kind cells (width_of p i) next (height_of p i)) r o₁ q o₂ → Shown (component p kind cells i next) at o q o₂
  one_component {o} {o₁} {at = at} {r} i next h a b =
      let top : Shown (title p kind i, next) at o (record { at = r; next = next }) o₁ = record { next_is = refl; put = a } in
      rw (lt-ltb i p.components h) (shown_also (λ n. rows kind cells (width_of p i) n (height_of p i)) top b)

  -- one component more
  pub shown_component : {o o₁ o₂ : List ℕ} {at : ℕ} {r₁ r₂ : Progress} (i : ℕ) → Shown (components p kind cells i) at o r₁ o₁
      → Shown (component p kind cells i r₁.next) r₁.at o₁ r₂ o₂ → Shown (components p kind cells (i + 1)) at o r₂ o₂
  unfolding components
  shown_component i a b = rw add-one (shown_also (component p kind cells i) a b)

-- ---- from the beginning

-- where the buffer is full nothing changes
puts_full : (t : List ℕ) (at : ℕ) (o : List ℕ) → length o ≤ at → puts t (at, o) ≡ (at, o)
unfolding puts
puts_full [] at o h = refl
puts_full (b ∷ t) at o h =
    ap (puts t) (λ i. (cond (le-ltb at (length o) h i) (at + 1) at, set_out o at b h i))
    ∙ puts_full t at o h

puts_one : (b x : ℕ) (a o : List ℕ) → put_byte b (length a, a ++ x ∷ o) ≡ (length (a ++ (b ∷ [])), (a ++ (b ∷ [])) ++ o)
puts_one b x a o =
    let n : length (a ++ x ∷ o) ≡ length a + suc (length o) = length-append a (x ∷ o) in
    let m : length (a ++ (b ∷ [])) ≡ length a + 1 = length-append a (b ∷ []) in
    λ i. (
      ((λ j. cond (lt-ltb (length a) (length (a ++ x ∷ o)) (omega arith) j) (length a + 1) (length a)) ∙ sym m) i,
      (set-append_seam a x o b ∙ sym (append_assoc a (b ∷ []) o)) i,
    )

puts_behind : (t a o : List ℕ) → puts t (length a, a ++ o) ≡ (length a + min (length t) (length o), a ++ (take (length o) t ++ drop (length t) o))
unfolding puts
puts_behind [] a o =
    let z : length a ≡ length a + min 0 (length o) = omega (arith, zero-min (length o)) in
    λ i. (z i, a ++ (sym (take-nil {A = ℕ} (length o)) i ++ o))
puts_behind (b ∷ t) a [] =
    let z : length a ≡ length a + min (suc (length t)) 0 = omega (arith, min-zero (suc (length t))) in
    puts_full (b ∷ t) (length a) (a ++ []) (omega (arith, length-append a []))
    ∙ (λ i. (z i, a ++ []))
puts_behind (b ∷ t) a (x ∷ o) =
    let n : length (a ++ (b ∷ [])) + min (length t) (length o) ≡ length a + min (suc (length t)) (suc (length o)) =
    omega (arith, length-append a (b ∷ []), suc-min-suc (length t) (length o))
    in
    ap (puts t) (puts_one b x a o)
    ∙ puts_behind t (a ++ (b ∷ [])) o
    ∙ (λ i. (n i, append_assoc a (b ∷ []) (take (length o) t ++ drop (length t) o) i))

pub put_first : {t o o' : List ℕ} {r : ℕ} → Put t 0 o r o'
    → (r ≤ length o') × (r ≡ min (length t) (length o)) × (o' ≡ take (length o) t ++ drop (length t) o)
put_first {t} {o} {r = r} p =
    let e = p.state ∙ puts_behind t [] o in
    let count : r ≡ min (length t) (length o) = (λ i. (e i).0) ∙ omega arith in
    (omega (arith, min-le_right (length t) (length o), put_length p), count, λ i. (e i).1)

-- a text that is put at the beginning leads the buffer, and is counted
pub put_leads : {t o o' : List ℕ} {r : ℕ} → Put t 0 o r o' → IsPrefixLen r o' × Leads t o r o'
put_leads p =
    let first = put_first p in
    (counted _ _ first.0, record { count = first.1; text = first.2 })
