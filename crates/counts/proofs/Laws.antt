-- What a line of counts leaves, for the layers above. Assumes nothing.
use Rattle.std.specs.Prelude.{Ok, Err}
use Prim.Native.Nat.{ℕ, zero, suc, ◌+◌, ◌*◌, ◌≤◌, ◌<◌, max}
use mathlib.Core.Path.{◌≡◌, refl, sym, ap, ◌∙◌}
use mathlib.Core.List.{List}
use native.Mathlib.Omega.{arith}
use native.Mathlib.Nat.{mul-lt-mul_of_pos_right}
use native.Mathlib.Numerals.{add-one}
use lib.IntN.{ℤ, pos}
use lib.ListN.{length, set, length-set}
use lib.Seq.{get_or-set_same, get_or-set_other}
use Rattle.loops.proofs.Laws.{Kept, run_carries}
use Rattle.whole.specs.Cells.{cell}
use Rattle.bits.specs.Groups.{Ncg, nibbles_of, packed, held_m, held_t}
use Rattle.bits.proofs.Groups.{nibbles_le}
use Rattle.counts.specs.Lines.{count_cell, State, Left, stored, unpack, turn, end, line_counts, Founded}
use Rattle.counts.specs.declared.group.Coding.{Coding}
use Rattle.counts.specs.declared.group.Count.{Count}
use Rattle.counts.specs.declared.group.Fault.{Fault}
use Rattle.counts.specs.declared.group.Fault.TheVariants.{Cut, High, Long}
use Rattle.counts.specs.Groups.{Group}
use Rattle.counts.specs.declared.Place.{Place}
use Rattle.counts.specs.declared.Counted.{Counted}
use Rattle.counts.proofs.Lines.{Sound, unpack_sound}

-- ---- a count cell: M and T come back from what it holds
pub held_m_lem : (m t : ℕ) → m ≤ 31 → held_m (packed m t) ≡ m
held_m_lem m t h = omega arith

pub held_t_lem : (m t : ℕ) → m ≤ 31 → t ≤ 31 → held_t (packed m t) ≡ t
held_t_lem m t h k = omega arith

-- f 0 + .. + f (n − 1)
unfoldable pub total : (ℕ → ℕ) → ℕ → ℕ
total f zero = 0
total f (suc n) = total f n + f n

total_same : (f f' : ℕ → ℕ) (n : ℕ) → ((k : ℕ) → k < n → f k ≡ f' k) → total f n ≡ total f' n
unfolding total
total_same f f' zero h = refl
total_same f f' (suc n) h = rw (total_same f f' n (λ k l. h k (omega arith)), h n (omega arith))

-- one turn more, which leaves what was there
pub total_more : (f f' : ℕ → ℕ) (n a v : ℕ) → a ≡ total f n → ((k : ℕ) → k < n → f k ≡ f' k) → v ≡ f' n → a + v ≡ total f' (n + 1)
unfolding total
total_more f f' n a v e h d = rw (add-one n, e, d, total_same f f' n h)

pub total_none : (f : ℕ → ℕ) → 0 ≡ total f 0
unfolding total
total_none f = refl

-- the nibbles of group g, by its cell
abbrev pub takes : Coding → Place → List ℤ → ℕ → ℕ
takes c p l g = nibbles_of (held_m (cell l (count_cell p g))) c.t c.fs

-- the groups' cells differ where the stride is not 0
apart : (p : Place) (k g : ℕ) → 0 < p.stride → k < g → count_cell p k ≡ count_cell p g → ⊥
apart p k g h d e = let far : 4 * k * p.stride < 4 * g * p.stride = mul-lt-mul_of_pos_right (omega arith) h in omega arith

-- P of a line that is done, and nothing of one that stopped
abbrev OnDone : (State → Type 0) → Left → Type 0
OnDone P (Ok k, l) = P (k.next, k.need, l)
OnDone P (Err f, l) = Unit {0}

module _ (s sig : List ℕ) (c : Coding) (p : Place) (i z : ℕ) (cells : List ℤ) where
  -- what holds of the first state and is carried through each count that is stored holds of what the line leaves
  line_carries : (P : ℕ → State → Type 0) (Q : Left → Type 0)
      → ((x : State) → P (Ncg p.width) x → Q (end x))
      → ((g : ℕ) (x : State) → g < Ncg p.width → P g x → (f : Fault) → Founded c.br (Err f) → Q (Err f, x.2))
      → ((g : ℕ) (x : State) (k : Count) → g < Ncg p.width → P g x → Sound s c.br x.0 (Ok k) → P (g + 1) (k.next, x.1 + nibbles_of k.m c.t c.fs, set x.2 (count_cell p g) (packed k.m c.t)))
      → P 0 (i, 0, cells) → Q (line_counts s sig c p i z cells)
  unfolding turn line_counts
  line_carries P Q at_end at_stop each first =
      run_carries P Q (turn s sig c p z) end (Ncg p.width) at_end
      (λ g x h k. by_group g x h k (unpack c.mode s sig c p z g x.0 x.2) (unpack_sound s x.0 c.mode sig c p z g x.2))
      (Ncg p.width) 0 (i, 0, cells) (omega arith) first
    where
      by_group : (g : ℕ) (x : State) → g < Ncg p.width → P g x → (y : Group) → Sound s c.br x.0 y → Kept (P (g + 1)) Q (stored c (count_cell p g) x y)
      by_group g x h k (Ok r) f = each g x r h k f
      by_group g x h k (Err Cut) f = at_stop g x h k Cut f
      by_group g x h k (Err (High m)) f = at_stop g x h k (High m) f
      by_group g x h k (Err (Long n)) f = at_stop g x h k (Long n) f

  pub line_founded : Founded c.br (line_counts s sig c p i z cells).0
  line_founded = line_carries (λ g x. Unit {0}) (λ r. Founded c.br r.0) (λ x h. tt) (λ g x h k f w. w) (λ g x r h k f. tt) tt

  -- whatever each store keeps, the line keeps, whether or not it stops
  pub line_keeps : (P : List ℤ → Type 0) → ((g m : ℕ) (l : List ℤ) → g < Ncg p.width → m ≤ 31 → P l → P (set l (count_cell p g) (packed m c.t)))
      → P cells → P (line_counts s sig c p i z cells).1
  line_keeps P each first =
      line_carries (λ g x. P x.2) (λ r. P r.1) (λ x h. h) (λ g x h k f w. k) (λ g x r h k f. each g r.m x.2 h f.0 k) first

  pub line_length : length (line_counts s sig c p i z cells).1 ≡ length cells
  line_length = line_keeps (λ l. length l ≡ length cells) (λ g m l h k e. length-set l (count_cell p g) (packed m c.t) ∙ e) refl

  -- a cell that is no count cell of the line
  pub line_other : (j : ℕ) → ((g : ℕ) → g < Ncg p.width → j ≡ count_cell p g → ⊥) → cell (line_counts s sig c p i z cells).1 j ≡ cell cells j
  line_other j apart =
      line_keeps (λ l. cell l j ≡ cell cells j) (λ g m l h k e. get_or-set_other l (count_cell p g) j (packed m c.t) (pos 0) (apart g h) ∙ e) refl

  -- ---- a line that is done
  module _ {r : Counted} {l : List ℤ} (e : line_counts s sig c p i z cells ≡ (Ok r, l)) where
    -- what is carried through each count that is stored holds at its end
    done_carries : (P : ℕ → State → Type 0)
        → ((g : ℕ) (x : State) (k : Count) → g < Ncg p.width → P g x → Sound s c.br x.0 (Ok k) → P (g + 1) (k.next, x.1 + nibbles_of k.m c.t c.fs, set x.2 (count_cell p g) (packed k.m c.t)))
        → P 0 (i, 0, cells) → P (Ncg p.width) (r.next, r.need, l)
    done_carries P each first = rw e at (line_carries P (OnDone (P (Ncg p.width))) (λ x h. h) (λ g x h k f w. tt) each first)

    between : (i ≤ r.next) × (r.next ≤ max i (8 * length s))
    between =
        done_carries (λ g x. (i ≤ x.0) × (x.0 ≤ max i (8 * length s))) (λ g x r h k f. omega (arith, k.0, k.1, f.1, f.2)) (omega arith, omega arith)

    -- the next bit is not before the first, and no code goes past the stretch's end
    pub done_from : i ≤ r.next
    done_from = between.0

    pub done_to : i ≤ 8 * length s → r.next ≤ 8 * length s
    done_to h = omega (arith, between.1)

    pub done_need : r.need ≤ 32 * Ncg p.width
    done_need = done_carries (λ g x. x.1 ≤ 32 * g) (λ g x r h k f. omega (arith, k, nibbles_le r.m c.t c.fs f.0)) (omega arith)

    -- where the groups' cells differ, `need` is the sum over what they hold
    pub done_sum : ((g : ℕ) → g < Ncg p.width → count_cell p g < length cells) → 0 < p.stride → r.need ≡ total (takes c p l) (Ncg p.width)
    done_sum inside wide =
        let by : ℤ → ℕ = λ z. nibbles_of (held_m z) c.t c.fs in
        (done_carries (λ g x. (length x.2 ≡ length cells) × (x.1 ≡ total (takes c p x.2) g))
        (λ g x r h q f. (
          length-set x.2 (count_cell p g) (packed r.m c.t) ∙ q.0,
          total_more _ _ g x.1 (nibbles_of r.m c.t c.fs) q.1
              (λ k d. ap by (sym (get_or-set_other x.2 (count_cell p g) (count_cell p k) (packed r.m c.t) (pos 0) (apart p k g wide d))))
              (ap (λ (m : ℕ). nibbles_of m c.t c.fs) (sym (held_m_lem r.m c.t f.0))
              ∙ ap by (sym (get_or-set_same x.2 (count_cell p g) (packed r.m c.t) (pos 0) (omega (arith, q.0, inside g h))))),
        ))
        (refl, total_none _)).1
