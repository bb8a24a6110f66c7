-- Lists: of whole numbers, as a lent slice of i64 holds them, and of what an index gives.
use Rattle.std.specs.Prelude.{List, [], ◌∷◌, ◌++◌, ℕ, zero, suc, ◌+◌, ◌*◌, ◌≤◌, ◌<◌, ℤ, pos, nat_abs, length, get_or, ◌≡◌}

-- the cell at a place
abbrev pub cell : List ℤ → ℕ → ℤ
cell l j = get_or l j (pos 0)

-- every cell is at most B in size
pub record Bounded (B : ℕ) (l : List ℤ) : Type 0 where
  pub most : (j : ℕ) → j < length l → nat_abs (cell l j) ≤ B

-- two lists of one length that agree at the places of a kind
pub record Same (P : ℕ → Type 0) (a b : List ℤ) : Type 0 where
  pub long : length a ≡ length b
  pub cells : (n : ℕ) → P n → cell a n ≡ cell b n

-- g at each place and its element: what a pass in place leaves
unfoldable pub map_at {ℓ} : {A : Type ℓ} → (ℕ → A → A) → List A → List A
map_at g [] = []
map_at g (x ∷ xs) = g 0 x ∷ map_at (λ n. g (suc n)) xs

-- f 0, f 1, .., f (n − 1)
unfoldable pub listed : {A : Type 0} → ℕ → (ℕ → A) → List A
listed zero f = []
listed (suc n) f = listed n f ++ (f n ∷ [])

-- l' is l with g on some cells, of which the i-th stands at `at i`, and with no other cell changed
pub record Onto {I : Type 0} (at : I → ℕ) (In : I → Type 0) (g : I → ℤ) (l l' : List ℤ) : Type 0 where
  pub same : length l' ≡ length l
  pub on : (i : I) → In i → cell l' (at i) ≡ g i
  pub off : (j : ℕ) → ((i : I) → In i → j ≡ at i → ⊥) → cell l' j ≡ cell l j

-- on n cells from `base` on, `stride` apart
abbrev pub OntoLine : ℕ → ℕ → ℕ → (ℕ → ℤ) → List ℤ → List ℤ → Type 0
OntoLine base stride n = Onto {I = ℕ} (λ k. base + k * stride) (λ k. k < n)
