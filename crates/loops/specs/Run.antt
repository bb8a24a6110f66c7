-- Loops as definitions: one that counts its turns and one that does not. A turn goes on with a state or stops with a result.
use Rattle.std.specs.Prelude.{ℕ, zero, suc, ◌+◌}

-- a turn goes on with a state, or stops with a result
pub data Turn (S R : Type 0) : Type 0 where
  go : S → Turn S R
  stop : R → Turn S R

-- what follows a turn
abbrev pub then : {S R T : Type 0} → Turn S R → (S → T) → (R → T) → T
then (go y) f h = f y
then (stop r) f h = h r

-- the turns that are left: `left` of them, from turn g on. `end` makes the result where none stops
unfoldable pub run : {S R : Type 0} → (ℕ → S → Turn S R) → (S → R) → ℕ → ℕ → S → R
run turn end zero g x = end x
run turn end (suc left) g x = then (turn g x) (λ y. run turn end left (g + 1) y) (λ r. r)

-- a loop that does not count: turns until one stops, at most `fuel` of them. `dead` is what stands past them, where no such loop comes
unfoldable pub until : {S R : Type 0} → (S → Turn S R) → R → ℕ → S → R
until turn dead zero x = dead
until turn dead (suc fuel) x = then (turn x) (λ y. until turn dead fuel y) (λ r. r)
