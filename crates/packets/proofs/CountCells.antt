-- A cell that is no coefficient's holds counts alone, and so it is not negative behind a packet, accepted or refused, where it was not before. Assumes nothing.
use Prim.Native.Nat.{ℕ, zero, suc, ◌+◌, ◌*◌, ◌<◌}
use mathlib.Core.Path.{◌≡◌, refl}
use mathlib.Core.Bool.{true}
use mathlib.Core.List.{List, [], ◌∷◌}
use lib.IntN.{ℤ, pos, nat_abs}
use lib.ListN.{set}
use Rattle.whole.specs.Cells.{cell}
use Rattle.bits.specs.Groups.{packed}
use Rattle.layout.specs.declared.Line.{Line}
use Rattle.layout.specs.Slots.{candidates}
use Rattle.counts.specs.Lines.{count_cell}
use Rattle.counts.proofs.Laws.{line_keeps}
use Rattle.values.proofs.Laws.{line_other}
use Rattle.packets.specs.declared.Setting.{Setting}
use Rattle.packets.specs.declared.Precinct.{Precinct}
use Rattle.packets.specs.Passes.{line, place_of, values_of, valued}
use Rattle.packets.specs.Packets.{packet}
use Rattle.packets.proofs.Laws.{packet_keeps}

abbrev pub NotNegative : ℤ → Type 0
NotNegative v = v ≡ pos (nat_abs v)

-- what a cell holds, or what is set
set_either : (P : ℤ → Type 0) (l : List ℤ) (a n : ℕ) (v : ℤ) → P v → P (cell l n) → P (cell (set l a v) n)
set_either P [] a n v new old = old
set_either P (y ∷ ys) zero zero v new old = new
set_either P (y ∷ ys) zero (suc n) v new old = old
set_either P (y ∷ ys) (suc a) zero v new old = old
set_either P (y ∷ ys) (suc a) (suc n) v new old = set_either P ys a n v new old

-- cell n is no coefficient's of a line
abbrev pub NoCoefficient : Line → ℕ → Type 0
NoCoefficient l n = (x : ℕ) → x < l.width → n ≡ l.cell + x * l.stride → ⊥

pub packet_counts_cell : (s : List ℕ) (c : Setting) (p : Precinct) (slot at : ℕ) (raws : List ℕ) (cells : List ℤ) (n : ℕ)
    → ((j : ℕ) → j < candidates c.shape slot → (line c p slot j).present ≡ true → NoCoefficient (line c p slot j) n)
    → NotNegative (cell cells n) → NotNegative (cell (packet s c p slot at raws cells).1 n)
packet_counts_cell s c p slot at raws cells n apart =
    packet_keeps c p slot (λ l. NotNegative (cell l n))
    (λ j h e cnt sig k t i z l.
    line_keeps cnt sig k (place_of (line c p slot j)) i z l (λ l'. NotNegative (cell l' n))
    (λ g m l' u v. set_either NotNegative l' (count_cell (place_of (line c p slot j)) g) n (packed m k.t) refl))
    (λ j h e dat sgn from l q. rw (line_other dat sgn (values_of c) (valued c p (line c p slot j)) from l refl n (apart j h e)) q)
    s at raws cells
