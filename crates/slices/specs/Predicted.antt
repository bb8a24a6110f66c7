-- C.6.1, Table C.13: the vertical predictor of a code group is M, and T, of the same group on the band's line directly above. Slice t begins at the state's place,
-- as in `Reached`.
use Rattle.std.specs.Prelude.{ℕ, ◌+◌, ◌<◌, ◌≡◌, true, List, ℤ}
use Rattle.layout.specs.Precincts.{Np}
use Rattle.layout.specs.Slots.{slots, candidates}
use Rattle.layout.specs.declared.Line.{Line}
use Rattle.bits.specs.Groups.{held_m, held_t}
use Rattle.counts.specs.declared.group.Mode.{Mode}
use Rattle.packets.specs.declared.Setting.{Setting}
use Rattle.packets.specs.Precincts.{T}
use Rattle.packets.specs.Passes.{line}
use Rattle.packets.specs.Counted.{coding_in, predictor}
use Rattle.slices.specs.Precinct.{Packing}
use Rattle.slices.specs.Slice.{State, row_of, column_in}
use Rattle.slices.specs.Reached.{before_packet, before_precinct, slice_has, slice_planes}

module _ (s : List ℕ) (c : Setting) (x : State) (t : ℕ) where
  -- where the packet of slot k of precinct n stands, the flags so far, and the cells that the packets before it leave
  abbrev pub slice_packet : (n : ℕ) → ℕ → Packing s c (row_of s c t n) (column_in s c t n) (before_precinct s c x t n).0
  slice_packet n k = before_packet s c (row_of s c t n) (column_in s c t n) (before_precinct s c x t n).0 (before_precinct s c x t n).2 k

  -- line j of that packet, the way in which its counts are coded, and the predictors that its code group g is given
  abbrev pub slice_line : ℕ → ℕ → ℕ → Line
  slice_line n k j = line c (slice_has s c x t n) k j

  abbrev pub slice_mode : ℕ → ℕ → ℕ → Mode
  slice_mode n k j = (coding_in s c (slice_has s c x t n) k (slice_packet n k).0 j).mode

  abbrev pub slice_top : ℕ → ℕ → ℕ → ℕ → ℤ
  slice_top n k j g = predictor s c (slice_has s c x t n) k (slice_packet n k).0 (slice_packet n k).2 j g

  abbrev pub Mtop : ℕ → ℕ → ℕ → ℕ → ℕ
  Mtop n k j g = held_m (slice_top n k j g)

  abbrev pub Ttop : ℕ → ℕ → ℕ → ℕ → ℕ
  Ttop n k j g = held_t (slice_top n k j g)

  -- code group g of line j of slot k of precinct n is predicted from the line above
  pub record Predicted (n k j g : ℕ) : Type 0 where
    -- that line, which the slice has: its precinct, slot and number among the slot's candidates
    pub precinct : ℕ
    pub slot : ℕ
    pub candidate : ℕ
    pub precinct_below : precinct < Np c.shape t
    pub slot_below : slot < slots c.shape
    pub candidate_below : candidate < candidates c.shape slot
    pub present : (slice_line precinct slot candidate).present ≡ true
    -- it is the band's line directly above, in the same columns
    pub band : (slice_line precinct slot candidate).band ≡ (slice_line n k j).band
    pub above : (slice_line precinct slot candidate).y + 1 ≡ (slice_line n k j).y
    pub column : column_in s c t precinct ≡ column_in s c t n
    -- Mtop is M[p',λ',b,g], and Ttop the truncation position T[p',b] of its own precinct
    pub planes : Mtop n k j g ≡ slice_planes s c x t precinct slot candidate g
    pub truncation : Ttop n k j g ≡ T c (slice_has s c x t precinct) (slice_line n k j).band
