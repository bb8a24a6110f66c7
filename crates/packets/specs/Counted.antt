-- The states that the bitplane counts of a packet come to (Table C.8), line after line and code group after code group. `at` is where the packet's header
-- stands, `cells` what the packets before it leave.
use Rattle.std.specs.Prelude.{ℕ, List, ℤ}
use Rattle.loops.specs.Before.{before}
use Rattle.counts.specs.declared.group.Coding.{Coding}
use Rattle.counts.specs.Lines.{State, above, turn}
use Rattle.packets.specs.declared.Setting.{Setting}
use Rattle.packets.specs.declared.Precinct.{Precinct}
use Rattle.packets.specs.Passes.{line, marks, coding_of, place_of, Counting, count_turn}
use Rattle.packets.specs.Packets.{raw, count_bytes, mark_bytes}

module _ (s : List ℕ) (c : Setting) (p : Precinct) (slot at : ℕ) where
  -- how line j is coded
  abbrev pub coding_in : ℕ → Coding
  coding_in j = coding_of s c p (raw s c p slot at) (line c p slot j).band

  module _ (cells : List ℤ) where
    -- before line j: the next bit, the nibbles of data that the lines before it ask for, and the cells
    abbrev pub before_counts : ℕ → Counting
    before_counts j = before (count_turn s c p slot (count_bytes s c p slot at) (mark_bytes s c p slot at) (raw s c p slot at)) (0, 0, cells) j

    -- before code group g of line j
    abbrev pub before_group : ℕ → ℕ → State
    before_group j g =
        before (turn (count_bytes s c p slot at) (mark_bytes s c p slot at) (coding_in j) (place_of (line c p slot j)) (marks s c p slot (raw s c p slot at) j))
        ((before_counts j).0, 0, (before_counts j).2) g

    -- Table C.13: the cell whose M and T are the predictors of code group g of line j
    abbrev pub predictor : ℕ → ℕ → ℤ
    predictor j g = above (place_of (line c p slot j)) g (before_group j g).2
