-- What a packet stores, by name: M[p,λ,b,g] of each code group of its lines (Table C.8), and the index of each coefficient (Tables C.9 and C.10). `at` is where
-- the packet's header stands, `cells` what the packets before it leave: the vertical predictors stand there.
use Rattle.std.specs.Prelude.{ℕ, zero, suc, ◌/◌, ◌%◌, cond, List, ℤ, Ok, Err}
use Rattle.bits.specs.Groups.{Ng}
use Rattle.counts.specs.Lines.{unpack}
use Rattle.counts.specs.Groups.{Group}
use Rattle.values.specs.declared.Next.{Next}
use Rattle.values.specs.Group.{index}
use Rattle.values.specs.Line.{behind}
use Rattle.packets.specs.declared.Setting.{Setting}
use Rattle.packets.specs.declared.Precinct.{Precinct}
use Rattle.packets.specs.Precincts.{T}
use Rattle.packets.specs.Passes.{line, marks, place_of}
use Rattle.packets.specs.Packets.{raw, count_bytes, mark_bytes, data_bytes, sign_bytes}
use Rattle.packets.specs.Counted.{coding_in, before_group}

-- M of a code group that is read. One that is refused has none
abbrev pub group_m : Group → ℕ
group_m (Ok k) = k.m
group_m (Err f) = 0

module _ (s : List ℕ) (c : Setting) (p : Precinct) (slot at : ℕ) (cells : List ℤ) where
  -- Table C.8: M[p,λ,b,g] of group g of line j, as it is read in its turn
  unfoldable pub stored_m : ℕ → ℕ → ℕ
  stored_m j g =
      let x = before_group s c p slot at cells j g in
      group_m (
      unpack (coding_in s c p slot at j).mode (count_bytes s c p slot at) (mark_bytes s c p slot at) (coding_in s c p slot at j) (place_of (line c p slot j))
      (marks s c p slot (raw s c p slot at) j) g x.0 x.2
      )

  -- what comes next before line j: the lines that the precinct has stand one after the other
  unfoldable pub before_line : ℕ → Next
  before_line zero = record { at = 0; sign = 0 }
  before_line (suc j) =
      cond (line c p slot j).present (behind (data_bytes s c p slot at) c.fs (T c p (line c p slot j).band) (stored_m j) (before_line j) (line c p slot j).groups) (before_line j)

  -- and before group g of line j
  abbrev pub before_data : ℕ → ℕ → Next
  before_data j g = behind (data_bytes s c p slot at) c.fs (T c p (line c p slot j).band) (stored_m j) (before_line j) g

  -- C.5.4, C.5.5: the signed index of coefficient x of line j, which is one of its group's Ng
  unfoldable pub stored_index : ℕ → ℕ → ℤ
  stored_index j x =
      let n = before_data j (x / Ng) in
      index (data_bytes s c p slot at) c.fs (stored_m j (x / Ng)) (T c p (line c p slot j).band) n.at (sign_bytes s c p slot at) n.sign (x % Ng)
