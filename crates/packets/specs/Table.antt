-- The checks of a packet as one table, in the order in which a reading comes to them. A broken check decides whatever stands behind it.
use Rattle.std.specs.Prelude.{ℕ, List, ◌++◌, ℤ}
use Rattle.rows.specs.declared.Check.{Check}
use Rattle.values.specs.declared.Next.{Next}
use Rattle.packets.specs.declared.Setting.{Setting}
use Rattle.packets.specs.declared.Precinct.{Precinct}
use Rattle.packets.specs.Passes.{packet_values}
use Rattle.packets.specs.Packets.{data_bytes, sign_bytes, head_checks, count_checks, data_checks, sign_checks, counts_of}

module _ (s : List ℕ) (c : Setting) (p : Precinct) (slot at : ℕ) where
  -- the values, behind the counts
  abbrev pub values_after : List ℤ → Next × List ℤ
  values_after cells = packet_values c p slot (data_bytes s c p slot at) (sign_bytes s c p slot at) (counts_of s c p slot at cells).1

  -- the header as far as the counts' length, the counts, the data, the signs. `raws` are the raw flags of the earlier slots, `cells` what they leave
  unfoldable pub packet_checks : List ℕ → List ℤ → List Check
  packet_checks raws cells =
      head_checks s c p slot at raws
      ++ (count_checks s c p slot at (counts_of s c p slot at cells).0
      ++ (data_checks s c p slot at (counts_of s c p slot at cells).0
      ++ sign_checks s c p slot at (values_after cells).0.sign))
