-- The verdict of a packet is that of one table. Assumes nothing.
use Rattle.std.specs.Prelude.{Ok, Err}
use Prim.Native.Nat.{ℕ}
use mathlib.Core.List.{List, ◌++◌, append_assoc}
use mathlib.Core.Path.{◌≡◌, refl, ap, ◌∙◌}
use lib.IntN.{ℤ}
use Rattle.rows.specs.Rows.{first, then, Verdict}
use Rattle.rows.specs.declared.Check.{Check}
use Rattle.rows.proofs.Tables.{joined}
use Rattle.packets.specs.declared.Setting.{Setting}
use Rattle.packets.specs.declared.Precinct.{Precinct}
use Rattle.packets.specs.Packets.{head_checks, count_checks, data_checks, sign_checks, values_by, counts_by, packet, counts_of}
use Rattle.packets.specs.Table.{values_after, packet_checks}

module _ (s : List ℕ) (c : Setting) (p : Precinct) (slot at : ℕ) (raws : List ℕ) (cells : List ℤ) where
  -- of the counts and the data
  abbrev middle : List Check
  middle = count_checks s c p slot at (counts_of s c p slot at cells).0 ++ data_checks s c p slot at (counts_of s c p slot at cells).0

  abbrev signs : List Check
  signs = sign_checks s c p slot at (values_after s c p slot at cells).0.sign

  by_values : (v : Verdict) → (values_by s c p slot at v (counts_of s c p slot at cells).1).0 ≡ then v (first signs)
  by_values (Ok _) = refl
  by_values (Err k) = refl

  by_counts : (v : Verdict) → (counts_by s c p slot at v cells).0 ≡ then v (first (middle ++ signs))
  by_counts (Ok _) = joined middle signs (by_values (first middle)) refl refl
  by_counts (Err k) = refl

  pub packet_table : (packet s c p slot at raws cells).0 ≡ first (packet_checks s c p slot at raws cells)
  unfolding packet packet_checks
  packet_table =
      let heads = head_checks s c p slot at raws in
      let counted = (counts_of s c p slot at cells).0 in
      joined heads (middle ++ signs) (by_counts (first heads)) refl refl
      ∙ ap (λ (t : List Check). first (heads ++ t)) (append_assoc (count_checks s c p slot at counted) (data_checks s c p slot at counted) signs)
