-- Document 02, C-11: with Fs = 0 the number in a packet's sign length counts for nothing. Assumes nothing.
use mathlib.Core.Path.{◌≡◌, refl, sym, ◌∙◌}
use mathlib.Core.Bool.{false}
use mathlib.Core.List.{List}
use Prim.Native.Nat.{ℕ}
use native.Mathlib.Omega.{arith}
use lib.IntN.{ℤ}
use Rattle.bits.specs.Alike.{Alike}
use Rattle.bits.proofs.Alike.{alike_part}
use Rattle.packets.specs.declared.Setting.{Setting}
use Rattle.packets.specs.declared.Precinct.{Precinct}
use Rattle.packets.specs.Ready.{Slotted}
use Rattle.packets.specs.Packets.{sig_at, Lsign, past}
use Rattle.packets.specs.Leftover.{ButSignLength, SameLeft}
use Rattle.packets.proofs.Alike.{packet_alike, past_alike, pieces_alike}

module _ (s s' : List ℕ) (c : Setting) (p : Precinct) (slot at : ℕ) (fs : c.fs ≡ false) where
  no_signs : (s : List ℕ) → Lsign s c p slot at ≡ 0
  no_signs s = rw fs refl

  pub sign_length_ignored : Slotted c p slot → ButSignLength s s' c p slot at → (raws : List ℕ) (cells : List ℤ) → SameLeft s s' c p slot at raws cells
  sign_length_ignored slotted same raws cells =
      let signs = no_signs s' ∙ sym (no_signs s) in
      let body : Alike s s' (sig_at s c p slot at) (past s c p slot at) = alike_part _ _ same.body (omega arith) (omega (arith, no_signs s)) in
      record {
        left = packet_alike s s' c p slot slotted same.precinct at same.dr same.ldat same.lcnt signs body raws cells;
        dr = same.dr;
        past = past_alike s s' c p slot slotted same.precinct at same.dr same.ldat same.lcnt signs;
        pieces = pieces_alike s s' c p slot slotted same.precinct at same.dr same.ldat same.lcnt signs body cells;
      }
