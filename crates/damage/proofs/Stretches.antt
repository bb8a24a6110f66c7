-- A stretch of cells of one value, as the library's `fill` leaves it. Assumes nothing.
use Prim.Native.Nat.{ℕ, ◌-◌, ◌≤◌}
use mathlib.Core.Path.{◌≡◌}
use mathlib.Core.List.{List}
use lib.IntN.{ℤ}
use lib.ListN.{length, take, drop, replicate}
use borrow.Rule.Slice.PartMut.{put_mid}
use Rattle.std.proofs.Common.{rules}
use Rattle.std.proofs.lemmas.List.{places}
use Rattle.damage.specs.Steps.{Stretched}

pub stretched_fill : {from to : ℕ} {v : ℤ} {l part : List ℤ} → from ≤ to → to ≤ length l → part ≡ replicate (length (take (to - from) (drop from l))) v → Stretched from to v l (put_mid from (to - from) l part)
stretched_fill {from} {to} {v} {l} {part} ordered inside e =
    record { same = search (rules, places); inside = λ n a b. search (rules, places); other = λ n h. search (rules, places) }
