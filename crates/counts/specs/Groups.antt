-- C.6.3 to C.6.6: the bitplane count of one code group.
use Rattle.std.specs.Prelude.{ℕ, ◌+◌, ◌*◌, ◌^◌, ◌≤◌, max, ◌≡◌, Bool, cond, List, leb, ℤ, pos, negsuc, ◌+ℤ◌, ◌-ℤ◌, length, Result, Ok, Err}
use Rattle.bits.specs.Fields.{field}
use Rattle.counts.specs.Codes.{ones, vlc}
use Rattle.counts.specs.declared.group.Coding.{Coding}
use Rattle.counts.specs.declared.group.Count.{Count}
use Rattle.counts.specs.declared.group.Fault.{Fault}
use Rattle.counts.specs.declared.group.Fault.TheVariants.{Cut, High, Long}

-- what reading a group finds: its count with the bit past its code, or why it has none
abbrev pub Group : Type 0
Group = Result Count Fault

-- M is 0 to 31, whatever Br is; any other is refused. The next code stands from bit `next` on. No M is below 0, since none is below T: `vlc_floor`
unfoldable pub counted : ℤ → ℕ → Group
counted (pos m) next = cond (leb m 31) (Ok (record { m = m; next = next })) (Err (High m))
counted (negsuc m) next = Err (High 0)

-- C.7.1: mtop + Δm for the code Δm = vlc(mtop, T) at bit i. The 2^(Br+1)th 1-bit is too many, whether or not bits follow: the code's end, and so its count, is
-- not known then. Before it the stretch's end cuts the code
unfoldable pub coded : List ℕ → ℕ → ℕ → ℕ → ℕ → Group
coded s br mtop t i =
    let n = ones s i (2 ^ (br + 1)) in
    cond (leb (2 ^ (br + 1)) n)
    (Err (Long n))
    (cond (leb (8 * length s) (i + n))
    (Err Cut)
    (counted (pos mtop +ℤ vlc mtop t n) (i + n + 1)))

-- Table C.14: M is u(Br)
abbrev pub unpack_raw : List ℕ → ℕ → ℕ → Group
unpack_raw s br i = cond (leb (i + br) (8 * length s)) (counted (pos (field s i br)) (i + br)) (Err Cut)

-- Table C.16: mtop is T. Of a group that is insignificant, Δm is 0
abbrev pub unpack_nopred : List ℕ → Coding → Bool → ℕ → Group
unpack_nopred s c insignificant i =
    let mtop = c.t in
    let Δm = pos 0 in
    cond insignificant (counted (pos mtop +ℤ Δm) i) (coded s c.br mtop c.t i)

-- Table C.15, with M and T of the line above. Of a group that is insignificant, Δm is 0 where Rm = 0 and T − mtop where Rm = 1
abbrev pub unpack_vertical : List ℕ → Coding → Bool → ℕ → ℕ → ℕ → Group
unpack_vertical s c insignificant Mtop Ttop i =
    let t = max c.t Ttop in
    let mtop = max Mtop t in
    let Δm = cond c.run (pos c.t -ℤ pos mtop) (pos 0) in
    cond insignificant (counted (pos mtop +ℤ Δm) i) (coded s c.br mtop c.t i)

-- the number of 1-bits that is too many. The bound follows from Br ≤ 5, and stands beside it for the callers' sums
pub record Limit (br r : ℕ) : Type 0 where
  pub limit : r ≡ 2 ^ (br + 1)
  pub most : r ≤ 64
