-- `bits::eight_at` meets its contract: eight bytes, each where the last ends. Assumes nothing.
use Prim.Native.Nat.{ℕ, ◌+◌, ◌*◌}
use mathlib.Core.Path.{◌≡◌, refl}
use native.Mathlib.Omega.{arith}
use lib.ListN.{get_or}
use Rattle.bits.specs.Fields.{IsField}
use Rattle.bits.proofs.Laws.{is_byte, is_joined}
use Rattle.bits.proofs.eight_at.Goals as goal

pub returns : goal.returns
returns c =
    let s = c.args.s.now in
    let at = c.args.at in
    let b : (k : ℕ) → IsField s (8 * (at + k)) 8 (get_or s (at + k) 0) = λ k. is_byte (at + k) (omega (arith, c.type_inv.s (at + k))) in
    let first : IsField s (8 * at) 8 (get_or s at 0) = is_byte at (omega (arith, c.type_inv.s at)) in
    let two = is_joined first (b 1) (omega arith) refl in
    let three = is_joined two (b 2) (omega arith) refl in
    let four = is_joined three (b 3) (omega arith) refl in
    let five = is_joined four (b 4) (omega arith) refl in
    let six = is_joined five (b 5) (omega arith) refl in
    let seven = is_joined six (b 6) (omega arith) refl in
    let all = is_joined seven (b 7) (omega arith) refl in
    let x : ℕ → ℕ = λ k. get_or s (at + k) 0 in
    let e : c.from_be_bytes.result ≡ ((((((get_or s at 0 * 256 + x 1) * 256 + x 2) * 256 + x 3) * 256 + x 4) * 256 + x 5) * 256 + x 6) * 256 + x 7 =
    omega (arith, c.from_be_bytes.ensures) in
    rw e all
