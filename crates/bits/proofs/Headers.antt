-- Laws of packet headers, each once over the widths of their fields. Assumes nothing.
use Prim.Native.Nat.{ℕ, ◌+◌, ◌*◌, ◌^◌}
use mathlib.Core.Path.{◌≡◌, refl, sym}
use mathlib.Core.Bool.{Bool, true, false, cond, ◌&&◌}
use mathlib.Core.List.{List}
use native.Mathlib.Omega.{arith}
use lib.Dec.{ltb, eqb, lit≤}
use Rattle.bits.specs.Fields.{field, field_at, IsField}
use Rattle.bits.specs.Cursors.{Steps}
use Rattle.bits.specs.Packet.{short_widths, long_widths, widths_for, header_bits, header_bytes, header_at, Fit, WidthsOf, IsHeader}
use Rattle.bits.specs.declared.cursor.Cursor.{Cursor}
use Rattle.bits.specs.declared.packet.Widths.{Widths}
use Rattle.bits.proofs.Laws.{is_field, is_moved, is_within, is_joined}

-- ---- the widths

fits : (short : Bool) → Fit (cond short short_widths long_widths)
fits true = record { dat = lit≤ tt; cnt = lit≤ tt; sgn = lit≤ tt }
fits false = record { dat = lit≤ tt; cnt = lit≤ tt; sgn = lit≤ tt }

pub widths_of : (wf nc lh : ℕ) {short : Bool} {r : Widths} → ltb (wf * nc) 32752 && eqb lh 0 ≡ short → r ≡ cond short short_widths long_widths → WidthsOf wf nc lh r
widths_of wf nc lh {short} e f = record { widths = rw e f; fit = rw f (fits short) }

-- either header is made of whole bytes
pub whole_bytes : (wf nc lh : ℕ) → 8 * header_bytes (widths_for wf nc lh) ≡ header_bits (widths_for wf nc lh)
whole_bytes wf nc lh = one (ltb (wf * nc) 32752 && eqb lh 0)
  where
    one : (short : Bool) → 8 * header_bytes (cond short short_widths long_widths) ≡ header_bits (cond short short_widths long_widths)
    one true = refl
    one false = refl

-- ---- the fields

-- four steps of a cursor from the header's first bit on read it
pub is_header : {s : List ℕ} {place : ℕ} {w : Widths} {start past_dr past_dat past_cnt end : Cursor} {dr ldat lcnt lsgn : ℕ} → Fit w → start.at ≡ 8 * place
    → Steps s start 1 dr past_dr → Steps s past_dr w.dat ldat past_dat → Steps s past_dat w.cnt lcnt past_cnt → Steps s past_cnt w.sgn lsgn end
    → IsHeader s place w (record { dr = dr; ldat = ldat; lcnt = lcnt; lsgn = lsgn })
is_header {s} {place} {w} fit start dr dat cnt sgn =
    let a = is_moved {j = 8 * place} dr.here (omega arith) in
    let b = is_moved {j = 8 * place + 1} dat.here (omega arith) in
    let c = is_moved {j = 8 * place + 1 + w.dat} cnt.here (omega arith) in
    let d = is_moved {j = 8 * place + 1 + w.dat + w.cnt} sgn.here (omega arith) in
    record {
      header = λ i. record { dr = a.value i; ldat = b.value i; lcnt = c.value i; lsgn = d.value i };
      flag = a.below;
      dat = is_within b fit.dat;
      cnt = is_within c fit.cnt;
      sgn = is_within d fit.sgn;
    }

-- the four fields are the header's bits, each once and in this order
pub header_joined : (s : List ℕ) (place : ℕ) (w : Widths) →
    let h = header_at s place w in
    field_at s place (header_bits w) ≡ ((h.dr * 2 ^ w.dat + h.ldat) * 2 ^ w.cnt + h.lcnt) * 2 ^ w.sgn + h.lsgn
header_joined s place w =
    let here : (i n : ℕ) → IsField s i n (field s i n) = λ i n. is_field refl in
    let p = 8 * place + 1 in
    sym
    (is_joined
    (is_joined
    (is_joined (here (8 * place) 1) (here p w.dat) refl refl)
    (here (p + w.dat) w.cnt)
    (omega arith)
    refl)
    (here (p + w.dat + w.cnt) w.sgn)
    (omega arith)
    refl).value
