-- Laws of segments and of the picture header. Assumes nothing.
use Prim.Native.Nat.{ℕ, ◌+◌, ◌*◌, ◌≤◌, ◌<◌}
use mathlib.Core.Bool.{Bool, true, false, cond}
use mathlib.Core.List.{List, ◌++◌}
use mathlib.Core.Path.{◌≡◌}
use native.Mathlib.Decide.{dec_lt}
use native.Mathlib.Omega.{arith}
use borrow.Author.Tests.{lt-ltb}
use lib.Dec.{eqb, ltb, lit≤}
use lib.ListN.{length}
use Rattle.bits.specs.Fields.{field_at}
use Rattle.bits.proofs.Laws.{field_lt}
use Rattle.rows.specs.Rows.{first, Fine}
use Rattle.rows.specs.declared.Field.{Field}
use Rattle.rows.specs.declared.Field.TheVariants.{Pih, Lpih}
use Rattle.rows.proofs.Tables.{append_fine, held}
use Rattle.picture.specs.Markers.{PIH}
use Rattle.picture.specs.Opening.{start_checks, picture_place, picture_checks, opening_checks, Opened}
use Rattle.picture.specs.Picture.{picture_at, size_checks, precision_checks, mode_checks, level_checks, field_checks, most_cpih, Built}
use Rattle.picture.specs.Segment.{segment_at, marker_checks, length_checks, IsSegment}
use Rattle.picture.specs.declared.segment.Segment.{Segment}

-- ---- a segment

pub at_place : {s : List ℕ} {p : ℕ} {g : Segment} → IsSegment s p g → g.at ≡ p
at_place x = λ i. (x.value i).at

-- a segment whose length is accepted ends in the stream
pub ends : (s : List ℕ) (p : ℕ) (f : Field) (least most : ℕ) → 2 ≤ least → first (length_checks (segment_at s p) f least most) ≡ Fine →
    (p + 4 ≤ p + 2 + field_at s (p + 2) 16) × (p + 2 + field_at s (p + 2) 16 ≤ length s)
ends s p f least most l e =
    let h = held (length_checks (segment_at s p) f least most) e in
    omega (arith, h.0.least, h.1.0.least, h.1.1.0.least)

-- ---- the picture header

bw_range : (bw : ℕ) (a b : Bool) → cond a 8 (cond b 18 20) ≤ bw → bw ≤ cond a 16 (cond b 18 20) → (8 ≤ bw) × (bw ≤ 20)
bw_range bw true b l m = omega arith
bw_range bw false true l m = omega arith
bw_range bw false false l m = omega arith

three_of : (nc cpih : ℕ) → Dec (nc < 3) → 1 ≤ most_cpih nc cpih → 3 ≤ nc
three_of nc cpih (yes l) h = absurd (omega (arith, rw (lt-ltb nc 3 l) at h))
three_of nc cpih (no l) h = omega arith

pub built : (s : List ℕ) (n p : ℕ) → first (field_checks n p (picture_at s p)) ≡ Fine → Built (picture_at s p)
built s n p e =
    let h = picture_at s p in
    let e1 = append_fine (size_checks n p h) (precision_checks p h ++ (mode_checks p h ++ level_checks p h)) e in
    let e2 = append_fine (precision_checks p h) (mode_checks p h ++ level_checks p h) e1.1 in
    let e3 = append_fine (mode_checks p h) (level_checks p h) e2.1 in
    let z = held (size_checks n p h) e1.0 in
    let b = held (precision_checks p h) e2.0 in
    let m = held (mode_checks p h) e3.0 in
    let l = held (level_checks p h) e3.1 in
    record {
      wf = (z.1.1.1.0.least, z.1.1.1.0.most);
      hf = (z.1.1.1.1.1.0.least, z.1.1.1.1.1.0.most);
      cw = field_lt s _ 16;
      hsl = (z.1.1.1.1.1.1.0.least, field_lt s _ 16);
      nc = (b.1.0.least, b.1.0.most);
      bw = bw_range h.bw (ltb h.bw 18) (eqb h.bw 18) b.1.1.1.1.0.least b.1.1.1.1.0.most;
      fq = omega (arith, b.1.1.1.1.1.1.0.least, b.1.1.1.1.1.1.0.most);
      br = omega (arith, b.1.1.1.1.1.1.1.0.least, b.1.1.1.1.1.1.1.0.most);
      cpih = m.1.1.1.0.most;
      colours = λ one. three_of h.nc h.cpih (dec_lt h.nc 3) (omega (arith, one, m.1.1.0.most));
      nlx = (l.1.0.least, l.1.0.most);
      nly = (l.1.1.0.most, l.1.1.1.1.0.most);
      lh = field_lt s _ 1;
      rl = field_lt s _ 1;
      qpih = l.1.1.1.1.1.0.most;
      fs = l.1.1.1.1.1.1.0.most;
      rm = l.1.1.1.1.1.1.1.0.most;
    }

pub opened : (s : List ℕ) → first (opening_checks s) ≡ Fine → Opened s (picture_at s (picture_place s)) (picture_place s)
opened s e =
    let n = length s in
    let p = picture_place s in
    let h = picture_at s p in
    let size = length_checks (segment_at s p) Lpih 26 26 in
    let e1 = (append_fine (start_checks s) (picture_checks s p) e).1 in
    let e2 = (append_fine (marker_checks (segment_at s p) Pih PIH) (size ++ field_checks n p h) e1).1 in
    let e3 = append_fine size (field_checks n p h) e2 in
    let f = e3.1 in
    let z = (held (size_checks n p h) (append_fine (size_checks n p h) (precision_checks p h ++ (mode_checks p h ++ level_checks p h)) f).0).1.0 in
    let l = (held size e3.0).1.1.0 in
    let lcod : h.lcod ≡ n = omega (arith, z.least, z.most) in
    record {
      built = built s n p f;
      whole = lcod;
      short = omega (arith, lcod, field_lt s (8 * (p + 4)) 32);
      behind = omega (arith, ends s p Lpih 26 26 (lit≤ tt) e3.0, l.least);
    }
