-- What an accepted header gives the steps behind it. Assumes nothing.
use mathlib.Core.Path.{◌≡◌, refl}
use mathlib.Core.Bool.{Bool, true, false, cond, ◌&&◌, ◌||◌}
use mathlib.Core.List.{List}
use Prim.Native.Nat.{ℕ, ◌*◌, ◌≤◌, ◌<◌}
use native.Mathlib.Decide.{dec_lt}
use native.Mathlib.Omega.{arith}
use borrow.Author.Tests.{lt-ltb, le-ltb, eqb-true}
use lib.Dec.{ltb, leb, eqb}
use lib.ListN.{get_or}
use Rattle.bits.specs.Packet.{short_widths, long_widths, Fit}
use Rattle.rows.specs.Rows.{Fine}
use Rattle.picture.specs.Picture.{fq_for}
use Rattle.output.specs.Linear.{Precisions}
use Rattle.layout.specs.Sizes.{IsComponent}
use Rattle.layout.specs.declared.bands.Component.{Component}
use Rattle.header.specs.Header.{reading_of}
use Rattle.header.specs.Accepted.{Ranges, Sampled}
use Rattle.header.specs.declared.header.Header.{Header}
use Rattle.header.proofs.Accepted.{accepted_header}
use Rattle.header.proofs.Pieces.{header_bytes_are}
use Rattle.shapes.specs.Shapes.{shape_of}
use Rattle.shapes.proofs.Accepted.{built}
use Rattle.packets.specs.Ready.{Settled}
use Rattle.planes.specs.Places.{Colours, Depths}
use Rattle.reader.specs.Settings.{setting_of, depth_of}
use Rattle.reader.specs.Sizes.{size_of}
use Rattle.reader.specs.Steps.{Opened}
use Rattle.reader.specs.declared.records.Size.{Size}

pub opened : (s : List ℕ) → (reading_of s).verdict ≡ Fine → Opened s (reading_of s).header
opened s e = record { accepted = accepted_header s e; shape = built s e; bytes = header_bytes_are s e }

-- ---- Table A.8

-- one of two numbers is at most the larger
cond_most : (b : Bool) (m n k : ℕ) → m ≤ k → n ≤ k → cond b m n ≤ k
cond_most true m n k p q = p
cond_most false m n k p q = q

-- Fq is above 0 at Bw 20 alone
twenty : (bw : ℕ) → 0 < fq_for bw → bw ≡ 20
twenty bw h = by (eqb bw 20) refl h
  where
    by : (b : Bool) → eqb bw 20 ≡ b → 0 < cond b 8 0 → bw ≡ 20
    by true e k = eqb-true bw 20 e
    by false e k = absurd (omega arith)

module _ {h : Header} (r : Ranges h) where
  pub fq_few : h.picture.fq ≤ 8
  fq_few = omega (arith, r.built.fq, cond_most (eqb h.picture.bw 20) 8 0 8 (omega arith) (omega arith))

  pub br_few : h.picture.br ≤ 5
  br_few = omega (arith, r.built.br, cond_most (leb h.picture.bw 12 || eqb h.picture.bw 20) 4 5 5 (omega arith) (omega arith))

  pub depths : Depths (shape_of h) h.picture.bw h.depth
  depths i l = by (dec_lt 0 h.picture.fq)
    where
      d : Sampled h.picture (depth_of h i) (get_or h.sx i 0) (get_or h.sy i 0)
      d = r.each i l

      by : Dec (0 < h.picture.fq) → Precisions h.picture.bw (depth_of h i)
      by (yes some) = record { most = d.depth.1; order = omega (arith, d.depth.1, twenty h.picture.bw (omega (arith, r.built.fq, some))); wide = r.built.bw.1 }
      by (no none) = record { most = d.depth.1; order = omega (arith, d.exact (omega arith)); wide = r.built.bw.1 }

  pub colours : Colours (shape_of h) h.picture.cpih
  colours = record { three = r.built.colours; full = λ one i l. (r.each i l).colour one }

-- ---- the setting

fit : (b : Bool) → Fit (cond b short_widths long_widths)
fit true = record { dat = omega arith; cnt = omega arith; sgn = omega arith }
fit false = record { dat = omega arith; cnt = omega arith; sgn = omega arith }

pub settled : {s : List ℕ} {h : Header} → Opened s h → Settled (setting_of h)
settled {s} {h} o =
    let r = o.accepted.ranges in
    record {
      shape = o.shape;
      widths = fit (ltb (h.picture.wf * h.picture.nc) 32752 && eqb h.picture.lh 0);
      br = br_few r;
      fq = omega (arith, fq_few r);
      gains = r.gains;
      modes = refl;
      head = refl;
    }

-- ---- the record's sizes

pub size_there : (h : Header) (i : ℕ) {c : Component} → i < h.picture.nc → IsComponent (shape_of h) i c
    → ◌≡◌ {A = Size} (record { w = c.w; h = c.h; b = depth_of h i }) (size_of h i)
size_there h i l c = rw (lt-ltb i h.picture.nc l) (λ k. record { w = (c.is k).w; h = (c.is k).h; b = depth_of h i })

pub size_none : (h : Header) (i : ℕ) → h.picture.nc ≤ i → ◌≡◌ {A = Size} (record { w = 0; h = 0; b = 0 }) (size_of h i)
size_none h i l = rw (le-ltb i h.picture.nc l)
