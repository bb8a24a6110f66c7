-- Streams that agree before a place: so do the segments, the picture header and the checks up to it. Assumes nothing.
use Prim.Native.Nat.{ℕ, ◌+◌, ◌*◌, ◌-◌, ◌≤◌}
use mathlib.Core.List.{List, ◌++◌}
use mathlib.Core.Path.{◌≡◌, ◌∙◌}
use native.Mathlib.Omega.{arith}
use Rattle.bits.specs.Alike.{Alike}
use Rattle.bits.specs.Fields.{field_at}
use Rattle.bits.proofs.Alike.{field_alike}
use Rattle.rows.specs.declared.Field.TheVariants.{Soc, Cap, Lcap, Pih, Lpih}
use Rattle.picture.specs.Markers.{SOC, CAP, PIH}
use Rattle.picture.specs.Opening.{picture_place, picture_checks, opening_checks}
use Rattle.picture.specs.Picture.{bits_at, picture_at, field_checks}
use Rattle.picture.specs.Segment.{segment_at, marker_checks, length_checks}

module _ {s s' : List ℕ} {to : ℕ} (alike : Alike s s' 0 to) where
  -- their bits and bytes
  pub bits_alike : (place k n : ℕ) → 8 * place + k + n ≤ 8 * to → bits_at s' place k n ≡ bits_at s place k n
  bits_alike place k n h = field_alike alike (8 * place + k) n (omega arith) h

  pub bytes_alike : (place n : ℕ) → 8 * place + n ≤ 8 * to → field_at s' place n ≡ field_at s place n
  bytes_alike place n h = field_alike alike (8 * place) n (omega arith) h

  pub segment_alike : (p : ℕ) → p + 4 ≤ to → segment_at s' p ≡ segment_at s p
  segment_alike p h =
      λ i. record { at = p; left = alike.long i - p; marker = bytes_alike p 16 (omega arith) i; rest = alike.long i - (p + 2); size = bytes_alike (p + 2) 16 (omega arith) i }

  pub picture_alike : (p : ℕ) → p + 28 ≤ to → picture_at s' p ≡ picture_at s p
  picture_alike p h =
      λ i.
      record {
        lcod = bytes_alike (p + 4) 32 (omega arith) i;
        ppih = bytes_alike (p + 8) 16 (omega arith) i;
        plev = bytes_alike (p + 10) 16 (omega arith) i;
        wf = bytes_alike (p + 12) 16 (omega arith) i;
        hf = bytes_alike (p + 14) 16 (omega arith) i;
        cw = bytes_alike (p + 16) 16 (omega arith) i;
        hsl = bytes_alike (p + 18) 16 (omega arith) i;
        nc = bytes_alike (p + 20) 8 (omega arith) i;
        ng = bytes_alike (p + 21) 8 (omega arith) i;
        ss = bytes_alike (p + 22) 8 (omega arith) i;
        bw = bytes_alike (p + 23) 8 (omega arith) i;
        fq = bytes_alike (p + 24) 4 (omega arith) i;
        br = bits_alike (p + 24) 4 4 (omega arith) i;
        fslc = bytes_alike (p + 25) 1 (omega arith) i;
        ppoc = bits_alike (p + 25) 1 3 (omega arith) i;
        cpih = bits_alike (p + 25) 4 4 (omega arith) i;
        nlx = bytes_alike (p + 26) 4 (omega arith) i;
        nly = bits_alike (p + 26) 4 4 (omega arith) i;
        lh = bytes_alike (p + 27) 1 (omega arith) i;
        rl = bits_alike (p + 27) 1 1 (omega arith) i;
        qpih = bits_alike (p + 27) 2 2 (omega arith) i;
        fs = bits_alike (p + 27) 4 2 (omega arith) i;
        rm = bits_alike (p + 27) 6 2 (omega arith) i;
      }

  -- SOC, CAP and PIH
  module _ (l : picture_place s + 28 ≤ to) where
    pub place_alike : picture_place s' ≡ picture_place s
    place_alike = λ i. 4 + bytes_alike 4 16 (omega arith) i

    pub opening_alike : opening_checks s' ≡ opening_checks s
    opening_alike =
        λ i.
        (marker_checks (segment_alike 0 (omega arith) i) Soc SOC
        ++ (marker_checks (segment_alike 2 (omega arith) i) Cap CAP ++ length_checks (segment_alike 2 (omega arith) i) Lcap 2 0xffff))
        ++ third i
      where
        p : ℕ
        p = picture_place s

        third : picture_checks s' (picture_place s') ≡ picture_checks s p
        third =
            (λ i. picture_checks s' (place_alike i))
            ∙ (λ i. marker_checks (segment_alike p (omega arith) i) Pih PIH
            ++ (length_checks (segment_alike p (omega arith) i) Lpih 26 26 ++ field_checks (alike.long i) p (picture_alike p l i)))
