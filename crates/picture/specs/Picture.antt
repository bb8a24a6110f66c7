-- A.4.4: the picture header. Places count from p, its marker's place.
use Rattle.std.specs.Prelude.{ℕ, ◌+◌, ◌*◌, ◌≤◌, ◌<◌, ◌^◌, ◌||◌, ◌&&◌, cond, List, [], ◌∷◌, ◌++◌, ◌≡◌, eqb, leb, ltb}
use Rattle.bits.specs.Fields.{field, field_at}
use Rattle.bits.specs.Groups.{Ng as code_group, Ss as significance_group}
use Rattle.rows.specs.Rows.{check, ample}
use Rattle.rows.specs.declared.Check.{Check}
use Rattle.rows.specs.declared.Field.TheVariants.{Lcod, Wf, Hf, Hsl, Nc, Ng, Ss, Bw, Fq, Br, Fslc, Ppoc, Cpih, Nlx, Nly, Qpih, Fs, Rm}
use Rattle.rows.specs.declared.Row.TheVariants.{Value, Lacking, Length}
use Rattle.picture.specs.declared.picture.Picture.{Picture}

-- u(n) behind the first k bits of the byte at a place
abbrev pub bits_at : List ℕ → ℕ → ℕ → ℕ → ℕ
bits_at s place k n = field s (8 * place + k) n

-- Table A.7
abbrev pub picture_at : List ℕ → ℕ → Picture
picture_at s p =
    record {
      lcod = field_at s (p + 4) 32;
      ppih = field_at s (p + 8) 16;
      plev = field_at s (p + 10) 16;
      wf = field_at s (p + 12) 16;
      hf = field_at s (p + 14) 16;
      cw = field_at s (p + 16) 16;
      hsl = field_at s (p + 18) 16;
      nc = field_at s (p + 20) 8;
      ng = field_at s (p + 21) 8;
      ss = field_at s (p + 22) 8;
      bw = field_at s (p + 23) 8;
      fq = field_at s (p + 24) 4;
      br = bits_at s (p + 24) 4 4;
      fslc = field_at s (p + 25) 1;
      ppoc = bits_at s (p + 25) 1 3;
      cpih = bits_at s (p + 25) 4 4;
      nlx = field_at s (p + 26) 4;
      nly = bits_at s (p + 26) 4 4;
      lh = field_at s (p + 27) 1;
      rl = bits_at s (p + 27) 1 1;
      qpih = bits_at s (p + 27) 2 2;
      fs = bits_at s (p + 27) 4 2;
      rm = bits_at s (p + 27) 6 2;
    }

-- no picture header: all 0
abbrev pub no_picture : Picture
no_picture =
    record {
      lcod = 0;
      ppih = 0;
      plev = 0;
      wf = 0;
      hf = 0;
      cw = 0;
      hsl = 0;
      nc = 0;
      ng = 0;
      ss = 0;
      bw = 0;
      fq = 0;
      br = 0;
      fslc = 0;
      ppoc = 0;
      cpih = 0;
      nlx = 0;
      nly = 0;
      lh = 0;
      rl = 0;
      qpih = 0;
      fs = 0;
      rm = 0;
    }

-- Table A.7, Lcod to Hsl, for a stream of n bytes. Document 01: 'Lcod is neither 0 nor the lent length' is answered 6, 'an undeclared length (Lcod 0)' 4;
-- profile and level (p + 8, p + 10) are 'read and not judged'; widths and heights of 1 to 16,384 are built, and its rule of two samples to each filter, in the
-- component table, stands for the least that Table A.7 asks of Wf and Hf. Cw (p + 16) is judged there too, with every sx
abbrev pub size_checks : ℕ → ℕ → Picture → List Check
size_checks n p h =
    check Lacking (p + 4) Lcod h.lcod 1 ample
    ∷ check Length (p + 4) Lcod h.lcod n n
    ∷ check Value (p + 12) Wf h.wf 1 0xffff
    ∷ check Lacking (p + 12) Wf h.wf 1 16384
    ∷ check Value (p + 14) Hf h.hf 1 0xffff
    ∷ check Lacking (p + 14) Hf h.hf 1 16384
    ∷ check Value (p + 18) Hsl h.hsl 1 0xffff
    ∷ []

-- Table A.8: Bw is B[0], which is 8 to 16, or 18 or 20. So it is 8 to 16 below 18, 18 there, and 20 above
abbrev pub least_bw : ℕ → ℕ
least_bw bw = cond (ltb bw 18) 8 (cond (eqb bw 18) 18 20)

abbrev pub most_bw : ℕ → ℕ
most_bw bw = cond (ltb bw 18) 16 (cond (eqb bw 18) 18 20)

-- Table A.8, for the Bw that are built, without 18: Fq is 8 for Bw 20 and else 0, Br is 4 for Bw 20 or up to 12 and else 5
abbrev pub fq_for : ℕ → ℕ
fq_for bw = cond (eqb bw 20) 8 0

abbrev pub br_for : ℕ → ℕ
br_for bw = cond (leb bw 12 || eqb bw 20) 4 5

-- Table A.7, Nc to Br. Document 01: 1 to 4 components are built, and non-linear output is not, which Table A.8 binds to Bw 18
abbrev pub precision_checks : ℕ → Picture → List Check
precision_checks p h =
    check Value (p + 20) Nc h.nc 1 8
    ∷ check Lacking (p + 20) Nc h.nc 1 4
    ∷ check Value (p + 21) Ng h.ng code_group code_group
    ∷ check Value (p + 22) Ss h.ss significance_group significance_group
    ∷ check Value (p + 23) Bw h.bw (least_bw h.bw) (most_bw h.bw)
    ∷ check Lacking (p + 23) Bw h.bw (cond (eqb h.bw 18) 20 8) 20
    ∷ check Value (p + 24) Fq h.fq (fq_for h.bw) (fq_for h.bw)
    ∷ check Value (p + 24) Br h.br (br_for h.bw) (br_for h.bw)
    ∷ []

-- Table A.9: Cpih is 0, 1 or 3, and 2 and 4 to 15 are reserved. F.2: it is 0 with fewer than three components, and below 2 with fewer than four. A single range
-- has no gap: beside a 3 that is allowed it goes to 3, beside any other value to 1, so that nothing reserved is ever named as expected
abbrev pub most_cpih : ℕ → ℕ → ℕ
most_cpih nc cpih = cond (ltb nc 3) 0 (cond (ltb 3 nc && eqb cpih 3) 3 1)

-- Table A.7, Fslc to Cpih, with Tables A.14, A.13 and A.9. Document 01: Star-Tetrix (3) is not built
abbrev pub mode_checks : ℕ → Picture → List Check
mode_checks p h =
    check Value (p + 25) Fslc h.fslc 0 0
    ∷ check Value (p + 25) Ppoc h.ppoc 0 0
    ∷ check Value (p + 25) Cpih h.cpih 0 (most_cpih h.nc h.cpih)
    ∷ check Lacking (p + 25) Cpih h.cpih 0 1
    ∷ []

-- Table A.7, NLx to Rm, with Tables A.10 to A.12. NLy is at most min(NLx, 6); its least joins it with every sy, and is judged at each. Document 01: at most 5
-- levels across and 2 down are built
abbrev pub level_checks : ℕ → Picture → List Check
level_checks p h =
    check Value (p + 26) Nlx h.nlx 1 8
    ∷ check Lacking (p + 26) Nlx h.nlx 1 5
    ∷ check Value (p + 26) Nly h.nly 0 h.nlx
    ∷ check Value (p + 26) Nly h.nly 0 6
    ∷ check Lacking (p + 26) Nly h.nly 0 2
    ∷ check Value (p + 27) Qpih h.qpih 0 1
    ∷ check Value (p + 27) Fs h.fs 0 1
    ∷ check Value (p + 27) Rm h.rm 0 1
    ∷ []

-- Table A.7, all fields behind the segment's length
abbrev pub field_checks : ℕ → ℕ → Picture → List Check
field_checks n p h = size_checks n p h ++ (precision_checks p h ++ (mode_checks p h ++ level_checks p h))

-- the ranges of an accepted picture header
pub record Built (h : Picture) : Type 0 where
  pub wf : (1 ≤ h.wf) × (h.wf ≤ 16384)
  pub hf : (1 ≤ h.hf) × (h.hf ≤ 16384)
  pub cw : h.cw < 2 ^ 16
  pub hsl : (1 ≤ h.hsl) × (h.hsl < 2 ^ 16)
  pub nc : (1 ≤ h.nc) × (h.nc ≤ 4)
  pub bw : (8 ≤ h.bw) × (h.bw ≤ 20)
  pub fq : h.fq ≡ fq_for h.bw
  pub br : h.br ≡ br_for h.bw
  pub cpih : h.cpih ≤ 1
  pub colours : h.cpih ≡ 1 → 3 ≤ h.nc
  pub nlx : (1 ≤ h.nlx) × (h.nlx ≤ 5)
  pub nly : (h.nly ≤ h.nlx) × (h.nly ≤ 2)
  pub lh : h.lh < 2
  pub rl : h.rl < 2
  pub qpih : h.qpih ≤ 1
  pub fs : h.fs ≤ 1
  pub rm : h.rm ≤ 1
