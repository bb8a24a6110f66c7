-- `picture::picture::Picture::read`: each field is what its reader answers, or a part of the byte that it shares. Assumes nothing.
use mathlib.Core.Path.{refl}
use Rattle.bits.proofs.Laws.{is_first, is_last, is_part}
use Rattle.picture.proofs.picture.Picture.read.Goals as goal

pub returns : goal.returns
returns c =
    let bits = c.u8_at-bits.ensures in
    let modes = c.u8_at-modes.ensures in
    let levels = c.u8_at-levels.ensures in
    let flags = c.u8_at-flags.ensures in
    λ i.
    record {
      lcod = c.u32_at.ensures.value i;
      ppih = c.u16_at.ensures.value i;
      plev = c.u16_at-2.ensures.value i;
      wf = c.u16_at-3.ensures.value i;
      hf = c.u16_at-4.ensures.value i;
      cw = c.u16_at-5.ensures.value i;
      hsl = c.u16_at-6.ensures.value i;
      nc = c.u8_at.ensures.value i;
      ng = c.u8_at-2.ensures.value i;
      ss = c.u8_at-3.ensures.value i;
      bw = c.u8_at-4.ensures.value i;
      fq = (is_first {n = 4} 4 bits refl).value i;
      br = (is_last {n = 4} 4 bits refl refl).value i;
      fslc = (is_first {n = 1} 7 modes refl).value i;
      ppoc = (is_part {n = 3} 1 4 modes refl refl).value i;
      cpih = (is_last {n = 4} 4 modes refl refl).value i;
      nlx = (is_first {n = 4} 4 levels refl).value i;
      nly = (is_last {n = 4} 4 levels refl refl).value i;
      lh = (is_first {n = 1} 7 flags refl).value i;
      rl = (is_part {n = 1} 1 6 flags refl refl).value i;
      qpih = (is_part {n = 2} 2 4 flags refl refl).value i;
      fs = (is_part {n = 2} 4 2 flags refl refl).value i;
      rm = (is_last {n = 2} 6 flags refl refl).value i;
    }
