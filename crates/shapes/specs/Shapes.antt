-- Annex B's part of a header.
use Rattle.layout.specs.declared.Shape.{Shape}
use Rattle.header.specs.declared.header.Header.{Header}

abbrev pub shape_of : Header → Shape
shape_of h =
    record {
      wf = h.picture.wf;
      hf = h.picture.hf;
      cw = h.picture.cw;
      hsl = h.picture.hsl;
      nc = h.picture.nc;
      nlx = h.picture.nlx;
      nly = h.picture.nly;
      sx = h.sx;
      sy = h.sy;
    }
