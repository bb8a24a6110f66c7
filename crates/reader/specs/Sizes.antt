-- A component's size and precision, as the record has them.
use Rattle.std.specs.Prelude.{cond, ℕ, ltb}
use Rattle.layout.specs.Bands.{Wc, Hc}
use Rattle.header.specs.declared.header.Header.{Header}
use Rattle.shapes.specs.Shapes.{shape_of}
use Rattle.reader.specs.Settings.{depth_of}
use Rattle.reader.specs.declared.records.Size.{Size}

abbrev pub size_of : Header → ℕ → Size
size_of h i =
    record {
      w = cond (ltb i h.picture.nc) (Wc (shape_of h) i) 0;
      h = cond (ltb i h.picture.nc) (Hc (shape_of h) i) 0;
      b = cond (ltb i h.picture.nc) (depth_of h i) 0;
    }
