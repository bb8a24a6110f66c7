-- The starred figures of document 01 are what the definitions give. Assumes nothing.
use mathlib.Core.Path.{◌≡◌, refl}
use Rattle.quantiser.specs.Inverse.{deadzone, terms, series, uniform, inverse, coefficient_of}
use Rattle.quantiser.specs.Forward.{deadzone_index, uniform_index, forward}
use Rattle.quantiser.specs.Distance.{band_number}
use Rattle.wavelet.specs.Filter.{extended, even_out, odd_out, filter, samples}
use Rattle.wavelet.specs.Transform.{woven, down, table_E1}
use Rattle.wavelet.specs.Distance.{component_number}
use Rattle.output.specs.Linear.{distance}
use Rattle.distances.specs.Rule.{component_number_of, coloured_number, distance_of}
use Rattle.figures.specs.Table.{table, gives, says, line_of}

pub figures : gives table ≡ says table
unfolding table line_of deadzone terms series uniform inverse coefficient_of deadzone_index uniform_index forward band_number extended even_out odd_out filter samples woven down table_E1 component_number distance component_number_of coloured_number distance_of
figures = refl
