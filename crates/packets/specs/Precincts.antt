-- What the precinct header says of a band (C.2, C.6.2).
use Rattle.std.specs.Prelude.{ℕ, ◌+◌, ◌*◌, List, get_or, take, drop}
use Rattle.bits.specs.Fields.{field}
use Rattle.layout.specs.Headers.{mode_bit, truncation}
use Rattle.packets.specs.declared.Setting.{Setting}
use Rattle.packets.specs.declared.Precinct.{Precinct}

-- Table C.1: D[p,b]
unfoldable pub D : List ℕ → Setting → Precinct → ℕ → ℕ
D s c p b = field s (8 * p.at + mode_bit c.shape b) 2

-- Table C.12: T[p,b]
unfoldable pub T : Setting → Precinct → ℕ → ℕ
T c p b = truncation p.q p.r (get_or c.gains b 0) (get_or c.priorities b 0) c.br

-- n bytes of a stream from a place on
abbrev pub stretch : List ℕ → ℕ → ℕ → List ℕ
stretch s at n = take n (drop at s)
