-- Where a coefficient lies in the work buffer. Component i with n samples owns 2 n cells, one component after the other: its n coefficients, in the
-- places of the samples that they become, and then its n counts in the same order.
use Rattle.std.specs.Prelude.{ℕ, zero, suc, ◌+◌, ◌*◌}
use Rattle.wavelet.specs.Bands.{τx, τy}
use Rattle.wavelet.specs.Places.{place}
use Rattle.layout.specs.declared.Shape.{Shape}
use Rattle.layout.specs.Bands.{Wc, Hc, kind, dx, depth}

-- n, the samples of component i
unfoldable pub area : Shape → ℕ → ℕ
area s i = Wc s i * Hc s i

-- the samples of the components before i; at i = Nc it is N, the samples of all
unfoldable pub samples : Shape → ℕ → ℕ
samples s zero = 0
samples s (suc i) = samples s i + area s i

-- the first cell of component i; at i = Nc it is 2 N, the number of all cells
abbrev pub start : Shape → ℕ → ℕ
start s i = 2 * samples s i

-- the cell of coefficient (x, y) of a band of component i, counted from the component's first
unfoldable pub inner : Shape → ℕ → ℕ → ℕ → ℕ → ℕ
inner s β i x y = place (τy (kind s β)) (depth s β i) y * Wc s i + place (τx (kind s β)) (dx s β) x

abbrev pub cell : Shape → ℕ → ℕ → ℕ → ℕ → ℕ
cell s β i x y = start s i + inner s β i x y
