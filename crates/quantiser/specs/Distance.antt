-- The distance rule, number 1.
use Rattle.std.specs.Prelude.{ℕ, ◌-◌, ◌*◌, ◌^◌}

-- a band's number, for its largest truncation position T
unfoldable pub band_number : ℕ → ℕ → ℕ
band_number T Fq = (2 ^ T - 1) * 2 ^ Fq
