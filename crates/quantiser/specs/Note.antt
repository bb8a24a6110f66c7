-- The NOTE in D.3, beside Table D.2. The table is normative and the NOTE is not: the table's sum is the definition of a size (Inverse), and the NOTE's fraction is what the
-- code computes.
use Rattle.std.specs.Prelude.{◌≡◌, ℕ, ◌+◌, ◌-◌, ◌*◌, ◌/◌, ◌^◌}
use Rattle.quantiser.specs.Inverse.{series, uniform}

-- v × Δ, with the bucket size Δ = 2^(M+1) / (2^(M+1-T) - 1), rounded down once
abbrev pub by_buckets : ℕ → ℕ → ℕ → ℕ
by_buckets M T v = v * 2 ^ (M + 1) / (2 ^ (M - T + 1) - 1)

-- Document 02, C-14: 'the two agree for all M above T and v below 2^(M−T)' (`uniform_division`, proofs/Near). Each term of the table's sum is rounded down by itself, the
-- fraction only once
pub record Agree (M T v : ℕ) : Type 0 where
  -- the repeated sum itself
  pub sum : series (2 ^ (M - T + 1)) (v * 2 ^ T) ≡ by_buckets M T v
  -- the size, which is that sum behind the table's test
  pub size : uniform M T v ≡ by_buckets M T v
