-- 'If every T is 0': no precinct of the stream cuts a plane off a band that it holds.
use Rattle.std.specs.Prelude.{◌≡◌, true, List, ℕ, ◌<◌}
use Rattle.layout.specs.Bands.{NL}
use Rattle.layout.specs.Precincts.{Np, slices}
use Rattle.packets.specs.Precincts.{T}
use Rattle.slices.specs.Precinct.{holds}
use Rattle.slices.specs.Reached.{stream_has}
use Rattle.demands.specs.Stored.{shape, setting, beginning}

-- T of precinct n of slice t, and of band b, is 0
abbrev pub Uncut : List ℕ → Type 0
Uncut s =
    (t : ℕ) → t < slices (shape s) → (n : ℕ) → n < Np (shape s) t → (b : ℕ) → b < NL (shape s)
    → holds (setting s) (stream_has s (setting s) (beginning s) t n) b ≡ true → T (setting s) (stream_has s (setting s) (beginning s) t n) b ≡ 0
