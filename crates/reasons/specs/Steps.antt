-- What the steps of the search ask.
use Rattle.std.specs.Prelude.{ℕ, ◌^◌, ◌<◌, ◌≡◌, List, length, get_or}
use Rattle.rows.specs.Rows.{Fine}
use Rattle.layout.specs.Bands.{NL}
use Rattle.header.specs.declared.header.Header.{Header}
use Rattle.packets.specs.declared.Setting.{Setting}
use Rattle.packets.specs.Ready.{Settled}
use Rattle.slices.specs.Walk.{walk_stream}
use Rattle.reader.specs.Decoding.{decoded_verdict, tops}
use Rattle.reader.specs.Steps.{Opened}
use Rattle.reasons.specs.Coarsest.{largest_in}

-- a header that is accepted, slices that are, and the largest T of each band that they leave
pub record Told (s : List ℕ) (h : Header) (left : List ℕ) : Type 0 where
  pub opened : Opened s h
  pub fine : decoded_verdict s h ≡ Fine
  pub largest : left ≡ tops s h

-- slices through which declared lengths lead, from the first slice header at a place
pub record Walked (s : List ℕ) (c : Setting) (at : ℕ) : Type 0 where
  pub settled : Settled c
  pub short : length s < 2 ^ 32
  pub walked : (walk_stream s c at).0 ≡ Fine

-- with the largest T of each band
pub record Searched (s : List ℕ) (c : Setting) (at : ℕ) (left : List ℕ) : Type 0 where
  pub walks : Walked s c at
  pub largest : (b : ℕ) → b < NL c.shape → get_or left b 0 ≡ largest_in s c at b
