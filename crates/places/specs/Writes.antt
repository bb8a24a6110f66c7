-- What filling the cells writes, loop by loop: the coefficients that a line, a packet's slot, a precinct, a slice and a stream have, with their cells and numbers.
use Rattle.std.specs.Prelude.{◌≡◌, true, List, ℕ, ◌+◌, ◌*◌, ◌<◌, ℤ, pos}
use Rattle.whole.specs.Cells.{Onto}
use Rattle.quantiser.specs.Distance.{band_number}
use Rattle.layout.specs.declared.Line.{Line}
use Rattle.layout.specs.Precincts.{Np, slices}
use Rattle.layout.specs.Slots.{slots, candidates}
use Rattle.packets.specs.declared.Setting.{Setting}
use Rattle.packets.specs.declared.Precinct.{Precinct}
use Rattle.packets.specs.Precincts.{T}
use Rattle.packets.specs.Passes.{line}
use Rattle.slices.specs.Precinct.{precinct_at}
use Rattle.slices.specs.Slice.{row_of, column_in}
use Rattle.slices.specs.Walk.{slice_place, precinct_place}

-- some numbers, named by I: those that there are, the cell of each, and what it is
pub record Writes (I : Type 0) : Type 1 where
  pub cell : I → ℕ
  pub Has : I → Type 0
  pub number : I → ℕ

-- those of the first n of many
abbrev pub first : {I : Type 0} → ℕ → (ℕ → Writes I) → Writes (ℕ × I)
first n w = record { cell = λ q. (w q.0).cell q.1; Has = λ q. (q.0 < n) × (w q.0).Has q.1; number = λ q. (w q.0).number q.1 }

-- l' is l with them, and with no other cell changed
abbrev pub Written : {I : Type 0} → Writes I → List ℤ → List ℤ → Type 0
Written w = Onto w.cell w.Has (λ i. pos (w.number i))

module _ (c : Setting) (p : Precinct) where
  -- rule 1 of band b
  abbrev pub number_in : ℕ → ℕ
  number_in b = band_number (T c p b) c.fq

  -- a line, where the precinct has it
  abbrev pub on_line : Line → Writes ℕ
  on_line l = record { cell = λ x. l.cell + x * l.stride; Has = λ x. (l.present ≡ true) × (x < l.width); number = λ x. number_in l.band }

  -- candidate j of a slot
  abbrev pub line_writes : ℕ → ℕ → Writes ℕ
  line_writes slot j = on_line (line c p slot j)

  abbrev pub slot_writes : ℕ → Writes (ℕ × ℕ)
  slot_writes slot = first (candidates c.shape slot) (line_writes slot)

  abbrev pub precinct_writes : Writes (ℕ × (ℕ × ℕ))
  precinct_writes = first (slots c.shape) slot_writes

-- slice t, whose header stands at a place, and the stream, whose first slice header stands at one
module _ (s : List ℕ) (c : Setting) where
  abbrev pub precincts_of : ℕ → ℕ → ℕ → Writes (ℕ × (ℕ × ℕ))
  precincts_of t at n = precinct_writes c (precinct_at s c (row_of s c t n) (column_in s c t n) (precinct_place s c at n))

  abbrev pub slice_writes : ℕ → ℕ → Writes (ℕ × (ℕ × (ℕ × ℕ)))
  slice_writes t at = first (Np c.shape t) (precincts_of t at)

  abbrev pub slices_of : ℕ → ℕ → Writes (ℕ × (ℕ × (ℕ × ℕ)))
  slices_of at t = slice_writes t (slice_place s c at t)

  abbrev pub stream_writes : ℕ → Writes (ℕ × (ℕ × (ℕ × (ℕ × ℕ))))
  stream_writes at = first (slices c.shape) (slices_of at)
