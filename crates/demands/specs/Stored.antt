-- What an accepted page stores of each coefficient, and the coefficients that demand 3 speaks of: definitions of the stream alone. A coefficient is that of
-- component i, in a band with the letters k and the depths dx and dy, in its column x and row y.
use Rattle.std.specs.Prelude.{◌≡◌, true, List, ℕ, ◌*◌, ◌/◌, ◌%◌, ◌^◌, ◌<◌, max, ℤ, nat_abs}
use Rattle.whole.specs.Numbers.{ceil_div}
use Rattle.quantiser.specs.Inverse.{coefficient_of, scaled}
use Rattle.quantiser.specs.Forward.{index_of}
use Rattle.wavelet.specs.Transform.{Kind}
use Rattle.layout.specs.declared.Shape.{Shape}
use Rattle.layout.specs.Bands.{sx, dx as across, band}
use Rattle.layout.specs.Precincts.{Cs, slice_with, number_with}
use Rattle.layout.specs.Slots.{slots, candidates, line_with, slot_with, candidate_with}
use Rattle.bits.specs.Groups.{Ng}
use Rattle.shapes.specs.Shapes.{shape_of}
use Rattle.packets.specs.declared.Setting.{Setting}
use Rattle.packets.specs.declared.Precinct.{Precinct}
use Rattle.packets.specs.Precincts.{T}
use Rattle.packets.specs.Passes.{line}
use Rattle.slices.specs.Slice.{State}
use Rattle.slices.specs.Reached.{slice_has, slice_planes, slice_index, before_slice}
use Rattle.planes.specs.Values.{Coefficients, Every}
use Rattle.distances.specs.Rule.{type_of}
use Rattle.reader.specs.Settings.{setting_of}
use Rattle.reader.specs.Decoding.{begun}
use Rattle.reader.specs.Page.{header_of}

-- ---- Table E.2: where the standard has the coefficient in column x and row y of filter type β of component i

module _ (s : Shape) (β i x y : ℕ) where
  -- its slice (B.11), and the number of its precinct there (B.5)
  abbrev pub its_slice : ℕ
  its_slice = slice_with s β i y

  abbrev pub its_number : ℕ
  its_number = number_with s β i x y

  -- its line there, by the packet that has it (Table B.4) and its number among the lines that the packet can have. λ is y umod 2^(N_L,y − log2 s_y − d_y), and
  -- Table B.4 counts s_y lines for each
  abbrev pub its_slot : ℕ
  its_slot = slot_with s β (line_with s β i y)

  abbrev pub its_candidate : ℕ
  its_candidate = candidate_with s β i

  -- ξ, its place on the line: x umod ⌈Cs / (s_x 2^dx)⌉
  abbrev pub place_with : ℕ
  place_with = x % ceil_div (Cs s) (sx s i * 2 ^ across s β)

-- ---- what the stream s says of it

module _ (s : List ℕ) where
  abbrev pub shape : Shape
  shape = shape_of (header_of s)

  abbrev pub setting : Setting
  setting = setting_of (header_of s)

  -- where the slices begin
  abbrev pub beginning : State
  beginning = begun (header_of s)

  -- B.3: its filter type
  abbrev pub β : ℕ → Kind → ℕ → ℕ → ℕ → ℕ → ℕ
  β i k dx dy x y = type_of shape k dx

  -- a property of each coefficient that the components have
  abbrev pub Each : (ℕ → Kind → ℕ → ℕ → ℕ → ℕ → Type 0) → Type 0
  Each = Every shape

  -- E.3: ×2^Fq, the first of the inverse transforms
  abbrev pub scaled_up : Coefficients → Coefficients
  scaled_up C i k dx dy x y = scaled setting.fq (C i k dx dy x y)

  -- where z are the states from which the slices are read, one for each slice in their order
  module _ (z : ℕ → State) where
    module _ (i : ℕ) (k : Kind) (dx dy x y : ℕ) where
      abbrev type : ℕ
      type = β i k dx dy x y

      abbrev state : State
      state = z (its_slice shape type i x y)

      -- its precinct
      abbrev pub precinct_from : Precinct
      precinct_from = slice_has s setting state (its_slice shape type i x y) (its_number shape type i x y)

      -- T[p,b], of its precinct and band
      unfoldable pub truncation_from : ℕ
      truncation_from = T setting precinct_from (band shape type i)

      -- M[p,λ,b,g], of its code group, which is the ⌊ξ / Ng⌋-th of the line (B.8)
      unfoldable pub planes_from : ℕ
      planes_from =
          slice_planes s setting state (its_slice shape type i x y) (its_number shape type i x y) (its_slot shape type i x y) (its_candidate shape type i x y)
          (place_with shape type i x y / Ng)

      -- the index of (p, λ, b, ξ), with its sign
      unfoldable pub stored_from : ℤ
      stored_from =
          slice_index s setting state (its_slice shape type i x y) (its_number shape type i x y) (its_slot shape type i x y) (its_candidate shape type i x y)
          (place_with shape type i x y)

      -- a line of its precinct that is row y of its band
      pub record OnLineFrom (slot j : ℕ) : Type 0 where
        pub which : slot < slots shape
        pub candidate : j < candidates shape slot
        pub present : (line setting precinct_from slot j).present ≡ true
        pub band : (line setting precinct_from slot j).band ≡ band shape type i
        pub row : (line setting precinct_from slot j).y ≡ y

      -- the whole number c, 'of size below 2^max(M, T)', is one 'that the standard's forward quantiser turns into' the index stored
      pub record QuantisedAt (c : ℤ) : Type 0 where
        pub small : nat_abs c < 2 ^ max planes_from truncation_from
        pub gives : index_of setting.uniform planes_from truncation_from c ≡ stored_from

    -- Annex D: c'[p,λ,b,ξ], what the inverse quantiser that Qpih selects makes of each index
    abbrev pub dequantised_from : Coefficients
    dequantised_from i k dx dy x y =
        coefficient_of setting.uniform (planes_from i k dx dy x y) (truncation_from i k dx dy x y) (stored_from i k dx dy x y)

    -- such numbers wherever a coefficient counts
    abbrev pub QuantisedWhere : (ℕ → Kind → ℕ → ℕ → ℕ → ℕ → Type 0) → Coefficients → Type 0
    QuantisedWhere Counts C = Each (λ i k dx dy x y. Counts i k dx dy x y → QuantisedAt i k dx dy x y (C i k dx dy x y))

  -- ---- what `read` takes: every slice from where the one before it ends

  abbrev pub plain_states : ℕ → State
  plain_states = before_slice s setting beginning

  module _ (i : ℕ) (k : Kind) (dx dy x y : ℕ) where
    -- T[p,b]
    abbrev pub truncation_of : ℕ
    truncation_of = truncation_from plain_states i k dx dy x y

    -- M[p,λ,b,g]
    abbrev pub planes_of : ℕ
    planes_of = planes_from plain_states i k dx dy x y

    -- the index
    abbrev pub stored_at : ℤ
    stored_at = stored_from plain_states i k dx dy x y

  -- c'[p,λ,b,ξ]
  abbrev pub dequantised : Coefficients
  dequantised = dequantised_from plain_states

  -- demand 3's coefficients: 'any whole-number coefficients, each of size below 2^max(M, T), that the standard's forward quantiser turns into the indices
  -- stored'
  abbrev pub Quantised : Coefficients → Type 0
  Quantised C = Each (λ i k dx dy x y. QuantisedAt plain_states i k dx dy x y (C i k dx dy x y))
