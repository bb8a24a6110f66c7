-- What a reading walks, precinct by precinct: Table B.4's packets, C.3's raw flags, and C.6.1's predictors. Assumes nothing.
use mathlib.Core.Path.{◌≡◌, ap}
use mathlib.Core.Bool.{true, false}
use mathlib.Core.List.{List}
use Prim.Native.Nat.{ℕ, ◌*◌, ◌<◌}
use native.Mathlib.Omega.{arith}
use lib.IntN.{pos}
use lib.ListN.{length-replicate}
use Rattle.rows.specs.Rows.{Fine}
use Rattle.bits.specs.Groups.{Ncg}
use Rattle.layout.specs.Precincts.{Np, slices}
use Rattle.layout.specs.Packets.{packets}
use Rattle.layout.specs.Slots.{slots, candidates, sharing}
use Rattle.packets.specs.Packets.{any_line}
use Rattle.packets.specs.Walked.{walked}
use Rattle.packets.proofs.Walked.{walked_packets}
use Rattle.layout.proofs.Sums.{bands_most}
use Rattle.counts.specs.declared.group.Mode.TheVariants.{Vertical}
use Rattle.packets.proofs.Addresses.{There}
use Rattle.slices.specs.Slice.{Left, row_of, column_in, is_top}
use Rattle.slices.specs.Reached.{before_precinct, before_slice, stream_has, stream_flag}
use Rattle.slices.specs.Predicted.{slice_line, slice_mode, Predicted}
use Rattle.slices.proofs.SliceLaws.{row_inside}
use Rattle.slices.proofs.Reaching.{slice_precinct, stream_slice}
use Rattle.slices.proofs.RawFlags.{raw_flags}
use Rattle.slices.proofs.Predictor.{predictor_is}
use Rattle.reader.specs.Settings.{N}
use Rattle.reader.specs.Decoding.{decoded, decoded_verdict}
use Rattle.reader.specs.Page.{header_of}
use Rattle.reader.specs.Steps.{Opened}
use Rattle.reader.proofs.Openings.{settled}
use Rattle.demands.specs.Stored.{shape, setting, beginning}

-- precinct n of slice t of a page whose header is accepted
module _ {s : List ℕ} (o : Opened s (header_of s)) (t : ℕ) (l : t < slices (shape s)) (n : ℕ) (k : n < Np (shape s) t) where
  -- B.7: the packets walked, with their lines, are Table B.4's
  pub packets_walked : walked (setting s) (stream_has s (setting s) (beginning s) t n) ≡ packets (shape s) (row_of s (setting s) t n)
  packets_walked = walked_packets (setting s) (stream_has s (setting s) (beginning s) t n) o.shape (row_inside (shape s) o.shape t l n k).0

  -- C.3: with Rl = 0 two packets of an accepted page's precinct that have a line of the same band have the same flag
  pub flags_agree : decoded_verdict s (header_of s) ≡ Fine → (setting s).rl ≡ false → (m m' : ℕ) → m < slots (shape s) → m' < m
      → any_line (setting s) (stream_has s (setting s) (beginning s) t n) m (candidates (shape s) m) ≡ true
      → any_line (setting s) (stream_has s (setting s) (beginning s) t n) m' (candidates (shape s) m') ≡ true
      → sharing (shape s) (row_of s (setting s) t n) m m' ≡ true → stream_flag s (setting s) (beginning s) t n m ≡ stream_flag s (setting s) (beginning s) t n m'
  unfolding decoded
  flags_agree fine rl m m' h b any any' shared =
      let c = setting s in
      let z = before_slice s c (beginning s) t in
      let accepted = (slice_precinct s c t z (ap (λ (r : Left). r.0) (stream_slice s c (beginning s) fine t l)) n k).accepted in
      let x = before_precinct s c z t n in
      raw_flags s c o.shape (row_of s c t n) (column_in s c t n) x.0 (is_top s c t n) x.2 accepted rl m m' h b any any' shared

  -- C.6.1, Table C.13: of an accepted page, a code group that is coded with vertical prediction has the M and T of the band's line directly above as predictors
  pub predicted_above : decoded_verdict s (header_of s) ≡ Fine → (m j g : ℕ) → There (shape s) (row_of s (setting s) t n) (column_in s (setting s) t n) m j
      → slice_mode s (setting s) (before_slice s (setting s) (beginning s) t) t n m j ≡ Vertical
      → g < Ncg (slice_line s (setting s) (before_slice s (setting s) (beginning s) t) t n m j).width → Predicted s (setting s) (before_slice s (setting s) (beginning s) t) t n m j g
  unfolding decoded
  predicted_above fine m j g there vertical below =
      predictor_is s (setting s) (settled o) (beginning s) (omega (arith, length-replicate {A = ℕ} 40 0, bands_most (shape s) o.shape))
      (omega (arith, length-replicate (2 * N (header_of s)) (pos 0))) fine t n m j g l k there vertical below
