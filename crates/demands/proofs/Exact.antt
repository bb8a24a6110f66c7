-- Demand 3's last part holds of every page that is read: if every T is 0 then every distance is 0, and the sample that is read is the sample of the
-- coefficients. Assumes nothing.
use mathlib.Core.Path.{◌≡◌, ap, ◌∙◌}
use mathlib.Core.List.{List}
use Prim.Native.Nat.{ℕ}
use native.Mathlib.Omega.{arith}
use lib.IntN.{ℤ}
use lib.ListN.{get_or}
use Rattle.rows.specs.Rows.{Fine}
use Rattle.slices.proofs.Largest.{tops_most}
use Rattle.distances.proofs.Rules.{distances_exact}
use Rattle.reader.specs.declared.page.Page.{Page}
use Rattle.reader.specs.Settings.{depth_of}
use Rattle.reader.specs.Decoding.{distances_from, decoded, decoded_verdict, tops}
use Rattle.reader.specs.Page.{header_of, Reads}
use Rattle.reader.specs.Steps.{Opened}
use Rattle.reader.proofs.Decoded.{none_yet}
use Rattle.demands.specs.Stored.{shape, setting, beginning}
use Rattle.demands.specs.Uncut.{Uncut}
use Rattle.demands.specs.Demands.{Exact}
use Rattle.demands.proofs.Accepted.{PageRead, page_read}
use Rattle.demands.proofs.Three.{demand_three}

-- the largest T of each band is 0 then
tops_none : (s : List ℕ) → decoded_verdict s (header_of s) ≡ Fine → Uncut s → (b : ℕ) → get_or (tops s (header_of s)) b 0 ≡ 0
unfolding decoded
tops_none s fine uncut b =
    let most =
    tops_most s (setting s) b 0 (beginning s) fine (λ t l n k below held. omega (arith, uncut t l n k b below held)) (omega (arith, none_yet b)) in
    omega (arith, most)

-- and so is every distance
pub distances_none : {s : List ℕ} → Opened s (header_of s) → (tops : List ℕ) → ((b : ℕ) → get_or tops b 0 ≡ 0) → (i : ℕ) → get_or (distances_from (header_of s) tops) i 0 ≡ 0
unfolding distances_from
distances_none {s} o tops none i =
    let h = header_of s in
    distances_exact (shape s) h.picture.fq tops o.shape none h.picture.cpih h.picture.bw (depth_of h) i

-- so are those of the record
pub record_exact : {s a' : List ℕ} {r : Page} → PageRead s a' r → Uncut s → (i : ℕ) → get_or r.distance i 0 ≡ 0
record_exact {s} page uncut i =
    ap (λ (l : List ℕ). get_or l i 0) page.distances ∙ distances_none page.opened (tops s (header_of s)) (tops_none s page.fine uncut) i

-- ---- the page is exact

-- so where no plane was cut off, the page is that of the coefficients before quantisation
pub exact : {s a a' : List ℕ} {w w' : List ℤ} {r : Page} → Reads s a w r a' w' → r.answer ≡ 0 → Uncut s → Exact s a' r
exact read accepted uncut =
    let none = record_exact (page_read read accepted) uncut in
    record {
      distance = none;
      sample = λ C q i x y p. let near = (demand_three read accepted).near C q i x y p in omega (arith, none i, near.over, near.under);
    }
