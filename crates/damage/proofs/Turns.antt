-- What the steps of a slice answer, in either mode. Assumes nothing.
use Rattle.std.specs.Prelude.{Ok, Err}
use Prim.Native.Nat.{ℕ, ◌+◌, ◌-◌, ◌≤◌}
use mathlib.Core.Path.{◌≡◌, refl, sym, ◌∙◌}
use mathlib.Core.Bool.{cond}
use mathlib.Core.List.{List, [], ◌∷◌}
use native.Mathlib.Omega.{arith}
use lib.IntN.{ℤ}
use lib.ListN.{length}
use Rattle.loops.specs.Run.{Turn, go}
use Rattle.rows.specs.declared.Check.{Check}
use Rattle.rows.specs.Rows.{Fine, Refused, Verdict}
use Rattle.pieces.specs.declared.Bytes.{Bytes}
use Rattle.pieces.specs.Pieces.{Piece, Markers, Spoilt, bytes_of, nothing, bytes_by, plus}
use Rattle.pieces.proofs.Laws.{bytes_first, refused_bytes}
use Rattle.packets.specs.declared.Setting.{Setting}
use Rattle.slices.specs.declared.Reading.{Reading}
use Rattle.slices.specs.Slice.{State, Left, slice_header_bytes}
use Rattle.slices.specs.Walk.{walk_slice}
use Rattle.slices.specs.Pieces.{slice_pieces}
use Rattle.slices.specs.Steps.{further, Turned, Read}
use Rattle.slices.proofs.PrecinctLaws.{clash}
use Rattle.slices.proofs.WalkLaws.{slice_ends}
use Rattle.damage.specs.Lost.{lose}
use Rattle.damage.specs.Stream.{refuses, behind_slice, precincts_of, stepped_over}
use Rattle.damage.specs.Pieces.{spoilt_pieces, damaged_pieces}
use Rattle.damage.specs.Steps.{Onward, behind_bytes}
use Rattle.damage.proofs.Pieces.{spoilt_bytes}

pub turned_still : {s : List ℕ} {turn turn' : Turn State Left} {has has' : List Piece} {r : Reading} {cells' : List ℤ} → turn' ≡ turn → has' ≡ has → Turned s turn has r cells'
    → Turned s turn' has' r cells'
turned_still {r = r} e f x = record { is = e ∙ x.is; inside = x.inside; bytes = x.bytes ∙ (λ i. bytes_by r.verdict (bytes_of (sym f i))) }

-- ---- behind the precincts of a slice

module _ (c : Setting) (t from to : ℕ) (tops : List ℕ) (r : Reading) (cells : List ℤ) where
  pub goes_behind : r.verdict ≡ Fine → Onward (behind_slice c t to tops (r.verdict, (r.at, r.tops, cells))) (behind_bytes r.verdict from to r.bytes) r cells
  goes_behind v =
      record { fine = v; is = λ i. behind_slice c t to tops (v i, (r.at, r.tops, cells)); bytes = λ i. behind_bytes (sym v i) from to r.bytes }

  pub loses_behind : {k : Check} {cells' : List ℤ} {b : Bytes} → r.verdict ≡ Refused k → cells' ≡ lose c.shape t cells
      → b ≡ plus (bytes_of ((Markers, slice_header_bytes) ∷ [])) (bytes_of ((Spoilt, to - from) ∷ []))
      → Onward (behind_slice c t to tops (r.verdict, (r.at, r.tops, cells))) (behind_bytes r.verdict from to r.bytes) (record { verdict = Fine; at = to; tops = tops; bytes = b }) cells'
  loses_behind v e h =
      record {
        fine = refl;
        is = (λ i. behind_slice c t to tops (v i, (r.at, r.tops, cells))) ∙ (λ i. (to, tops, sym e i));
        bytes = h ∙ sym (bytes_first (Markers, slice_header_bytes) ((Spoilt, to - from) ∷ [])) ∙ (λ i. behind_bytes (sym v i) from to r.bytes);
      }

-- ---- a slice that is stepped over

module _ (s : List ℕ) (c : Setting) (t : ℕ) (x : State) where
  ends_inside : (to : ℕ) (v : Verdict) (y : State) → to ≤ length s → (v ≡ Fine → y.0 ≤ length s) → (behind_slice c t to x.1 (v, y)).0 ≤ length s
  ends_inside to (Ok _) y h inside = inside refl
  ends_inside to (Err k) y h inside = h

  -- the pieces of a slice that is read, and of one that is spoilt
  behind_has : (to : ℕ) → walk_slice s c t x.0 ≡ (Fine, to) → (left : Left) → precincts_of s c t x ≡ left → {b : Bytes} → b ≡ bytes_by left.0 (bytes_of (slice_pieces s c t x))
      → behind_bytes left.0 (x.0 + slice_header_bytes) to b ≡ bytes_of (damaged_pieces s c t x)
  behind_has to w (Ok _, y) e h = h ∙ (λ i. bytes_of (cond (refuses (sym e i).0) (spoilt_pieces s c t x.0) (slice_pieces s c t x)))
  behind_has to w (Err k, y) e h =
      sym (spoilt_bytes s c t x.0 to w) ∙ (λ i. bytes_of (cond (refuses (sym e i).0) (spoilt_pieces s c t x.0) (slice_pieces s c t x)))

  -- the walk leads to `to`, and the precincts with the slice's header leave r
  pub stepped_on : {v : Verdict} {to : ℕ} {r q : Reading} {cells cells' : List ℤ} → v ≡ Fine → walk_slice s c t x.0 ≡ (v, to)
      → Read s (precincts_of s c t x) (slice_pieces s c t x) r cells
      → Onward (behind_slice c t to x.1 (r.verdict, (r.at, r.tops, cells))) (behind_bytes r.verdict (x.0 + slice_header_bytes) to r.bytes) q cells'
      → Turned s (stepped_over s c t x (v, to)) (damaged_pieces s c t x) q cells'
  stepped_on {v} {to} {r} {q} {cells} {cells'} e w left on =
      let walked = w ∙ (λ i. (e i, to)) in
      record {
        is =
            (λ i. stepped_over s c t x (e i, to))
            ∙ (λ i. go (behind_slice c t to x.1 (left.is i)))
            ∙ (λ i. go (on.is i))
            ∙ (λ i. further (sym on.fine i) (q.at, q.tops, cells'));
        inside = λ _.
            let at : (behind_slice c t to x.1 (r.verdict, (r.at, r.tops, cells))).0 ≡ q.at = λ i. (on.is i).0 in
            omega (arith, ends_inside to r.verdict (r.at, r.tops, cells) (slice_ends s c t x.0 to walked).1 left.inside);
        bytes =
            on.bytes
            ∙ behind_has to walked (r.verdict, (r.at, r.tops, cells)) left.is left.bytes
            ∙ (λ i. bytes_by (sym on.fine i) (bytes_of (damaged_pieces s c t x)));
      }

  -- the walk refuses
  pub stepped_back : {v : Verdict} {k : Check} {r : Reading} (to : ℕ) → v ≡ Refused k → (r.verdict ≡ v) × (r.at ≡ x.0) × (r.tops ≡ x.1) × (r.bytes ≡ nothing)
      → Turned s (stepped_over s c t x (v, to)) (damaged_pieces s c t x) r x.2
  stepped_back {v} to e h =
      record {
        is = (λ i. stepped_over s c t x (e i, to)) ∙ (λ i. further (sym (h.0 ∙ e) i) (sym h.1 i, sym h.2 i, x.2));
        inside = λ f. clash (sym (h.0 ∙ e) ∙ f);
        bytes = h.3 ∙ refused_bytes (bytes_of (damaged_pieces s c t x)) (h.0 ∙ e);
      }
