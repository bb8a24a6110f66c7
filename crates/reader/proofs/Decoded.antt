-- What the slices leave behind an accepted header, in either mode. Assumes nothing.
use Rattle.std.specs.Prelude.{Ok, Err}
use mathlib.Core.Path.{◌≡◌, refl, sym, ap, ◌∙◌, subst}
use mathlib.Core.Bool.{Bool, true, false, cond}
use mathlib.Core.List.{List, [], ◌∷◌, ◌++◌}
use Prim.Native.Nat.{ℕ, ◌+◌, ◌*◌, ◌^◌, ◌≤◌, ◌<◌}
use native.Mathlib.Omega.{arith}
use lib.IntN.{ℤ, pos}
use lib.ListN.{length, get_or, replicate, length-replicate, get_or-replicate}
use lib.Pow.{pow_mono}
use Rattle.whole.specs.Cells.{cell, Bounded}
use Rattle.whole.proofs.Lists.{replicated}
use Rattle.rows.specs.Rows.{Verdict}
use Rattle.pieces.specs.declared.Bytes.{Bytes}
use Rattle.pieces.specs.Pieces.{Markers, bytes_of, bytes_by, plus, all}
use Rattle.pieces.proofs.Laws.{bytes_append, piece_once}
use Rattle.header.specs.Pieces.{header_pieces}
use Rattle.header.specs.declared.header.Header.{Header}
use Rattle.shapes.specs.Shapes.{shape_of}
use Rattle.layout.specs.declared.Shape.{Shape}
use Rattle.layout.specs.Bands.{Wc}
use Rattle.layout.specs.Cells.{start}
use Rattle.layout.proofs.Cells.{starts_up}
use Rattle.packets.specs.declared.Setting.{Setting}
use Rattle.packets.specs.Ready.{Settled}
use Rattle.slices.specs.Slice.{State, Left}
use Rattle.slices.specs.Stream.{stream}
use Rattle.slices.specs.Steps.{Lent}
use Rattle.slices.proofs.Laws.{Few, stream_length, stream_bounded, stream_few}
use Rattle.slices.specs.declared.Reading.{Reading}
use Rattle.damage.specs.Stream.{stream_by}
use Rattle.damage.specs.Pieces.{stream_pieces_by}
use Rattle.damage.specs.Steps.{Streamed}
use Rattle.damage.proofs.Pieces.{stream_few as bytes_in_stream}
use Rattle.damage.proofs.Laws.{damaged_length, damaged_bounded, damaged_few}
use Rattle.planes.specs.Places.{coefficients_in, Inside}
use Rattle.planes.proofs.Stretches.{offset_below}
use Rattle.reader.specs.declared.page.Page.{Page}
use Rattle.reader.specs.Settings.{setting_of, N}
use Rattle.reader.specs.Decoding.{handed, distances_from, begun}
use Rattle.reader.specs.Page.{page_read, page_by}
use Rattle.reader.specs.Modes.{decoded_by, tops_in, pieces_in, lost_marks}
use Rattle.reader.specs.Places.{distance_plane}
use Rattle.reader.specs.Steps.{Opened, Decoded, IsSetting, Sliced, Markable, PlaceableBy, filled_by, Shows, marks_from, MarkedIn, PlacedIn, DecodesBy}
use Rattle.reader.proofs.Lost.{marks_told}
use Rattle.reader.proofs.Openings.{fq_few, settled}

-- a value stands before the end of the last component
value_inside : (s : Shape) (i x y : ℕ) → Inside s i x y → start s i + (y * Wc s i + x) < start s s.nc
value_inside s i x y at = omega (arith, offset_below s i x y at.column at.row, starts_up s i s.nc at.component)

-- ---- cells that are 0

cleared : (n : ℕ) → Bounded (2 ^ 40) (replicate n (pos 0))
cleared n = record { most = λ j l. rw (get_or-replicate n j (pos 0) (pos 0) (omega (arith, l, length-replicate n (pos 0)))) (omega arith) }

-- no band has a T yet
pub none_yet : (b : ℕ) → ◌≡◌ {A = ℕ} (get_or (replicate 40 0) b 0) 0
none_yet b = replicated 40 b 0

-- ---- the slices of a page

-- the laws of both modes
module _ (s : List ℕ) (c : Setting) (settled : Settled c) (x : State) where
  stream_long : (damaged : Bool) → length (stream_by s c damaged x).1.2 ≡ length x.2
  unfolding stream_by stream
  stream_long false = stream_length s c settled x
  stream_long true = damaged_length s c settled x

  stream_small : (damaged : Bool) {B : ℕ} → 2 ^ (31 + c.fq) ≤ B → Bounded B x.2 → Bounded B (stream_by s c damaged x).1.2
  unfolding stream_by stream
  stream_small false most = stream_bounded s c settled most x
  stream_small true most = damaged_bounded s c settled most x

  tops_few : (damaged : Bool) → Few x.1 → Few (stream_by s c damaged x).1.1
  unfolding stream_by stream
  tops_few false = stream_few s c settled x
  tops_few true = damaged_few s c settled x

module _ {s : List ℕ} {h : Header} (o : Opened s h) where
  pub lent : {c : Setting} → IsSetting h c → {n : ℕ} → n ≡ 2 * N h → Lent s c h.slice n
  lent e room =
      record { settled = e.settled; short = o.accepted.short; inside = omega (arith, o.accepted.slice); room = rw e.is (omega arith) }

  module _ (damaged : Bool) where
    pub decoded_long : length (decoded_by s h damaged).1.2 ≡ 2 * N h
    unfolding decoded_by
    decoded_long = stream_long s (setting_of h) (settled o) (begun h) damaged ∙ length-replicate (2 * N h) (pos 0)

    decoded_small : Bounded (2 ^ 40) (decoded_by s h damaged).1.2
    unfolding decoded_by
    decoded_small =
        let few : h.picture.fq ≤ 8 = fq_few o.accepted.ranges in
        stream_small s (setting_of h) (settled o) (begun h) damaged (pow_mono {i = 31 + h.picture.fq} {j = 40} (omega arith)) (cleared (2 * N h))

    pub decoded_few : Few (tops_in s h damaged)
    unfolding decoded_by
    decoded_few = tops_few s (setting_of h) (settled o) (begun h) damaged (λ b. omega (arith, none_yet b))

    pub decoded_is : (a : ℕ) → a ≡ N h → Decoded h a (tops_in s h damaged) (decoded_by s h damaged).1.2
    decoded_is a room =
        record {
          ranges = o.accepted.ranges;
          room = room;
          ready =
              record {
                built = o.shape;
                room = omega (arith, decoded_long);
                small = λ i x y at. decoded_small.most _ (omega (arith, decoded_long, value_inside (shape_of h) i x y at));
              };
          few = decoded_few;
        }

-- ---- what `decode_slices` leaves

pub sliced : (s : List ℕ) (h : Header) (damaged : Bool) {c : Setting} {w w' : List ℤ} {n : ℕ} {r : Reading} → c ≡ setting_of h → w ≡ replicate n (pos 0) → n ≡ 2 * N h
    → Streamed (stream_by s c damaged (h.slice, replicate 40 0, w)) (stream_pieces_by s c damaged (h.slice, replicate 40 0, w)) r w' → Sliced damaged s h r w'
unfolding decoded_by
sliced s h damaged {w = w} {r = r} e f g st =
    let begins : (h.slice, replicate 40 0, w) ≡ begun h = λ i. (h.slice, replicate 40 0, (f ∙ ap (λ (m : ℕ). replicate m (pos 0)) g) i) in
    record {
      is = (λ i. stream_by s (sym e i) damaged (sym begins i)) ∙ st.is;
      bytes = st.bytes ∙ (λ i. bytes_by r.verdict (bytes_of (stream_pieces_by s (e i) damaged (begins i))));
    }

-- ---- what `decode` leaves

-- where the bytes of the page went: those of its header and of its slices
module _ {s : List ℕ} {h : Header} (o : Opened s h) (damaged : Bool) {cells : List ℤ} {r : Reading} (st : Sliced damaged s h r cells) where
  -- they are few
  pub bytes_few : all (bytes_of ((Markers, h.slice) ∷ [])) + all r.bytes < 2 ^ 64
  unfolding decoded_by
  bytes_few =
      omega (arith, piece_once Markers h.slice, o.accepted.slice, o.accepted.short, bytes_in_stream s (setting_of h) damaged (begun h) st o.accepted.short)

  pub bytes_are : {b : Bytes} → b ≡ plus (bytes_of ((Markers, h.slice) ∷ [])) r.bytes → bytes_by r.verdict b ≡ bytes_by r.verdict (bytes_of (pieces_in s h damaged))
  unfolding pieces_in
  bytes_are {b} k = by r.verdict st.bytes
    where
      by : (v : Verdict) → r.bytes ≡ bytes_by v (bytes_of (stream_pieces_by s (setting_of h) damaged (begun h)))
          → bytes_by v b ≡ bytes_by v (bytes_of (header_pieces s ++ stream_pieces_by s (setting_of h) damaged (begun h)))
      by (Ok _) q =
          k
          ∙ (λ i. plus (sym o.bytes i) (q i))
          ∙ sym (bytes_append (header_pieces s) (stream_pieces_by s (setting_of h) damaged (begun h)))
      by (Err x) q = refl

module _ {s : List ℕ} {h : Header} (o : Opened s h) (damaged : Bool) {v : Verdict} {at : ℕ} {t : List ℕ} {w' : List ℤ} (p : decoded_by s h damaged ≡ (v, (at, t, w'))) where
  pub shown_of : (a : ℕ) → a ≡ N h → Decoded h a t w'
  shown_of a room = subst (λ (z : Left). Decoded h a z.1.1 z.1.2) p (decoded_is o damaged a room)

  pub left_long : length w' ≡ 2 * N h
  left_long = ap (λ (z : Left). length z.1.2) (sym p) ∙ decoded_long o damaged

  pub marked_of : {b : Bytes} {r : Page} {a a' : List ℕ} {w'' : List ℤ} → Shows v h t b a w' r a' w'' → Markable h (N h) w''
  marked_of q = record { ranges = o.accepted.ranges; built = o.shape; enough = omega (arith, q.same, left_long); room = refl }

  -- the marks that the count cells give are those of the lost coefficients
  module _ {b : Bytes} {r : Page} {a a' : List ℕ} {w'' : List ℤ} (q : Shows v h t b a w' r a' w'') (m : List ℕ) where
    marks_right : filled_by v (cond damaged (marks_from h w'') []) m ≡ filled_by v (cond damaged (lost_marks s h) []) m
    marks_right = by v damaged p q
      where
        by : (v : Verdict) (damaged : Bool) → decoded_by s h damaged ≡ (v, (at, t, w')) → Shows v h t b a w' r a' w''
            → filled_by v (cond damaged (marks_from h w'') []) m ≡ filled_by v (cond damaged (lost_marks s h) []) m
        by (Err k) damaged p q = refl
        by (Ok _) false p q = refl
        by (Ok _) true p q = marks_told o (λ i. (p i).0) w'' (λ n far. q.other n far ∙ (λ i. cell (sym p i).1.2 n))

    -- the totals count where the page is read
    page_bytes : (v : Verdict) (b' : Bytes) → bytes_by v b ≡ bytes_by v b' → page_by v h (distances_from h t) b ≡ page_by v h (distances_from h t) b'
    page_bytes (Ok _) b' e = ap (page_read h (distances_from h t)) e
    page_bytes (Err k) b' e = refl

    -- where the marks are made
    module _ (placed : Bool) {w''' : List ℤ} {m' : List ℕ} (k : MarkedIn v damaged h w'' w''' m m') where
      pub placed_of : (n : ℕ) → n ≡ cond placed (N h) 0 → PlaceableBy v damaged placed s h (length w''') m' n
      placed_of n room =
          record {
            opened = o;
            verdict = λ i. (sym p i).0;
            enough = k.same ∙ q.same ∙ left_long;
            marks = λ fine. k.marks ∙ marks_right ∙ (λ i. filled_by (fine i) (cond damaged (lost_marks s h) []) m);
            room = room;
          }

      pub decodes : {w w'''' w⁵ : List ℤ} {d d' : List ℕ} → bytes_by v b ≡ bytes_by v (bytes_of (pieces_in s h damaged)) → length w ≡ 2 * N h → PlacedIn v damaged placed s h w''' w'''' d d' → w⁵ ≡ replicate (length w'''') (pos 0)
          → DecodesBy damaged placed s h a w m d r a' w⁵ m' d'
      decodes {d = d} same l t e =
          record {
            beside =
                record {
                  page = q.page ∙ page_bytes v (bytes_of (pieces_in s h damaged)) same ∙ (λ i. page_by (sym p i).0 h (distances_from h (sym p i).1.1) (bytes_of (pieces_in s h damaged)));
                  samples = q.samples ∙ (λ i. filled_by (sym p i).0 (handed h (coefficients_in (shape_of h) (sym p i).1.2)) a);
                  work = e ∙ ap (λ (n : ℕ). replicate n (pos 0)) (t.same ∙ k.same ∙ q.same ∙ left_long ∙ sym l);
                  marks = k.marks ∙ marks_right ∙ (λ i. filled_by (sym p i).0 (cond damaged (lost_marks s h) []) m);
                };
            distances = t.distances ∙ (λ i. filled_by (sym p i).0 (cond placed (distance_plane s h damaged) []) d);
          }
