-- Byte locality of precincts and slices: what is accepted depends on its own bytes alone, and the walk on slice headers and precinct lengths. Assumes nothing.
use Rattle.std.specs.Prelude.{Ok, Err}
use Prim.Native.Nat.{ℕ, ◌+◌, ◌-◌, ◌*◌, ◌/◌, ◌%◌, ◌^◌, ◌≤◌, ◌<◌}
use mathlib.Core.Path.{◌≡◌, refl, sym, ap, ◌∙◌}
use mathlib.Core.Bool.{Bool, true, false, cond}
use mathlib.Core.List.{List, [], ◌∷◌, ◌++◌}
use native.Mathlib.Numerals.{add-one}
use native.Mathlib.Omega.{arith}
use lib.IntN.{ℤ}
use lib.ListN.{set}
use Rattle.loops.specs.Run.{Turn, go, stop, run}
use Rattle.loops.specs.Before.{before}
use Rattle.loops.proofs.Laws.{Going, begins, goes_on, stops, ends, Kept, run_carries, run_keeps}
use Rattle.loops.proofs.Follows.{run_follows, go_same, go_stop}
use Rattle.rows.specs.Rows.{check, ample, first, Fine, Verdict}
use Rattle.rows.specs.declared.Row.TheVariants.{Cut, Value, Length, Mode}
use Rattle.rows.specs.declared.Field.TheVariants.{Lprc, Precinct as PrecinctField, Q, R, D as ModeField, Rest, Lslh, Ysl}
use Rattle.rows.proofs.Tables.{each_alike}
use Rattle.bits.specs.Alike.{Alike}
use Rattle.bits.proofs.Alike.{alike_part, field_alike}
use Rattle.picture.specs.Segment.{length_checks}
use Rattle.picture.specs.declared.segment.Segment.{Segment}
use Rattle.layout.specs.Bands.{NL, band_exists}
use Rattle.layout.specs.Headers.{mode_bit, header_bytes_of, most_refinement}
use Rattle.layout.specs.Precincts.{Npx, Npy, Np, slices}
use Rattle.layout.specs.Slots.{slots, candidates}
use Rattle.packets.specs.declared.Setting.{Setting}
use Rattle.packets.specs.declared.Precinct.{Precinct}
use Rattle.packets.specs.Precincts.{D}
use Rattle.packets.specs.Ready.{Settled, Slotted}
use Rattle.packets.specs.Packets.{any_line, head, past, packet}
use Rattle.packets.proofs.Laws.{packet_inside}
use Rattle.slices.specs.Precinct.{precinct_at, mode_checks, header_checks, Packing, packed, packet_turn, rest_checks, body, no_flags, packets, packets_by, precinct, raised}
use Rattle.slices.specs.Slice.{State, Left, slice_length, slice_header_bytes, row_of, column_in, is_top, slice_marker, slice_checks, placed, precinct_turn, precincts, precincts_by, slice}
use Rattle.slices.specs.Walk.{stepped, walk_turn, walk_precincts, walk_by, walk_slice, precinct_place}
use Rattle.slices.proofs.PrecinctLaws.{clash}
use Rattle.slices.proofs.SliceLaws.{row_inside, column_inside}
use Rattle.slices.proofs.Reaching.{packet_stops, precinct_stops}
use Rattle.packets.proofs.Alike.{WholeHeader, D_alike, accepted_alike}

-- ---- a precinct

-- whose bytes are alike, from its header on up to its declared end
module _ {s s' : List ℕ} (c : Setting) (settled : Settled c) (whole : WholeHeader c) (row column at : ℕ) (r : row < Npy c.shape) (k : column < Npx c.shape)
    (alike : Alike s s' at (precinct_at s c row column at).end) where
  pub precinct_at_alike : precinct_at s' c row column at ≡ precinct_at s c row column at
  precinct_at_alike = λ i. record {
    row = row;
    column = column;
    at = at;
    end = at + header_bytes_of c.shape + field_alike alike (8 * at) 24 (omega arith) (omega arith) i;
    q = field_alike alike (8 * (at + 3)) 8 (omega arith) (omega arith) i;
    r = field_alike alike (8 * (at + 4)) 8 (omega arith) (omega arith) i;
  }

  mode_checks_alike : (top : Bool) (b : ℕ) → b < NL c.shape → mode_checks s' c row column at top b ≡ mode_checks s c row column at top b
  mode_checks_alike top b l = by (band_exists c.shape b) refl
    where
      by : (e : Bool) → band_exists c.shape b ≡ e → mode_checks s' c row column at top b ≡ mode_checks s c row column at top b
      by true e =
          let d : D s' c (precinct_at s' c row column at) b ≡ D s c (precinct_at s c row column at) b =
          (λ i. D s' c (precinct_at_alike i) b) ∙ D_alike s s' c (precinct_at s c row column at) (alike_part at (at + header_bytes_of c.shape) alike (omega arith) (omega arith)) b l e in
          λ i. cond (band_exists c.shape b) (check Mode (at + mode_bit c.shape b / 8) ModeField (d i % 2) 0 (cond top 0 1) ∷ []) []
      by false e = rw e

  header_checks_alike : (top : Bool) → header_checks s' c row column at top ≡ header_checks s c row column at top
  header_checks_alike top = λ i.
      (check Cut at Lprc (alike.long i - at) 3 ample
      ∷ check Value at Lprc (field_alike alike (8 * at) 24 (omega arith) (omega arith) i) 1 (2 ^ 20 - 1)
      ∷ check Length at PrecinctField (header_bytes_of c.shape + field_alike alike (8 * at) 24 (omega arith) (omega arith) i) 0 (alike.long i - at)
      ∷ check Value (at + 3) Q (precinct_at_alike i).q 0 31
      ∷ check Value (at + 4) R (precinct_at_alike i).r 0 (most_refinement c.shape)
      ∷ [])
      ++ each_alike (NL c.shape) (mode_checks s' c row column at top) (mode_checks s c row column at top) (mode_checks_alike top) i

  -- a slot, from a place in the precinct on
  abbrev Within : ℕ → Type 0
  Within place = (at ≤ place) × (place ≤ (precinct_at s c row column at).end)

  packet_turn_follows : (g : ℕ) (x y : Packing s c row column at) → g < slots c.shape → Within x.0 → packet_turn s c row column at g x ≡ go y
      → (packet_turn s' c row column at g x ≡ go y) × Within y.0
  unfolding packet_turn
  packet_turn_follows g x y l h e =
      let z = by (any_line c p g (candidates c.shape g)) e in (
        (λ i. cond (any_line c (precinct_at_alike i) g (candidates c.shape g)) (packed s' c row column at g x.0 x.1 (packet s' c (precinct_at s' c row column at) g x.0 x.1 x.2)) (go x)) ∙ z.0,
        z.1,
      )
    where
      p : Precinct
      p = precinct_at s c row column at

      pick : (q : Verdict × List ℤ) → packet s c p g x.0 x.1 x.2 ≡ q → packed s c row column at g x.0 x.1 q ≡ go y
          → (packed s' c row column at g x.0 x.1 (packet s' c (precinct_at s' c row column at) g x.0 x.1 x.2) ≡ go y) × Within y.0
      pick (Ok _, cells) f e =
          let slotted : Slotted c p g = record { settled = settled; row = r; column = k; which = l } in
          let own = accepted_alike c p g slotted whole alike (omega arith) x.0 h.0 h.1 x.1 x.2 (λ i. (f i).0) in
          let same : packet s' c (precinct_at s' c row column at) g x.0 x.1 x.2 ≡ (Fine, cells) = (λ i. packet s' c (precinct_at_alike i) g x.0 x.1 x.2) ∙ own.left ∙ f in
          let go_on : ℕ → ℕ → Turn (Packing s c row column at) (Verdict × List ℤ) = λ a d. go (a, set x.1 g d, cells) in
          let next = ap (λ (z : Packing s c row column at). z.0) (go_same e) in (
            (λ i. packed s' c row column at g x.0 x.1 (same i))
                ∙ (λ i. go_on (past s' c (precinct_at_alike i) g x.0) (head s' c (precinct_at_alike i) g x.0).dr)
                ∙ (λ i. go_on (own.past i) (own.dr i))
                ∙ e,
            (omega (arith, h, next), omega (arith, packet_inside s c p g x.0 x.1 x.2 h.1 (λ i. (f i).0), next)),
          )
      pick (Err v, cells) f e = go_stop (sym e)

      by : (any : Bool) → cond any (packed s c row column at g x.0 x.1 (packet s c p g x.0 x.1 x.2)) (go x) ≡ go y
          → (cond any (packed s' c row column at g x.0 x.1 (packet s' c (precinct_at s' c row column at) g x.0 x.1 x.2)) (go x) ≡ go y) × Within y.0
      by true e = pick (packet s c p g x.0 x.1 x.2) refl e
      by false e =
          let next = ap (λ (z : Packing s c row column at). z.0) (go_same e) in
          (e, (omega (arith, h.0, next), omega (arith, h.1, next)))

  packets_alike : (cells cells' : List ℤ) → packets s c row column at cells ≡ (Fine, cells') → packets s' c row column at cells ≡ (Fine, cells')
  unfolding packets
  packets_alike cells cells' e =
      run_follows (λ (x : Packing s c row column at). Within x.0) (Fine, cells') (packet_turn s c row column at) (packet_turn s' c row column at)
      (λ x. (first (rest_checks s c row column at x.0), x.2)) (λ x. (first (rest_checks s' c row column at x.0), x.2)) (slots c.shape)
      (λ x h f. (λ i. (first (check Length at Rest ((precinct_at_alike i).end - x.0) 0 0 ∷ []), x.2)) ∙ f)
      (λ g x l h f. absurd (packet_stops s c row column at g x (Fine, cells') f refl))
      (λ g left x y l h f rest. packet_turn_follows g x y (omega arith) h f)
      (slots c.shape) 0 (body s c row column at, no_flags s c row column at, cells) (omega arith) (omega arith, omega arith) e

  pub precinct_alike : (top : Bool) (cells cells' : List ℤ) → precinct s c row column at top cells ≡ (Fine, cells') → precinct s' c row column at top cells ≡ (Fine, cells')
  unfolding precinct
  precinct_alike top cells cells' e = (λ i. packets_by s' c row column at (first (header_checks_alike top i)) cells) ∙ by (first (header_checks s c row column at top)) e
    where
      by : (v : Verdict) → packets_by s c row column at v cells ≡ (Fine, cells') → packets_by s' c row column at v cells ≡ (Fine, cells')
      by (Ok _) e = packets_alike cells cells' e
      by (Err v) e = clash (λ i. (e i).0)

-- ---- a slice

-- A.4.14: its header
pub slice_checks_alike : {s s' : List ℕ} {at : ℕ} → Alike s s' at (at + slice_header_bytes) → (t : ℕ) → slice_checks s' t at ≡ slice_checks s t at
slice_checks_alike {at = at} alike t = λ i.
    let g : Segment = record { at = at; left = alike.long i - at; marker = field_alike alike (8 * at) 16 (omega arith) (omega arith) i; rest = alike.long i - (at + 2); size = field_alike alike (8 * (at + 2)) 16 (omega arith) (omega arith) i } in
    slice_marker g ++ (length_checks g Lslh slice_length slice_length ++ (check Value (at + 4) Ysl (field_alike alike (8 * (at + 4)) 16 (omega arith) (omega arith) i) t t ∷ []))

-- the precincts of a slice end where they began, or behind
module _ (s : List ℕ) (c : Setting) (t : ℕ) where
  turn_onward : (a n : ℕ) (x : State) → a ≤ x.0 → Kept (λ (y : State). a ≤ y.0) (λ (q : Left). q.0 ≡ Fine → a ≤ q.1.0) (precinct_turn s c t n x)
  unfolding precinct_turn
  turn_onward a n x h = by (precinct s c (row_of s c t n) (column_in s c t n) x.0 (is_top s c t n) x.2)
    where
      by : (q : Verdict × List ℤ) → Kept (λ (y : State). a ≤ y.0) (λ (q : Left). q.0 ≡ Fine → a ≤ q.1.0) (placed s c t n x q)
      by (Ok _, cells) = omega arith
      by (Err k, cells) = λ e. clash e

  pub run_onward : (left g : ℕ) (x y : State) → run (precinct_turn s c t) (λ y. (Fine, y)) left g x ≡ (Fine, y) → x.0 ≤ y.0
  run_onward left g x y e =
      let h =
      run_keeps (λ (z : State). x.0 ≤ z.0) (λ (q : Left). q.0 ≡ Fine → x.0 ≤ q.1.0) (precinct_turn s c t) (λ y. (Fine, y)) (g + left) (λ z p f. p)
      (λ n z l p. turn_onward x.0 n z p) left g x (omega arith) (omega arith) in
      omega (arith, h (λ i. (e i).0), ap (λ (q : Left). q.1.0) e)

  pub precincts_onward : (x y : State) → precincts s c t x ≡ (Fine, y) → x.0 ≤ y.0
  unfolding precincts
  precincts_onward x y e = run_onward (Np c.shape t) 0 x y e

module _ {s s' : List ℕ} (c : Setting) (settled : Settled c) (whole : WholeHeader c) (t : ℕ) (h : t < slices c.shape) where
  turn_follows : (n : ℕ) → n < Np c.shape t → (x y : State) → precinct_turn s c t n x ≡ go y → Alike s s' x.0 y.0 → precinct_turn s' c t n x ≡ go y
  unfolding precinct_turn
  turn_follows n l x y e alike = pick (precinct s c (row_of s c t n) (column_in s c t n) x.0 (is_top s c t n) x.2) refl e
    where
      pick : (q : Verdict × List ℤ) → precinct s c (row_of s c t n) (column_in s c t n) x.0 (is_top s c t n) x.2 ≡ q → placed s c t n x q ≡ go y
          → placed s' c t n x (precinct s' c (row_of s' c t n) (column_in s' c t n) x.0 (is_top s' c t n) x.2) ≡ go y
      pick (Ok _, cells) f e =
          let row = row_of s c t n in
          let column = column_in s c t n in
          let r = (row_inside c.shape settled.shape t h n l).0 in
          let k = column_inside c.shape settled.shape t h n l in
          let own : Alike s s' x.0 (precinct_at s c row column x.0).end = alike_part x.0 (precinct_at s c row column x.0).end alike (omega arith) (omega (arith, ap (λ (z : State). z.0) (go_same e))) in
          (λ i. placed s' c t n x (precinct_alike c settled whole row column x.0 r k own (is_top s c t n) x.2 cells f i))
          ∙ (λ i. let p = precinct_at_alike c settled whole row column x.0 r k own i in go (p.end, raised c p (NL c.shape) x.1, cells))
          ∙ e
      pick (Err v, cells) f e = go_stop (sym e)

  -- the precincts of a slice, whose first stands at the state's place
  pub precincts_alike : (x y : State) → precincts s c t x ≡ (Fine, y) → Alike s s' x.0 y.0 → precincts s' c t x ≡ (Fine, y)
  unfolding precincts
  precincts_alike x y e alike =
      run_follows (λ (z : State). Alike s s' z.0 y.0) (Fine, y) (precinct_turn s c t) (precinct_turn s' c t) (λ z. (Fine, z)) (λ z. (Fine, z)) (Np c.shape t)
      (λ z a f. f)
      (λ n z l a f. absurd (precinct_stops s c t n z (Fine, y) f refl))
      (λ n left z w l a f rest.
      let on = run_onward s c t left (n + 1) w y rest in
      let up : z.0 ≤ w.0 = turn_up n z w f in
      (turn_follows n (omega arith) z w f (alike_part z.0 w.0 a (omega arith) on), alike_part w.0 y.0 a up (omega arith)))
      (Np c.shape t) 0 x (omega arith) alike e
    where
      turn_up : (n : ℕ) (z w : State) → precinct_turn s c t n z ≡ go w → z.0 ≤ w.0
      turn_up n z w f = let k = turn_onward s c t z.0 n z (omega arith) in (rw f at k)

  -- a slice, whose header stands at the state's place
  pub slice_alike : (x y : State) → slice s c t x ≡ (Fine, y) → Alike s s' x.0 y.0 → slice s' c t x ≡ (Fine, y)
  unfolding slice
  slice_alike x y e alike = by _ refl e
    where
      by : (v : Verdict) → first (slice_checks s t x.0) ≡ v → precincts_by s c t v x ≡ (Fine, y) → precincts_by s' c t (first (slice_checks s' t x.0)) x ≡ (Fine, y)
      by (Ok _) f e =
          let z : State = (x.0 + slice_header_bytes, x.1, x.2) in
          let on = precincts_onward s c t z y e in
          let header = alike_part x.0 (x.0 + slice_header_bytes) alike (omega arith) on in
          (λ i. precincts_by s' c t (first (slice_checks_alike header t i)) x) ∙ (λ i. precincts_by s' c t (f i) x)
          ∙ precincts_alike z y e (alike_part z.0 y.0 alike (omega arith) (omega arith))
      by (Err v) f e = clash (λ i. (e i).0)

-- ---- the walk by declared lengths

-- a loop, and another whose turns are the same at the states that the first comes to
module _ {S R : Type 0} (turn turn' : ℕ → S → Turn S R) (end : S → R) (n : ℕ) (x : S)
    (same : (g : ℕ) → g < n → turn' g (before turn x g) ≡ turn g (before turn x g)) where
  abbrev Alongside : ℕ → S → Type 0
  Alongside g y = (before turn x g ≡ y) × Going turn' end n x g y

  turn_alongside : (g : ℕ) (y : S) → g < n → Alongside g y → (u : Turn S R) → turn g y ≡ u → Kept (Alongside (g + 1)) (λ r. run turn' end n 0 x ≡ r) u
  unfolding before
  turn_alongside g y l q (go z) e =
      (rw (add-one g, q.0, e), goes_on q.1 l ((rw q.0 at (same g l)) ∙ e))
  turn_alongside g y l q (stop r) e = stops q.1 l ((rw q.0 at (same g l)) ∙ e)

  run_alongside : run turn' end n 0 x ≡ run turn end n 0 x
  unfolding before
  run_alongside =
      run_carries Alongside (λ r. run turn' end n 0 x ≡ r) turn end n (λ y q. ends q.1 (omega arith)) (λ g y l q. turn_alongside g y l q (turn g y) refl) n 0 x (omega arith) (refl, begins)

module _ {s s' : List ℕ} (c : Setting) where
  walk_turn_alike : (n at : ℕ) → Alike s s' at (at + 3) → walk_turn s' c n at ≡ walk_turn s c n at
  unfolding walk_turn
  walk_turn_alike n at alike = λ i.
      let lprc = field_alike alike (8 * at) 24 (omega arith) (omega arith) i in
      stepped (first (check Cut at Lprc (alike.long i - at) 3 ample ∷ check Length at PrecinctField (header_bytes_of c.shape + lprc) 0 (alike.long i - at) ∷ [])) at
      (at + header_bytes_of c.shape + lprc)

  -- a slice, where its header and each Lprc that the walk comes to have the same bytes
  pub walk_alike : (t at : ℕ) → Alike s s' at (at + slice_header_bytes)
      → ((n : ℕ) → n < Np c.shape t → Alike s s' (precinct_place s c at n) (precinct_place s c at n + 3)) → walk_slice s' c t at ≡ walk_slice s c t at
  unfolding walk_slice walk_precincts
  walk_alike t at header lengths = (λ i. walk_by s' c (first (slice_checks_alike header t i)) t at) ∙ by (first (slice_checks s t at))
    where
      by : (v : Verdict) → walk_by s' c v t at ≡ walk_by s c v t at
      by (Ok _) =
          run_alongside (walk_turn s c) (walk_turn s' c) (λ y. (Fine, y)) (Np c.shape t) (at + slice_header_bytes)
          (λ n l. walk_turn_alike n (precinct_place s c at n) (lengths n l))
      by (Err k) = refl
