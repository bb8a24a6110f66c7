-- The walk by declared lengths: its steps, its table, and that a reading walks. Assumes nothing.
use Rattle.std.specs.Prelude.{Ok, Err}
use Prim.Native.Nat.{ℕ, zero, suc, ◌+◌, ◌-◌, ◌≤◌}
use mathlib.Core.Path.{◌≡◌, refl, sym, ◌∙◌}
use mathlib.Core.Bool.{Bool}
use mathlib.Core.List.{List, [], ◌∷◌}
use native.Mathlib.Omega.{arith}
use lib.IntN.{ℤ}
use lib.ListN.{length}
use Rattle.loops.specs.Run.{Turn, go, stop, then as next, run}
use Rattle.loops.specs.Along.{along}
use Rattle.loops.proofs.Laws.{Kept, run_keeps}
use Rattle.loops.proofs.Along.{run_tells}
use Rattle.rows.specs.Rows.{check, ample, first, each, then, Fine, Refused, Verdict}
use Rattle.rows.specs.declared.Check.{Check}
use Rattle.rows.specs.declared.Row.TheVariants.{Cut, Length}
use Rattle.rows.specs.declared.Field.TheVariants.{Lprc, Precinct as PrecinctField}
use Rattle.rows.proofs.Tables.{joined, fine_passes, append_fine, held}
use Rattle.bits.specs.Fields.{field_at}
use Rattle.layout.specs.Bands.{NL}
use Rattle.layout.specs.Headers.{header_bytes_of}
use Rattle.layout.specs.Precincts.{Np, slices}
use Rattle.packets.specs.declared.Setting.{Setting}
use Rattle.slices.specs.declared.walk.Walked.{Walked}
use Rattle.slices.specs.Precinct.{field_checks, mode_checks, header_checks, packets_by, precinct}
use Rattle.slices.specs.Slice.{State, Left, slice_header_bytes, row_of, column_in, is_top, slice_checks, placed, precinct_turn, precincts, precincts_by, slice}
use Rattle.slices.specs.Stream.{end_checks, sliced, slice_turn, ended, stream}
use Rattle.slices.specs.Walk.{stepped, walked_on, end_of, walk_checks, walk_turn, walk_precincts, walk_by, walk_slice, walk_slice_turn, walk_stream, walk_slice_table, walk_table, WalkTurned, Walks}
use Rattle.slices.proofs.PrecinctLaws.{clash, one_fine}
use Rattle.slices.proofs.SliceLaws.{header_ends}

-- ---- what a step answers

module _ (s : List ℕ) (c : Setting) (at : ℕ) where
  -- a step within the stream
  pub walk_inside : first (walk_checks s c at) ≡ Fine → end_of s c at ≤ length s
  walk_inside e =
      let h = held (walk_checks s c at) e in
      omega (arith, h.0.least, h.1.0.most)

  pub walk_turned : (n : ℕ) {v : Verdict} {r : Walked} {to : ℕ} → v ≡ first (walk_checks s c at) → to ≡ end_of s c at → stepped v at to ≡ stepped r.verdict r.at r.at
      → r.verdict ≡ v → (v ≡ Fine → r.at ≡ to) → WalkTurned s (walk_turn s c n at) r
  unfolding walk_turn
  walk_turned n {r = r} e f g h k =
      record {
        is = (λ i. stepped (sym e i) at (sym f i)) ∙ g;
        inside = λ z. let w = sym h ∙ z in omega (arith, k w, f, walk_inside (sym e ∙ w));
      }

-- a walk that goes on, and one that stops
module _ {s : List ℕ} {turn : Turn ℕ (Verdict × ℕ)} {r : Walked} (x : WalkTurned s turn r) where
  pub walk_goes : r.verdict ≡ Fine → turn ≡ go r.at
  walk_goes v = x.is ∙ (λ i. stepped (v i) r.at r.at)

  pub walk_stops : {k : Check} → r.verdict ≡ Refused k → turn ≡ stop (Refused k, r.at)
  walk_stops v = x.is ∙ (λ i. stepped (v i) r.at r.at)

pub walks_still : {s : List ℕ} {left left' : Verdict × ℕ} {r : Walked} → left' ≡ left → Walks s left r → Walks s left' r
walks_still e x = record { is = e ∙ x.is; inside = x.inside }

-- ---- where a walk ends

module _ (s : List ℕ) (c : Setting) where
  -- a place of the stream, not before where the walk began
  abbrev Between : ℕ → ℕ → Type 0
  Between from at = (from ≤ at) × (at ≤ length s)

  abbrev Ended : ℕ → Verdict × ℕ → Type 0
  Ended from r = r.0 ≡ Fine → Between from r.1

  turn_ends : (from n at : ℕ) → Between from at → Kept (Between from) (Ended from) (walk_turn s c n at)
  unfolding walk_turn
  turn_ends from n at h = by (first (walk_checks s c at)) (walk_inside s c at)
    where
      by : (v : Verdict) → (v ≡ Fine → end_of s c at ≤ length s) → Kept (Between from) (Ended from) (stepped v at (end_of s c at))
      by (Ok _) inside = (omega (arith, h), inside refl)
      by (Err k) inside = λ e. clash e

  pub precincts_end : (t at to : ℕ) → at ≤ length s → walk_precincts s c t at ≡ (Fine, to) → (at ≤ to) × (to ≤ length s)
  unfolding walk_precincts
  precincts_end t at to h e =
      let q : (walk_precincts s c t at).1 ≡ to = λ i. (e i).1 in
      let z =
      run_keeps (Between at) (Ended at) (walk_turn s c) (λ y. (Fine, y)) (Np c.shape t) (λ y p f. p) (λ n y l p. turn_ends at n y p) (Np c.shape t) 0 at (omega arith)
      (omega arith, h) (λ i. (e i).0) in
      (omega (arith, z.0, q), omega (arith, z.1, q))

  -- behind the header of a slice at the least
  pub slice_ends : (t at to : ℕ) → walk_slice s c t at ≡ (Fine, to) → (at + slice_header_bytes ≤ to) × (to ≤ length s)
  unfolding walk_slice
  slice_ends t at to e = by _ refl e
    where
      by : (v : Verdict) → first (slice_checks s t at) ≡ v → walk_by s c v t at ≡ (Fine, to) → (at + slice_header_bytes ≤ to) × (to ≤ length s)
      by (Ok _) f e = precincts_end t (at + slice_header_bytes) to (header_ends s t at f) e
      by (Err k) f e = clash (λ i. (e i).0)

-- ---- the walk is judged by one table

module _ (s : List ℕ) (c : Setting) where
  abbrev verdict : {X : Type 0} → Turn ℕ (Verdict × X) → Verdict
  verdict u = next u (λ y. Fine) (λ r. r.0)

  stepped_verdict : (v : Verdict) (at to : ℕ) → verdict (stepped v at to) ≡ v
  stepped_verdict (Ok _) at to = refl
  stepped_verdict (Err k) at to = refl

  walked_verdict : (x : Verdict × ℕ) → verdict (walked_on x) ≡ x.0
  walked_verdict (Ok _, to) = refl
  walked_verdict (Err k, at) = refl

  walk_slice_table_lem : (t at : ℕ) → (walk_slice s c t at).0 ≡ first (walk_slice_table s c t at)
  unfolding walk_slice walk_precincts walk_turn walk_slice_table
  walk_slice_table_lem t at =
      joined (slice_checks s t at) (along (walk_turn s c) (λ n y. walk_checks s c y) (λ y. []) (Np c.shape t) 0 (at + slice_header_bytes)) (by (first (slice_checks s t at))) refl
      (run_tells first Fine fine_passes (λ (r : Verdict × ℕ). r.0) (walk_turn s c) (λ y. (Fine, y)) (λ n y. walk_checks s c y) (λ y. []) (λ y. refl)
      (λ n y. stepped_verdict (first (walk_checks s c y)) y (end_of s c y)) (Np c.shape t) 0 (at + slice_header_bytes))
    where
      by : (v : Verdict) → (walk_by s c v t at).0 ≡ then v (walk_precincts s c t (at + slice_header_bytes)).0
      by (Ok _) = refl
      by (Err k) = refl

  pub walk_table_lem : (at : ℕ) → (walk_stream s c at).0 ≡ first (walk_table s c at)
  unfolding walk_stream walk_slice_turn walk_table
  walk_table_lem at =
      run_tells first Fine fine_passes (λ (r : Verdict × ℕ). r.0) (walk_slice_turn s c) (λ y. (first (end_checks s y), y + 2)) (walk_slice_table s c) (λ y. end_checks s y) (λ y. refl)
      (λ t y. walked_verdict (walk_slice s c t y) ∙ walk_slice_table_lem t y) (slices c.shape) 0 at

-- ---- a reading walks: where nothing is refused it goes by the declared lengths

module _ (s : List ℕ) (c : Setting) where
  -- two turns, of a reading and of a walk: where one goes on, the other goes on to its place
  abbrev Walking : Turn State Left → Turn ℕ (Verdict × ℕ) → Type 0
  Walking (go y) u = u ≡ go y.0
  Walking (stop r) u = r.0 ≡ Fine → ⊥

  -- a loop whose turns walk, and whose end is that of a walk
  runs_walk : (turn : ℕ → State → Turn State Left) (walk : ℕ → ℕ → Turn ℕ (Verdict × ℕ)) (end : State → Left) (last : ℕ → Verdict × ℕ)
      → ((x : State) → last x.0 ≡ ((end x).0, (end x).1.0)) → ((g : ℕ) (x : State) → Walking (turn g x) (walk g x.0))
      → (left g : ℕ) (x : State) → (run turn end left g x).0 ≡ Fine → run walk last left g x.0 ≡ (Fine, (run turn end left g x).1.0)
  unfolding run
  runs_walk turn walk end last at_end each zero g x e = at_end x ∙ (λ i. (e i, (end x).1.0))
  runs_walk turn walk end last at_end each (suc left) g x e = pick (turn g x) (walk g x.0) (each g x) (runs_walk turn walk end last at_end each left (g + 1)) e
    where
      pick : (t : Turn State Left) (u : Turn ℕ (Verdict × ℕ)) → Walking t u
          → ((y : State) → (run turn end left (g + 1) y).0 ≡ Fine → run walk last left (g + 1) y.0 ≡ (Fine, (run turn end left (g + 1) y).1.0))
          → (next t (λ y. run turn end left (g + 1) y) (λ r. r)).0 ≡ Fine
          → next u (λ y. run walk last left (g + 1) y) (λ r. r) ≡ (Fine, (next t (λ y. run turn end left (g + 1) y) (λ r. r)).1.0)
      pick (go y) u w later e = (λ i. next (w i) (λ y. run walk last left (g + 1) y) (λ r. r)) ∙ later y e
      pick (stop r) u w later e = absurd (w e)

  -- an accepted precinct header holds the walk's checks
  header_walks : (row column at : ℕ) (top : Bool) → first (header_checks s c row column at top) ≡ Fine → first (walk_checks s c at) ≡ Fine
  header_walks row column at top e =
      let h = held (field_checks s c row column at) (append_fine (field_checks s c row column at) (each (NL c.shape) (mode_checks s c row column at top)) e).0 in
      let cut = check Cut at Lprc (length s - at) 3 ample in
      let long = check Length at PrecinctField (header_bytes_of c.shape + field_at s at 24) 0 (length s - at) in
      fine_passes (cut ∷ []) (long ∷ []) (one_fine cut h.0.least h.0.most) ∙ one_fine long h.1.1.0.least h.1.1.0.most

  pub precinct_walks : (row column at : ℕ) (top : Bool) (cells : List ℤ) → (precinct s c row column at top cells).0 ≡ Fine → first (walk_checks s c at) ≡ Fine
  unfolding precinct
  precinct_walks row column at top cells e = by _ refl e
    where
      by : (v : Verdict) → first (header_checks s c row column at top) ≡ v → (packets_by s c row column at v cells).0 ≡ Fine → first (walk_checks s c at) ≡ Fine
      by (Ok _) f e = header_walks row column at top f
      by (Err k) f e = clash e

  turn_walks : (t n : ℕ) (x : State) → Walking (precinct_turn s c t n x) (walk_turn s c n x.0)
  unfolding precinct_turn walk_turn
  turn_walks t n x = by (precinct s c (row_of s c t n) (column_in s c t n) x.0 (is_top s c t n) x.2) (precinct_walks (row_of s c t n) (column_in s c t n) x.0 (is_top s c t n) x.2)
    where
      by : (y : Verdict × List ℤ) → (y.0 ≡ Fine → first (walk_checks s c x.0) ≡ Fine) → Walking (placed s c t n x y) (stepped (first (walk_checks s c x.0)) x.0 (end_of s c x.0))
      by (Ok _, cells) h = λ i. stepped (h refl i) x.0 (end_of s c x.0)
      by (Err k, cells) h = λ e. clash e

  -- the precincts of a slice
  pub reading_walks : (t : ℕ) (x y : State) → precincts s c t x ≡ (Fine, y) → walk_precincts s c t x.0 ≡ (Fine, y.0)
  unfolding precincts walk_precincts
  reading_walks t x y e =
      runs_walk (precinct_turn s c t) (walk_turn s c) (λ y. (Fine, y)) (λ y. (Fine, y)) (λ x. refl) (turn_walks t) (Np c.shape t) 0 x (λ i. (e i).0)
      ∙ (λ i. (Fine, (e i).1.0))

  -- a slice
  pub slice_walks : (t : ℕ) (x y : State) → slice s c t x ≡ (Fine, y) → walk_slice s c t x.0 ≡ (Fine, y.0)
  unfolding slice walk_slice
  slice_walks t x y e = by (first (slice_checks s t x.0)) e
    where
      by : (v : Verdict) → precincts_by s c t v x ≡ (Fine, y) → walk_by s c v t x.0 ≡ (Fine, y.0)
      by (Ok _) e = reading_walks t (x.0 + slice_header_bytes, x.1, x.2) y e
      by (Err k) e = clash (λ i. (e i).0)

  slice_turn_walks : (t : ℕ) (x : State) → Walking (slice_turn s c t x) (walk_slice_turn s c t x.0)
  unfolding slice_turn walk_slice_turn
  slice_turn_walks t x = by (slice s c t x) (λ y. slice_walks t x y)
    where
      by : (z : Left) → ((y : State) → z ≡ (Fine, y) → walk_slice s c t x.0 ≡ (Fine, y.0)) → Walking (sliced z) (walked_on (walk_slice s c t x.0))
      by (Ok _, y) h = λ i. walked_on (h y refl i)
      by (Err k, y) h = λ e. clash e

  -- the stream
  pub stream_walks : (x y : State) → stream s c x ≡ (Fine, y) → walk_stream s c x.0 ≡ (Fine, y.0)
  unfolding stream walk_stream
  stream_walks x y e =
      runs_walk (slice_turn s c) (walk_slice_turn s c) (ended s) (λ y. (first (end_checks s y), y + 2)) (λ x. refl) slice_turn_walks (slices c.shape) 0 x (λ i. (e i).0)
      ∙ (λ i. (Fine, (e i).1.0))
