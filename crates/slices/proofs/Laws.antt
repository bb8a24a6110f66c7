-- What precincts, slices and the stream leave, for the layers above: where a reading ends, which cells it keeps, and the largest T. Assumes nothing.
use Rattle.std.specs.Prelude.{Ok, Err}
use Prim.Native.Nat.{ℕ, zero, suc, ◌+◌, ◌/◌, ◌^◌, ◌≤◌, ◌<◌, max}
use mathlib.Core.Path.{◌≡◌, refl, ap, ◌∙◌}
use mathlib.Core.Bool.{Bool, true, false, cond}
use mathlib.Core.List.{List, [], ◌∷◌}
use native.Mathlib.Decide.{dec_lt}
use native.Mathlib.Omega.{arith}
use lib.IntN.{ℤ}
use lib.ListN.{length, get_or, set, length-set}
use lib.Seq.{get_or-set_same, get_or-set_other}
use Rattle.whole.specs.Cells.{cell, Bounded}
use Rattle.loops.specs.Run.{Turn, go}
use Rattle.loops.proofs.Laws.{Kept, run_keeps}
use Rattle.rows.specs.Rows.{first, Fine, Verdict}
use Rattle.rows.proofs.Tables.{held}
use Rattle.layout.specs.Built.{Built}
use Rattle.layout.specs.Bands.{NL}
use Rattle.layout.specs.Precincts.{Npx, Npy, Np, slices}
use Rattle.layout.specs.Slots.{slots, candidates, line_at}
use Rattle.packets.specs.declared.Setting.{Setting}
use Rattle.packets.specs.declared.Precinct.{Precinct}
use Rattle.packets.specs.Precincts.{T}
use Rattle.packets.specs.Ready.{Settled}
use Rattle.packets.specs.Packets.{any_line, packet}
use Rattle.packets.proofs.Laws.{Apart, packet_length, packet_other, packet_bounded}
use Rattle.packets.proofs.LinePasses.{T_most}
use Rattle.slices.specs.Precinct.{precinct_at, header_checks, body, no_flags, Packing, packed, packet_turn, rest_checks, packets, packets_by, precinct, holds, raised_by, raised}
use Rattle.slices.specs.Slice.{State, Left, slice_header_bytes, row_of, column_in, is_top, slice_checks, placed, precinct_turn, precincts, precincts_by, slice}
use Rattle.slices.specs.Stream.{end_checks, sliced, slice_turn, ended, stream}
use Rattle.slices.proofs.PrecinctLaws.{clash}
use Rattle.slices.proofs.SliceLaws.{row_inside, column_inside}

-- ---- what each packet keeps, a precinct, a slice and the stream keep

module _ (s : List ℕ) (c : Setting) (P : List ℤ → Type 0) where
  module _ (row column at : ℕ) (kept : (slot place : ℕ) (raws : List ℕ) (cells : List ℤ) → slot < slots c.shape → P cells → P (packet s c (precinct_at s c row column at) slot place raws cells).1) where
    packed_keeps : (slot place : ℕ) (raws : List ℕ) (x : Verdict × List ℤ) → P x.1 → Kept (λ (y : Packing s c row column at). P y.2) (λ (r : Verdict × List ℤ). P r.1) (packed s c row column at slot place raws x)
    packed_keeps slot place raws (Ok _, cells) h = h
    packed_keeps slot place raws (Err k, cells) h = h

    pub packet_turn_keeps : (slot : ℕ) (x : Packing s c row column at) → slot < slots c.shape → P x.2 → Kept (λ (y : Packing s c row column at). P y.2) (λ (r : Verdict × List ℤ). P r.1) (packet_turn s c row column at slot x)
    unfolding packet_turn
    packet_turn_keeps slot x l h = by (any_line c (precinct_at s c row column at) slot (candidates c.shape slot))
      where
        by : (any : Bool) → Kept (λ (y : Packing s c row column at). P y.2) (λ (r : Verdict × List ℤ). P r.1) (cond any (packed s c row column at slot x.0 x.1 (packet s c (precinct_at s c row column at) slot x.0 x.1 x.2)) (go x))
        by true = packed_keeps slot x.0 x.1 (packet s c (precinct_at s c row column at) slot x.0 x.1 x.2) (kept slot x.0 x.1 x.2 l h)
        by false = h

    pub precinct_keeps : (top : Bool) (cells : List ℤ) → P cells → P (precinct s c row column at top cells).1
    unfolding precinct packets
    precinct_keeps top cells h = by (first (header_checks s c row column at top))
      where
        by : (v : Verdict) → P (packets_by s c row column at v cells).1
        by (Ok _) =
            run_keeps (λ (x : Packing s c row column at). P x.2) (λ (r : Verdict × List ℤ). P r.1) (packet_turn s c row column at) (λ x. (first (rest_checks s c row column at x.0), x.2))
            (slots c.shape) (λ x p. p) (λ g x l p. packet_turn_keeps g x l p) (slots c.shape) 0 (body s c row column at, no_flags s c row column at, cells) (omega arith) h
        by (Err k) = h

  -- the packets of the precincts of slice t
  abbrev pub PacketsKeep : ℕ → Type 0
  PacketsKeep t =
      (row column at slot place : ℕ) (raws : List ℕ) (cells : List ℤ) → row < Npy c.shape → row / c.shape.hsl ≡ t → column < Npx c.shape → slot < slots c.shape
      → P cells → P (packet s c (precinct_at s c row column at) slot place raws cells).1

  abbrev KeptHere : Turn State Left → Type 0
  KeptHere u = Kept (λ (y : State). P y.2) (λ (r : Left). P r.1.2) u

  module _ (built : Built c.shape) (t : ℕ) (l : t < slices c.shape) (kept : PacketsKeep t) where
    placed_keeps : (n : ℕ) (x : State) (y : Verdict × List ℤ) → P y.1 → KeptHere (placed s c t n x y)
    placed_keeps n x (Ok _, cells) h = h
    placed_keeps n x (Err k, cells) h = h

    precinct_turn_keeps : (n : ℕ) (x : State) → n < Np c.shape t → P x.2 → KeptHere (precinct_turn s c t n x)
    unfolding precinct_turn
    precinct_turn_keeps n x k h =
        let r = row_inside c.shape built t l n k in
        placed_keeps n x (precinct s c (row_of s c t n) (column_in s c t n) x.0 (is_top s c t n) x.2)
        (precinct_keeps (row_of s c t n) (column_in s c t n) x.0
        (λ slot place raws cells. kept (row_of s c t n) (column_in s c t n) x.0 slot place raws cells r.0 r.1 (column_inside c.shape built t l n k))
        (is_top s c t n) x.2 h)

    pub precincts_keeps : (x : State) → P x.2 → P (precincts s c t x).1.2
    unfolding precincts
    precincts_keeps x h =
        run_keeps (λ (y : State). P y.2) (λ (r : Left). P r.1.2) (precinct_turn s c t) (λ y. (Fine, y)) (Np c.shape t) (λ y p. p)
        (λ n y k p. precinct_turn_keeps n y k p) (Np c.shape t) 0 x (omega arith) h

    pub slice_keeps : (x : State) → P x.2 → P (slice s c t x).1.2
    unfolding slice
    slice_keeps x h = by (first (slice_checks s t x.0))
      where
        by : (v : Verdict) → P (precincts_by s c t v x).1.2
        by (Ok _) = precincts_keeps (x.0 + slice_header_bytes, x.1, x.2) h
        by (Err k) = h

  sliced_keeps : (y : Left) → P y.1.2 → KeptHere (sliced y)
  sliced_keeps (Ok _, x) h = h
  sliced_keeps (Err k, x) h = h

  pub stream_keeps : Built c.shape → ((t : ℕ) → PacketsKeep t) → (x : State) → P x.2 → P (stream s c x).1.2
  unfolding stream slice_turn
  stream_keeps built kept x h =
      run_keeps (λ (y : State). P y.2) (λ (r : Left). P r.1.2) (slice_turn s c) (ended s) (slices c.shape) (λ y p. p)
      (λ t y l p. sliced_keeps (slice s c t y) (slice_keeps built t l (kept t) y p)) (slices c.shape) 0 x (omega arith) h

-- ---- the cells: as many as before

pub precinct_length : (s : List ℕ) (c : Setting) (row column at : ℕ) (top : Bool) (cells : List ℤ)
    → length (precinct s c row column at top cells).1 ≡ length cells
precinct_length s c row column at top cells =
    precinct_keeps s c (λ z. length z ≡ length cells) row column at
    (λ slot place raws z l e. packet_length s c (precinct_at s c row column at) slot place raws z ∙ e) top cells refl

-- cell n belongs to no line in slice t's rows of precincts
abbrev pub FarFrom : Setting → ℕ → ℕ → Type 0
FarFrom c t n =
    (row column slot j : ℕ) → row < Npy c.shape → row / c.shape.hsl ≡ t → column < Npx c.shape → slot < slots c.shape → j < candidates c.shape slot
    → (line_at c.shape row column slot j).present ≡ true → Apart (line_at c.shape row column slot j) n

module _ (s : List ℕ) (c : Setting) (settled : Settled c) where
  pub length_kept : (n t : ℕ) → PacketsKeep s c (λ z. length z ≡ n) t
  length_kept n t row column at slot place raws cells r q k j e = packet_length s c (precinct_at s c row column at) slot place raws cells ∙ e

  pub slice_length : (t : ℕ) → t < slices c.shape → (x : State) → length (slice s c t x).1.2 ≡ length x.2
  slice_length t l x = slice_keeps s c (λ z. length z ≡ length x.2) settled.shape t l (length_kept (length x.2) t) x refl

  pub stream_length : (x : State) → length (stream s c x).1.2 ≡ length x.2
  stream_length x = stream_keeps s c (λ z. length z ≡ length x.2) settled.shape (length_kept (length x.2)) x refl

  -- a slice changes the cells of the lines in its own rows of precincts alone
  module _ (n t : ℕ) (l : t < slices c.shape) (apart : FarFrom c t n) where
    other_kept : (z : ℤ) → PacketsKeep s c (λ cells. cell cells n ≡ z) t
    other_kept z row column at slot place raws cells r q k j e =
        packet_other s c (precinct_at s c row column at) slot place raws cells n (λ i m p. apart row column slot i r q k j m p) ∙ e

    pub precincts_other : (x : State) → cell (precincts s c t x).1.2 n ≡ cell x.2 n
    precincts_other x = precincts_keeps s c (λ z. cell z n ≡ cell x.2 n) settled.shape t l (other_kept (cell x.2 n)) x refl

    pub slice_other : (x : State) → cell (slice s c t x).1.2 n ≡ cell x.2 n
    slice_other x = slice_keeps s c (λ z. cell z n ≡ cell x.2 n) settled.shape t l (other_kept (cell x.2 n)) x refl

-- ---- the size of what the cells hold

module _ (s : List ℕ) (c : Setting) (settled : Settled c) {B : ℕ} (most : 2 ^ (31 + c.fq) ≤ B) where
  pub bounded_kept : (t : ℕ) → PacketsKeep s c (Bounded B) t
  bounded_kept t row column at slot place raws cells r q k j h = packet_bounded s c (precinct_at s c row column at) slot place raws cells settled most h

  pub stream_bounded : (x : State) → Bounded B x.2 → Bounded B (stream s c x).1.2
  stream_bounded = stream_keeps s c (Bounded B) settled.shape bounded_kept

-- ---- where an accepted reading ends

-- the end marker is the last thing of the stream
pub ended_ends : (s : List ℕ) (y : State) → (ended s y).0 ≡ Fine → (ended s y).1.0 ≡ length s
ended_ends s y e =
    let h = held (end_checks s y.0) e in
    omega (arith, h.0.least, h.1.1.0.most)

pub stream_ends : (s : List ℕ) (c : Setting) (x : State) → (stream s c x).0 ≡ Fine → (stream s c x).1.0 ≡ length s
unfolding stream slice_turn
stream_ends s c x =
    run_keeps (λ (y : State). Unit {0}) (λ (r : Left). r.0 ≡ Fine → r.1.0 ≡ length s) (slice_turn s c) (ended s) (slices c.shape) (λ y p. ended_ends s y) (λ t y l p. refuses (slice s c t y)) (slices c.shape) 0 x (omega arith) tt
  where
    refuses : (l : Left) → Kept (λ (y : State). Unit {0}) (λ (r : Left). r.0 ≡ Fine → r.1.0 ≡ length s) (sliced l)
    refuses (Ok _, z) = tt
    refuses (Err k, z) = λ e. clash e

-- ---- the largest T: none is above 31

abbrev pub Few : List ℕ → Type 0
Few tops = (b : ℕ) → get_or tops b 0 ≤ 31

-- a place that is not set, or is set to no more than m
set_most : (l : List ℕ) (i b : ℕ) {v m : ℕ} → (i ≡ b → v ≤ m) → get_or l b 0 ≤ m → get_or (set l i v) b 0 ≤ m
set_most [] i b new h = h
set_most (x ∷ xs) zero zero new h = new refl
set_most (x ∷ xs) zero (suc b) new h = h
set_most (x ∷ xs) (suc i) zero new h = h
set_most (x ∷ xs) (suc i) (suc b) new h = set_most xs i b (λ e. new (ap suc e)) h

module _ (c : Setting) (p : Precinct) where
  pub raised_length : (n : ℕ) (tops : List ℕ) → length (raised c p n tops) ≡ length tops
  unfolding raised
  raised_length zero tops = refl
  raised_length (suc n) tops = length-set (raised c p n tops) n (raised_by c p n (get_or tops n 0)) ∙ raised_length n tops

  -- the bands from n on are still to come
  raised_later : (n b : ℕ) (tops : List ℕ) → n ≤ b → get_or (raised c p n tops) b 0 ≡ get_or tops b 0
  unfolding raised
  raised_later zero b tops h = refl
  raised_later (suc n) b tops h =
      get_or-set_other (raised c p n tops) n b (raised_by c p n (get_or tops n 0)) 0 (λ e. omega arith) ∙ raised_later n b tops (omega arith)

  raised_at : (n b : ℕ) (tops : List ℕ) → b < n → b < length tops → get_or (raised c p n tops) b 0 ≡ raised_by c p b (get_or tops b 0)
  unfolding raised
  raised_at zero b tops h l = absurd (omega arith)
  raised_at (suc n) b tops h l = pick (dec_lt b n) (λ k. raised_at n b tops k l)
    where
      pick : Dec (b < n) → (b < n → get_or (raised c p n tops) b 0 ≡ raised_by c p b (get_or tops b 0))
          → get_or (set (raised c p n tops) n (raised_by c p n (get_or tops n 0))) b 0 ≡ raised_by c p b (get_or tops b 0)
      pick (yes k) before = get_or-set_other (raised c p n tops) n b (raised_by c p n (get_or tops n 0)) 0 (λ e. omega arith) ∙ before k
      pick (no k) before =
          let q : b ≡ n = omega arith in
          rw q (get_or-set_same (raised c p n tops) n (raised_by c p n (get_or tops n 0)) 0 (omega (arith, raised_length n tops)))

  raised_by_up : (b top : ℕ) → top ≤ raised_by c p b top
  raised_by_up b top = by (holds c p b)
    where
      by : (e : Bool) → top ≤ cond e (max top (T c p b)) top
      by true = omega arith
      by false = omega arith

  -- none falls, and that of a band that the precinct holds is at least its T
  pub raised_up : (n b : ℕ) (tops : List ℕ) → b < length tops → get_or tops b 0 ≤ get_or (raised c p n tops) b 0
  raised_up n b tops l = pick (dec_lt b n)
    where
      pick : Dec (b < n) → get_or tops b 0 ≤ get_or (raised c p n tops) b 0
      pick (yes k) = omega (arith, raised_at n b tops k l, raised_by_up b (get_or tops b 0))
      pick (no k) = omega (arith, raised_later n b tops (omega arith))

  pub raised_holds : (n b : ℕ) (tops : List ℕ) → b < n → b < length tops → holds c p b ≡ true → T c p b ≤ get_or (raised c p n tops) b 0
  raised_holds n b tops k l h =
      let e : raised_by c p b (get_or tops b 0) ≡ max (get_or tops b 0) (T c p b) = rw h in
      omega (arith, raised_at n b tops k l, e)

  raised_by_most : (b top : ℕ) {m : ℕ} → (holds c p b ≡ true → T c p b ≤ m) → top ≤ m → raised_by c p b top ≤ m
  raised_by_most b top {m} own h = by (holds c p b) own
    where
      by : (e : Bool) → (e ≡ true → T c p b ≤ m) → cond e (max top (T c p b)) top ≤ m
      by true own = omega (arith, own refl)
      by false own = h

  -- one that is at most m stays so, if the precinct's own T is no more where it holds the band
  pub raised_most : (n b : ℕ) {m : ℕ} (tops : List ℕ) → (b < n → holds c p b ≡ true → T c p b ≤ m) → get_or tops b 0 ≤ m
      → get_or (raised c p n tops) b 0 ≤ m
  unfolding raised
  raised_most zero b tops own h = h
  raised_most (suc n) b {m} tops own h =
      set_most (raised c p n tops) n b set_here (raised_most n b tops (λ l. own (omega arith)) h)
    where
      set_here : n ≡ b → raised_by c p n (get_or tops n 0) ≤ m
      set_here e = rw e (raised_by_most b (get_or tops b 0) (own (omega arith)) h)

  pub raised_few : Settled c → (n : ℕ) (tops : List ℕ) → Few tops → Few (raised c p n tops)
  raised_few settled n tops h b = raised_most n b tops (λ l e. T_most c p b settled) (h b)

-- what each precinct keeps of the largest T, a slice and the stream keep
module _ (s : List ℕ) (c : Setting) (P : List ℕ → Type 0) (kept : (p : Precinct) (tops : List ℕ) → P tops → P (raised c p (NL c.shape) tops)) where
  abbrev TopsHere : Turn State Left → Type 0
  TopsHere u = Kept (λ (y : State). P y.1) (λ (r : Left). P r.1.1) u

  placed_tops : (t n : ℕ) (x : State) (y : Verdict × List ℤ) → P x.1 → TopsHere (placed s c t n x y)
  placed_tops t n x (Ok _, cells) h = kept (precinct_at s c (row_of s c t n) (column_in s c t n) x.0) x.1 h
  placed_tops t n x (Err k, cells) h = h

  pub precincts_tops : (t : ℕ) (x : State) → P x.1 → P (precincts s c t x).1.1
  unfolding precincts precinct_turn
  precincts_tops t x h =
      run_keeps (λ (y : State). P y.1) (λ (r : Left). P r.1.1) (precinct_turn s c t) (λ y. (Fine, y)) (Np c.shape t) (λ y p. p)
      (λ n y k p. placed_tops t n y (precinct s c (row_of s c t n) (column_in s c t n) y.0 (is_top s c t n) y.2) p) (Np c.shape t) 0 x (omega arith) h

  pub slice_tops : (t : ℕ) (x : State) → P x.1 → P (slice s c t x).1.1
  unfolding slice
  slice_tops t x h = by (first (slice_checks s t x.0))
    where
      by : (v : Verdict) → P (precincts_by s c t v x).1.1
      by (Ok _) = precincts_tops t (x.0 + slice_header_bytes, x.1, x.2) h
      by (Err k) = h

  sliced_tops : (y : Left) → P y.1.1 → TopsHere (sliced y)
  sliced_tops (Ok _, x) h = h
  sliced_tops (Err k, x) h = h

  pub stream_tops : (x : State) → P x.1 → P (stream s c x).1.1
  unfolding stream slice_turn
  stream_tops x h =
      run_keeps (λ (y : State). P y.1) (λ (r : Left). P r.1.1) (slice_turn s c) (ended s) (slices c.shape) (λ y p. p)
      (λ t y l p. sliced_tops (slice s c t y) (slice_tops t y p)) (slices c.shape) 0 x (omega arith) h

module _ (s : List ℕ) (c : Setting) where
  pub stream_few : Settled c → (x : State) → Few x.1 → Few (stream s c x).1.1
  stream_few settled = stream_tops s c Few (λ p. raised_few c p settled (NL c.shape))

  pub slice_tops_length : (t : ℕ) (x : State) → length (slice s c t x).1.1 ≡ length x.1
  slice_tops_length t x = slice_tops s c (λ z. length z ≡ length x.1) (λ p tops e. raised_length c p (NL c.shape) tops ∙ e) t x refl

  -- no largest T falls
  pub slice_tops_up : (t : ℕ) (x : State) (b : ℕ) → b < length x.1 → get_or x.1 b 0 ≤ get_or (slice s c t x).1.1 b 0
  slice_tops_up t x b h =
      (slice_tops s c (λ z. (length z ≡ length x.1) × (get_or x.1 b 0 ≤ get_or z b 0))
      (λ p tops q. (raised_length c p (NL c.shape) tops ∙ q.0, omega (arith, q.0, q.1, raised_up c p (NL c.shape) b tops (omega (arith, q.0)))))
      t x (refl, omega arith)).1
