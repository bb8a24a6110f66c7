-- The totals of pieces, and of the pieces along a loop. Assumes nothing.
use Rattle.std.specs.Prelude.{Ok, Err}
use Prim.Native.Nat.{ℕ, zero, suc, ◌+◌, ◌-◌, ◌≤◌, ◌<◌}
use mathlib.Core.Bool.{Bool, true, false, cond}
use mathlib.Core.List.{List, [], ◌∷◌, ◌++◌}
use mathlib.Core.Path.{◌≡◌, refl, sym, ap, ◌∙◌}
use native.Mathlib.Nat.{add-zero}
use native.Mathlib.Omega.{arith}
use Rattle.loops.specs.Run.{Turn, go, stop, then, run}
use Rattle.loops.specs.Along.{along}
use Rattle.loops.proofs.Along.{Each}
use Rattle.rows.specs.declared.Check.{Check}
use Rattle.rows.specs.Rows.{Fine, Refused, Verdict}
use Rattle.pieces.specs.declared.Bytes.{Bytes}
use Rattle.pieces.specs.Pieces.{Kind, Markers, Precincts, Packets, Significance, Counts, Data, Signs, Filler, Spoilt, alike, Piece, total, size, bytes_of, nothing, bytes_by, plus, all}

-- ---- pieces, one after the other

total_append : (k : Kind) (ps qs : List Piece) → total k (ps ++ qs) ≡ total k ps + total k qs
unfolding total
total_append k [] qs = omega arith
total_append k (p ∷ ps) qs = let rest = total_append k ps qs in let n = cond (alike k p.0) p.1 0 in omega (arith, rest)

pub size_append : (ps qs : List Piece) → size (ps ++ qs) ≡ size ps + size qs
unfolding size
size_append [] qs = omega arith
size_append (p ∷ ps) qs = let rest = size_append ps qs in omega (arith, rest)

pub bytes_append : (ps qs : List Piece) → bytes_of (ps ++ qs) ≡ plus (bytes_of ps) (bytes_of qs)
bytes_append ps qs = λ i.
    record {
      markers = total_append Markers ps qs i;
      precincts = total_append Precincts ps qs i;
      packets = total_append Packets ps qs i;
      significance = total_append Significance ps qs i;
      counts = total_append Counts ps qs i;
      «data» = total_append Data ps qs i;
      signs = total_append Signs ps qs i;
      filler = total_append Filler ps qs i;
      spoilt = total_append Spoilt ps qs i;
    }

-- a piece before the others
pub bytes_first : (p : Piece) (ps : List Piece) → bytes_of (p ∷ ps) ≡ plus (bytes_of (p ∷ [])) (bytes_of ps)
bytes_first p ps = bytes_append (p ∷ []) ps

pub bytes_none : nothing ≡ bytes_of []
unfolding total
bytes_none = refl

pub bytes_end : (b : Bytes) → plus b (bytes_of []) ≡ b
unfolding total
bytes_end b = λ i.
    record {
      markers = add-zero b.markers i;
      precincts = add-zero b.precincts i;
      packets = add-zero b.packets i;
      significance = add-zero b.significance i;
      counts = add-zero b.counts i;
      «data» = add-zero b.«data» i;
      signs = add-zero b.signs i;
      filler = add-zero b.filler i;
      spoilt = add-zero b.spoilt i;
    }

-- every piece is of one kind: the nine totals add up to the size of all pieces
pub piece_once : (k : Kind) (n : ℕ) → all (bytes_of ((k, n) ∷ [])) ≡ n
unfolding total
piece_once Markers n = omega arith
piece_once Precincts n = omega arith
piece_once Packets n = omega arith
piece_once Significance n = omega arith
piece_once Counts n = omega arith
piece_once Data n = omega arith
piece_once Signs n = omega arith
piece_once Filler n = omega arith
piece_once Spoilt n = omega arith

pub all_plus : (a b : Bytes) → all (plus a b) ≡ all a + all b
all_plus a b = omega arith

pub all_size : (ps : List Piece) → all (bytes_of ps) ≡ size ps
unfolding size total
all_size [] = refl
all_size (p ∷ ps) =
    ap all (bytes_first p ps) ∙ all_plus (bytes_of (p ∷ [])) (bytes_of ps) ∙ (λ i. piece_once p.0 p.1 i + all_size ps i)

plus_plus : (a b c : Bytes) → plus (plus a b) c ≡ plus a (plus b c)
plus_plus a b c = λ i.
    record {
      markers = join a.markers b.markers c.markers i;
      precincts = join a.precincts b.precincts c.precincts i;
      packets = join a.packets b.packets c.packets i;
      significance = join a.significance b.significance c.significance i;
      counts = join a.counts b.counts c.counts i;
      «data» = join a.«data» b.«data» c.«data» i;
      signs = join a.signs b.signs c.signs i;
      filler = join a.filler b.filler c.filler i;
      spoilt = join a.spoilt b.spoilt c.spoilt i;
    }
  where
    join : (x y z : ℕ) → x + y + z ≡ x + (y + z)
    join x y z = omega arith

-- ---- by the verdict of what has the pieces

pub read_bytes : {v : Verdict} {b : Bytes} (ps : List Piece) → b ≡ bytes_by v (bytes_of ps) → v ≡ Fine → b ≡ bytes_of ps
read_bytes ps h e = h ∙ (λ i. bytes_by (e i) (bytes_of ps))

pub read_size : {v : Verdict} {b : Bytes} (ps : List Piece) → b ≡ bytes_by v (bytes_of ps) → v ≡ Fine → all b ≡ size ps
read_size ps h e = ap all (read_bytes ps h e) ∙ all_size ps

-- what is read has fewer bytes than n where its pieces do, and what is refused has none
pub read_few : {v : Verdict} {b : Bytes} (ps : List Piece) (n : ℕ) → 0 < n → b ≡ bytes_by v (bytes_of ps) → (v ≡ Fine → size ps < n) → all b < n
read_few {v} {b} ps n some h fits = by v refl
  where
    by : (w : Verdict) → v ≡ w → all b < n
    by (Ok _) e = omega (arith, read_size ps h e, fits e)
    by (Err k) e = let none = ap all (h ∙ (λ i. bytes_by (e i) (bytes_of ps))) in omega (arith, none, some)

pub refused_bytes : {v : Verdict} {k : Check} (b : Bytes) → v ≡ Refused k → nothing ≡ bytes_by v b
refused_bytes b e = λ i. bytes_by (sym e i) b

-- ---- pieces of one kind

-- all of them are of the kind k
abbrev pub AllOf : Kind → List Piece → Type 0
AllOf k = Each (λ (p : Piece). p.0 ≡ k)

-- they have each total of one piece as long as all of them
total_one : (j k : Kind) (ps : List Piece) → AllOf k ps → total j ps ≡ total j ((k, size ps) ∷ [])
unfolding total size
total_one j k [] a = pick (alike j k)
  where
    pick : (b : Bool) → 0 ≡ cond b 0 0 + 0
    pick true = omega arith
    pick false = omega arith
total_one j k (p ∷ ps) a = (λ i. cond (alike j (a.0 i)) p.1 0 + total_one j k ps a.1 i) ∙ pick (alike j k) p.1 (size ps)
  where
    pick : (b : Bool) (m n : ℕ) → cond b m 0 + (cond b n 0 + 0) ≡ cond b (m + n) 0 + 0
    pick true m n = omega arith
    pick false m n = omega arith

pub bytes_one : (k : Kind) (ps : List Piece) → AllOf k ps → bytes_of ps ≡ bytes_of ((k, size ps) ∷ [])
bytes_one k ps a = λ i.
    record {
      markers = total_one Markers k ps a i;
      precincts = total_one Precincts k ps a i;
      packets = total_one Packets k ps a i;
      significance = total_one Significance k ps a i;
      counts = total_one Counts k ps a i;
      «data» = total_one Data k ps a i;
      signs = total_one Signs k ps a i;
      filler = total_one Filler k ps a i;
      spoilt = total_one Spoilt k ps a i;
    }

-- ---- pieces of other kinds

-- none of them is of the kind k
abbrev pub NoneOf : Kind → List Piece → Type 0
NoneOf k = Each (λ (p : Piece). alike k p.0 ≡ false)

pub total_none : (k : Kind) (ps : List Piece) → NoneOf k ps → total k ps ≡ 0
unfolding total
total_none k [] a = refl
total_none k (p ∷ ps) a = λ i. cond (a.0 i) p.1 0 + total_none k ps a.1 i

-- ---- the pieces along a loop

-- Before turn g of n, in the state x, b is counted. With what the turns from there on say it comes to `sum`, and it leads from a place to that of the state
pub record Adding {S R : Type 0} (turn : ℕ → S → Turn S R) (says : ℕ → S → List Piece) (last : S → List Piece) (place : S → ℕ) (n from : ℕ) (sum : Bytes) (g : ℕ) (x : S) (b : Bytes) : Type 0 where
  pub comes : plus b (bytes_of (along turn says last (n - g) g x)) ≡ sum
  pub leads : from + all b ≡ place x

module _ {S R : Type 0} {turn : ℕ → S → Turn S R} {says : ℕ → S → List Piece} {last : S → List Piece} {place : S → ℕ} {n from : ℕ} where
  -- before the first turn, where pieces stand before what the loop says
  pub adds_begin : {x : S} {b : Bytes} (ps : List Piece) → b ≡ bytes_of ps → from + size ps ≡ place x
      → Adding turn says last place n from (bytes_of (ps ++ along turn says last n 0 x)) 0 x b
  adds_begin {x} ps e l =
      let all_turns : n - 0 ≡ n = omega arith in
      record {
        comes = (λ i. plus (e i) (bytes_of (along turn says last (all_turns i) 0 x))) ∙ sym (bytes_append ps (along turn says last n 0 x));
        leads = (λ i. from + all (e i)) ∙ (λ i. from + all_size ps i) ∙ l;
      }

  module _ {sum : Bytes} {g : ℕ} {x : S} {b : Bytes} (h : Adding turn says last place n from sum g x b) where
    -- a turn that goes on, and has counted what it says
    module _ {y : S} {v : Verdict} {more : Bytes} (e : turn g x ≡ go y) (tiles : place x + size (says g x) ≡ place y) (has : more ≡ bytes_by v (bytes_of (says g x))) (fine : v ≡ Fine) where
      -- both together are what stands between the places
      pub adds_up : from + (all b + all more) ≡ place y
      adds_up = omega (arith, h.leads, tiles, read_size (says g x) has fine)

      pub adds_on : g < n → Adding turn says last place n from sum (g + 1) y (plus b more)
      unfolding along
      adds_on l =
          let rest = along turn says last (n - (g + 1)) (g + 1) y in
          let k : n - g ≡ suc (n - (g + 1)) = omega arith in
          let split : along turn says last (n - g) g x ≡ says g x ++ rest =
          (λ i. along turn says last (k i) g x) ∙ (λ i. says g x ++ then (e i) (λ y. along turn says last (n - (g + 1)) (g + 1) y) (λ r. [])) in
          record {
            comes =
                plus_plus b more (bytes_of rest)
                ∙ (λ i. plus b (plus (read_bytes (says g x) has fine i) (bytes_of rest)))
                ∙ ap (plus b) (sym (bytes_append (says g x) rest))
                ∙ (λ i. plus b (bytes_of (sym split i)))
                ∙ h.comes;
            leads = ap (λ (k : ℕ). from + k) (all_plus b more) ∙ adds_up;
          }

    -- past the last turn
    pub adds_end : n ≤ g → plus b (bytes_of (last x)) ≡ sum
    unfolding along
    adds_end l =
        let k : n - g ≡ 0 = omega arith in
        (λ i. plus b (bytes_of (along turn says last (sym k i) g x))) ∙ h.comes

-- Where each turn that goes on has pieces from its state's place to that of the next state, and P stays, a loop whose result is fine comes to a last state,
-- and the pieces along it lead there
pub record Tiled {S R : Type 0} (P : S → Type 0) (place : S → ℕ) (end : S → R) (last : S → List Piece) (x : S) (said : List Piece) (r : R) : Type 0 where
  pub to : S
  pub holds : P to
  pub ends : r ≡ end to
  pub tiles : place x + size said ≡ place to + size (last to)

module _ {S R : Type 0} (P : S → Type 0) (place : S → ℕ) (fine : R → Type 0) (turn : ℕ → S → Turn S R) (end : S → R) (says : ℕ → S → List Piece) (last : S → List Piece)
    (goes : (g : ℕ) (x y : S) → P x → turn g x ≡ go y → P y × (place x + size (says g x) ≡ place y))
    (stops : (g : ℕ) (x : S) (r : R) → turn g x ≡ stop r → fine r → ⊥) where
  pub tiles_along : (left g : ℕ) (x : S) → P x → fine (run turn end left g x) → Tiled P place end last x (along turn says last left g x) (run turn end left g x)
  unfolding run along
  tiles_along zero g x h f = record { to = x; holds = h; ends = refl; tiles = refl }
  tiles_along (suc left) g x h f = pick (turn g x) refl (tiles_along left (g + 1)) f
    where
      pick : (t : Turn S R) → turn g x ≡ t
          → ((y : S) → P y → fine (run turn end left (g + 1) y) → Tiled P place end last y (along turn says last left (g + 1) y) (run turn end left (g + 1) y))
          → fine (then t (λ y. run turn end left (g + 1) y) (λ r. r))
          → Tiled P place end last x (says g x ++ then t (λ y. along turn says last left (g + 1) y) (λ r. [])) (then t (λ y. run turn end left (g + 1) y) (λ r. r))
      pick (go y) e more f =
          let step = goes g x y h e in
          let later = more y step.0 f in
          record { to = later.to; holds = later.holds; ends = later.ends; tiles = omega (arith, step.1, later.tiles, size_append (says g x) (along turn says last left (g + 1) y)) }
      pick (stop r) e more f = absurd (stops g x r e f)
