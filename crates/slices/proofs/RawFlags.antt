-- C.3 of an accepted precinct, in its own words: where Rl = 0, two packets that have a line of the same band have the same raw flag. Assumes nothing.
use Rattle.std.specs.Prelude.{Ok, Err}
use Prim.Native.Nat.{ℕ, ◌+◌, ◌≤◌, ◌<◌}
use mathlib.Core.Path.{◌≡◌, refl, sym, ◌∙◌}
use mathlib.Core.Bool.{Bool, true, false, cond}
use mathlib.Core.List.{List, [], ◌∷◌}
use native.Mathlib.Decide.{dec_lt}
use native.Mathlib.Omega.{arith}
use lib.IntN.{ℤ}
use lib.ListN.{length, get_or, set, length-set}
use lib.Seq.{get_or-set_same, get_or-set_other}
use Rattle.loops.proofs.Before.{before_carries}
use Rattle.rows.specs.Rows.{check, first, Fine, Verdict}
use Rattle.rows.specs.declared.Check.{Check}
use Rattle.rows.specs.declared.Row.TheVariants.{Mode}
use Rattle.rows.specs.declared.Field.TheVariants.{Dr}
use Rattle.rows.proofs.Tables.{append_fine, each_fine, held}
use Rattle.layout.specs.Built.{Built}
use Rattle.layout.specs.Slots.{slots, candidates, sharing}
use Rattle.layout.proofs.Slots.{slots_most}
use Rattle.packets.specs.declared.Setting.{Setting}
use Rattle.packets.specs.declared.Precinct.{Precinct}
use Rattle.packets.specs.Packets.{any_line, head, flag_checks, head_checks, counts_by, packet}
use Rattle.packets.proofs.Stretches.{behind_flag}
use Rattle.slices.specs.Precinct.{precinct_at, body, no_flags, Packing, packet_turn, precinct}
use Rattle.slices.specs.Reached.{before_packet, raw_flag}
use Rattle.slices.proofs.PrecinctLaws.{clash}
use Rattle.slices.proofs.Reaching.{precinct_packet, precinct_empty}

-- the checks behind the first of a table, whatever that one is
abbrev later : List Check → List Check
later [] = []
later (c ∷ cs) = cs

later_fine : (t : List Check) → first t ≡ Fine → first (later t) ≡ Fine
later_fine [] e = e
later_fine (c ∷ cs) e = (append_fine (c ∷ []) cs e).1

-- an accepted packet has the flag of each earlier one with which it shares a band
module _ (s : List ℕ) (c : Setting) (p : Precinct) (slot at : ℕ) (raws : List ℕ) (cells : List ℤ) where
  head_fine : (packet s c p slot at raws cells).0 ≡ Fine → first (head_checks s c p slot at raws) ≡ Fine
  unfolding packet
  head_fine = by (first (head_checks s c p slot at raws))
    where
      by : (v : Verdict) → (counts_by s c p slot at v cells).0 ≡ Fine → v ≡ Fine
      by (Ok _) e = refl
      by (Err k) e = clash e

  pub packet_flag : (packet s c p slot at raws cells).0 ≡ Fine → c.rl ≡ false → (k : ℕ) → k < slot → sharing c.shape p.row slot k ≡ true
      → (head s c p slot at).dr ≡ get_or raws k 0
  unfolding flag_checks
  packet_flag fine rl k l shared =
      let flags = (append_fine (flag_checks s c p slot at raws) (behind_flag s c p slot at) (later_fine (head_checks s c p slot at raws) (head_fine fine))).0 in
      let one = each_fine slot f (rw rl at flags) k l in
      let h = (held (own k ∷ []) (rw shared at one)).0 in
      omega (arith, h.least, h.most)
    where
      own : ℕ → Check
      own k = check Mode at Dr (head s c p slot at).dr (get_or raws k 0) (get_or raws k 0)

      f : ℕ → List Check
      f k = cond (sharing c.shape p.row slot k) (own k ∷ []) []

module _ (s : List ℕ) (c : Setting) (built : Built c.shape) (row column at : ℕ) (top : Bool) (cells : List ℤ) (fine : (precinct s c row column at top cells).0 ≡ Fine) where
  abbrev state : ℕ → Packing s c row column at
  state g = before_packet s c row column at cells g

  abbrev there : ℕ → Type 0
  there k = any_line c (precinct_at s c row column at) k (candidates c.shape k) ≡ true

  module _ (k : ℕ) (h : k < slots c.shape) (any : there k) where
    abbrev Carries : ℕ → Packing s c row column at → Type 0
    Carries g x = (length x.1 ≡ 10) × (k < g → get_or x.1 k 0 ≡ raw_flag s c row column at cells k)

    flag_carries : (g : ℕ) → g < slots c.shape → Carries g (state g) → Carries (g + 1) (state (g + 1))
    flag_carries g l q = by (any_line c (precinct_at s c row column at) g (candidates c.shape g)) refl
      where
        by : (b : Bool) → any_line c (precinct_at s c row column at) g (candidates c.shape g) ≡ b → Carries (g + 1) (state (g + 1))
        by true e =
            rw (precinct_packet s c row column at top cells fine g l e).next
            (length-set (state g).1 g (raw_flag s c row column at cells g) ∙ q.0, λ u. pick (dec_lt k g) u)
          where
            pick : Dec (k < g) → k < g + 1 → get_or (set (state g).1 g (raw_flag s c row column at cells g)) k 0 ≡ raw_flag s c row column at cells k
            pick (yes before) u = get_or-set_other (state g).1 g k (raw_flag s c row column at cells g) 0 (λ z. omega arith) ∙ q.1 before
            pick (no after) u =
                let eq : g ≡ k = omega arith in
                rw eq (get_or-set_same (state k).1 k (raw_flag s c row column at cells k) 0 (omega (arith, slots_most c.shape built, rw eq at q.0)))
        by false e = rw (precinct_empty s c row column at top cells fine g l e) (q.0, λ u. pick (dec_lt k g) u)
          where
            pick : Dec (k < g) → k < g + 1 → get_or (state g).1 k 0 ≡ raw_flag s c row column at cells k
            pick (yes before) u = q.1 before
            pick (no after) u =
                let eq : g ≡ k = omega arith in
                let both : true ≡ false = sym any ∙ (rw eq at e) in
                let z : ◌≡◌ {A = ℕ} 0 1 = cc in
                absurd (omega arith)

    -- behind a packet its flag is kept
    pub flag_kept : (g : ℕ) → g ≤ slots c.shape → k < g → get_or (state g).1 k 0 ≡ raw_flag s c row column at cells k
    flag_kept g b l =
        (before_carries (packet_turn s c row column at) (body s c row column at, no_flags s c row column at, cells) Carries g (refl, λ u. absurd (omega arith))
        (λ n m. flag_carries n (omega arith))).1 l

  -- 'for all precincts p and all packets s and s', Dr[p,s] == Dr[p,s'] if there is a band b and line indices λ and λ' such that I[p,λ,b,s] = 1 and
  -- I[p,λ',b,s'] = 1'
  pub raw_flags : c.rl ≡ false → (k k' : ℕ) → k < slots c.shape → k' < k → there k → there k' → sharing c.shape row k k' ≡ true
      → raw_flag s c row column at cells k ≡ raw_flag s c row column at cells k'
  raw_flags rl k k' h l any any' shared =
      packet_flag s c (precinct_at s c row column at) k (state k).0 (state k).1 (state k).2
      (precinct_packet s c row column at top cells fine k h any).accepted rl k' l shared
      ∙ flag_kept k' (omega arith) any' k (omega arith) l
