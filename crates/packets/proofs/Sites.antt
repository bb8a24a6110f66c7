-- Where a packet is refused: nowhere past the stream in which its precinct ends. Assumes nothing.
use Rattle.std.specs.Prelude.{Ok, Err}
use mathlib.Core.Path.{◌≡◌, refl}
use mathlib.Core.Bool.{Bool, true, false, cond}
use mathlib.Core.List.{List, [], ◌∷◌, ◌++◌}
use Prim.Native.Nat.{ℕ, ◌+◌, ◌≤◌}
use native.Mathlib.Omega.{arith}
use lib.IntN.{ℤ}
use lib.ListN.{get_or}
use lib.Pow.{pow_pos}
use Rattle.rows.specs.Rows.{check, first, each, Fine, Verdict}
use Rattle.rows.specs.declared.Check.{Check}
use Rattle.rows.specs.declared.Row.TheVariants.{Mode}
use Rattle.rows.specs.declared.Field.TheVariants.{Dr}
use Rattle.rows.proofs.Tables.{held}
use Rattle.rows.proofs.Sites.{Inside, Sited, sited, sited_append, sited_each}
use Rattle.layout.specs.Slots.{sharing}
use Rattle.counts.specs.Lines.{Line as LineCounts}
use Rattle.counts.specs.declared.group.Fault.TheVariants.{Cut, High, Long}
use Rattle.counts.specs.Lines.{Founded}
use Rattle.packets.specs.declared.Setting.{Setting}
use Rattle.packets.specs.declared.Precinct.{Precinct}
use Rattle.packets.specs.Packets.{head, sgn_at, dat_at, flag_checks, head_checks, count_checks, data_checks, sign_checks, values_by, after_counts, counts_by, packet, counts_of}
use Rattle.packets.proofs.Stretches.{behind_flag, head_inside}
use Rattle.packets.proofs.Laws.{counts_founded}

-- n is the stream's length, or any other bound of the precinct's place and end
module _ (s : List ℕ) (c : Setting) (p : Precinct) (slot at n : ℕ) (from : p.at ≤ n) (to : p.end ≤ n) where
  one_sited : (k : Check) → k.1 ≤ n → (b : Bool) → Sited n (cond b (k ∷ []) [])
  one_sited k h true = (h, λ holds. tt)
  one_sited k h false = tt

  flags_sited : (raws : List ℕ) → at ≤ n → Sited n (flag_checks s c p slot at raws)
  unfolding flag_checks
  flags_sited raws h = by c.rl
    where
      f : ℕ → List Check
      f = λ k. cond (sharing c.shape p.row slot k) (check Mode at Dr (head s c p slot at).dr (get_or raws k 0) (get_or raws k 0) ∷ []) []

      by : (b : Bool) → Sited n (cond b [] (each slot f))
      by true = tt
      by false = sited_each n slot f (λ k _. one_sited _ h (sharing c.shape p.row slot k))

  -- the header, which begins in the precinct: a length that fits has the next field begin there too
  head_sited : (raws : List ℕ) → at ≤ p.end → Sited n (head_checks s c p slot at raws)
  head_sited raws h = (
    from,
    λ header.
        sited_append n (flag_checks s c p slot at raws) (behind_flag s c p slot at) (flags_sited raws (omega arith)) (λ e.
        (omega arith, λ sig. (omega arith, λ cnt. tt))),
  )

  -- the signs, which are judged where nothing is refused before them
  values_sited : (v : Verdict) (cells : List ℤ) → Inside n v → (v ≡ Fine → sgn_at s c p slot at ≤ n) → Inside n (values_by s c p slot at v cells).0
  values_sited (Ok _) cells i k = sited n (sign_checks s c p slot at _) (k refl, λ sgn. tt)
  values_sited (Err r) cells i k = i

  -- behind the header, where the counts' stretch lies in the precinct
  module _ (h : dat_at s c p slot at ≤ p.end) where
    counted_sited : (k : LineCounts) → Sited n (count_checks s c p slot at k ++ data_checks s c p slot at k)
    counted_sited (Ok k) = (omega arith, λ dat. (omega arith, λ full. (omega arith, λ sgn. tt)))
    counted_sited (Err Cut) = (omega arith, λ held. tt)
    counted_sited (Err (High m)) = (omega arith, λ held. tt)
    counted_sited (Err (Long n)) = (omega arith, λ held. tt)

    signs_begin : (k : LineCounts) → Founded c.br k → first (count_checks s c p slot at k ++ data_checks s c p slot at k) ≡ Fine → sgn_at s c p slot at ≤ n
    signs_begin (Ok k) f e = omega (arith, (held (data_checks s c p slot at (Ok k)) e).0.most)
    signs_begin (Err Cut) f e = absurd (omega (arith, (held (count_checks s c p slot at (Err Cut)) e).0.least))
    signs_begin (Err (High m)) f e = absurd (omega (arith, f, (held (count_checks s c p slot at (Err (High m))) e).0.most))
    signs_begin (Err (Long n)) f e = absurd (omega (arith, f, (held (count_checks s c p slot at (Err (Long n))) e).0.most, pow_pos (c.br + 1)))

    after_sited : (x : LineCounts × List ℤ) → Founded c.br x.0 → Inside n (after_counts s c p slot at x).0
    after_sited x f =
        let t = count_checks s c p slot at x.0 ++ data_checks s c p slot at x.0 in
        values_sited (first t) x.1 (sited n t (counted_sited x.0)) (signs_begin x.0 f)

  counts_sited : (v : Verdict) (cells : List ℤ) → Inside n v → (v ≡ Fine → dat_at s c p slot at ≤ p.end) → Inside n (counts_by s c p slot at v cells).0
  counts_sited (Ok _) cells i h = after_sited (h refl) (counts_of s c p slot at cells) (counts_founded s c p slot _ _ _ cells)
  counts_sited (Err r) cells i h = i

  -- a packet that begins in its precinct
  pub packet_sited : (raws : List ℕ) (cells : List ℤ) → at ≤ p.end → Inside n (packet s c p slot at raws cells).0
  unfolding packet
  packet_sited raws cells h =
      let t = head_checks s c p slot at raws in
      counts_sited (first t) cells (sited n t (head_sited raws h)) (head_inside s c p slot at raws h)
