-- The subpackets' stretches and the tables of checks, as the code has them. Assumes nothing.
use Rattle.std.specs.Prelude.{Result, Ok}
use mathlib.Core.Path.{◌≡◌, refl, sym, ap, ◌∙◌}
use mathlib.Core.Bool.{Bool, true, false, cond}
use mathlib.Core.List.{List, [], ◌∷◌, ◌++◌}
use Prim.Native.Nat.{ℕ, ◌+◌, ◌-◌, ◌^◌, ◌≤◌, ◌<◌}
use native.Mathlib.Omega.{arith}
use lib.Dec.{eqb}
use lib.IntN.{ℤ}
use Rattle.whole.specs.Numbers.{ceil_div}
use Rattle.rows.specs.Rows.{check, ample, first, then, broken, answered, Fine, Refused, Verdict}
use Rattle.rows.specs.declared.Row.TheVariants.{Length, Mode}
use Rattle.rows.specs.declared.Field.TheVariants.{Packet, Dr, Significance, Counts, Data, Signs}
use Rattle.rows.specs.declared.Check.{Check}
use Rattle.rows.proofs.Tables.{held, append_fine, first_append}
use Rattle.bits.specs.Packet.{header_bytes}
use Rattle.bits.specs.declared.packet.PacketHeader.{PacketHeader}
use Rattle.layout.specs.Slots.{candidates}
use Rattle.counts.specs.declared.Counted.{Counted}
use Rattle.counts.specs.Lines.{Line as LineCounts}
use Rattle.values.specs.declared.Next.{Next}
use Rattle.packets.specs.declared.Setting.{Setting}
use Rattle.packets.specs.declared.Precinct.{Precinct}
use Rattle.packets.specs.declared.Parts.{Parts}
use Rattle.packets.specs.Precincts.{stretch}
use Rattle.packets.specs.Passes.{marks, packet_counts, packet_values}
use Rattle.packets.specs.Packets.{sign_length, flag_checks, head, Lsig, sig_at, cnt_at, dat_at, Lsign, head_checks, count_checks, data_checks, after_values, values_by, counts_of}
use Rattle.packets.specs.Pieces.{sign_content}
use Rattle.packets.specs.Steps.{Working, data_row, IsParts, bound_flag, signs_in, IsSigned}
use Rattle.packets.proofs.LinePasses.{standing_still}

pub signs_most : (c : Setting) (h : PacketHeader) → sign_length c h ≤ h.lsgn
signs_most c h = by c.fs refl
  where
    by : (b : Bool) → c.fs ≡ b → sign_length c h ≤ h.lsgn
    by true e = rw e (omega arith)
    by false e = rw e (omega arith)

pub working_still : {s : List ℕ} {c : Setting} {p : Precinct} {slot n k : ℕ} → Working s c p slot n → k ≡ n → Working s c p slot k
working_still h e = record { within = h.within; standing = standing_still h.standing e }

-- the header's checks behind the raw flag's
abbrev pub behind_flag : List ℕ → Setting → Precinct → ℕ → ℕ → List Check
behind_flag s c p slot at =
    check Length (sig_at s c p slot at) Significance (Lsig s c p slot at) 0 (p.end - sig_at s c p slot at)
    ∷ check Length (cnt_at s c p slot at) Counts (head s c p slot at).lcnt 0 (p.end - cnt_at s c p slot at)
    ∷ []

module _ (s : List ℕ) (c : Setting) (p : Precinct) (slot at : ℕ) where
  -- ---- the places

  pub parts_are : {h : PacketHeader} {b n k g : ℕ} → h ≡ head s c p slot at → b ≡ header_bytes c.widths
      → n ≡ marks s c p slot (eqb h.dr 1) (candidates c.shape slot) → k ≡ ceil_div n 8 → g ≡ sign_length c h
      → at + b + k + h.lcnt + h.ldat + g < 2 ^ 40
      → IsParts s c p slot at
      (record {
        at = at;
        raw = eqb h.dr 1;
        sig = at + b;
        cnt = at + b + k;
        dat = at + b + k + h.lcnt;
        sgn = at + b + k + h.lcnt + h.ldat;
        past = at + b + k + h.lcnt + h.ldat + g;
      })
  unfolding Lsig
  parts_are e eb en ek eg small =
      let flags = en ∙ ap (λ (h : PacketHeader). marks s c p slot (eqb h.dr 1) (candidates c.shape slot)) e in
      let inferred = ek ∙ ap (λ (n : ℕ). ceil_div n 8) flags in
      let signs = eg ∙ ap (sign_length c) e in
      record {
        place = refl;
        raw = (λ i. eqb (e i).dr 1);
        sig = (λ i. at + eb i);
        cnt = (λ i. at + eb i + inferred i);
        dat = (λ i. at + eb i + inferred i + (e i).lcnt);
        sgn = (λ i. at + eb i + inferred i + (e i).lcnt + (e i).ldat);
        past = (λ i. at + eb i + inferred i + (e i).lcnt + (e i).ldat + signs i);
        small = small;
      }

  -- ---- the header

  module _ {h : PacketHeader} {parts : Parts} (e : h ≡ head s c p slot at) (is : IsParts s c p slot at parts) where
    -- `flag` is C.3's rule as the code has it (`flags_table`)
    pub head_table : (raws : List ℕ) {b lo hi sig cnt : ℕ} {v : Verdict} → b ≡ header_bytes c.widths → lo ≡ bound_flag c slot raws 0 → hi ≡ bound_flag c slot raws 1
        → first (check Mode at Dr (head s c p slot at).dr (bound_flag c slot raws 0) (bound_flag c slot raws 1) ∷ []) ≡ first (flag_checks s c p slot at raws)
        → sig ≡ p.end - parts.sig → cnt ≡ p.end - parts.cnt
        → v ≡ first (
        check Length p.at Packet b 0 (p.end - at)
        ∷ check Mode at Dr h.dr lo hi
        ∷ check Length parts.sig Significance (parts.cnt - parts.sig) 0 sig
        ∷ check Length parts.cnt Counts h.lcnt 0 cnt
        ∷ [])
        → v ≡ first (head_checks s c p slot at raws)
    head_table raws {v = v} eb lo hi flag sig cnt f =
        let left = sig ∙ ap (λ (n : ℕ). p.end - n) is.sig in
        let rest = cnt ∙ ap (λ (n : ℕ). p.end - n) is.cnt in
        let long : parts.cnt - parts.sig ≡ Lsig s c p slot at = omega (arith, is.sig, is.cnt) in
        let header = check Length p.at Packet (header_bytes c.widths) 0 (p.end - at) in
        let own = check Mode at Dr (head s c p slot at).dr (bound_flag c slot raws 0) (bound_flag c slot raws 1) in
        let joins = first_append (own ∷ []) (behind_flag s c p slot at) ∙ (λ i. then (flag i) (first (behind_flag s c p slot at))) ∙ sym (first_append (flag_checks s c p slot at raws) (behind_flag s c p slot at)) in
        f ∙ (λ i. first (
        check Length p.at Packet (eb i) 0 (p.end - at)
        ∷ check Mode at Dr (e i).dr (lo i) (hi i)
        ∷ check Length (is.sig i) Significance (long i) 0 (left i)
        ∷ check Length (is.cnt i) Counts (e i).lcnt 0 (rest i)
        ∷ []))
        ∙ (λ i. cond (broken header) (Refused header) (joins i))

  -- past the header the counts' stretch lies in the precinct
  pub head_inside : (raws : List ℕ) → at ≤ p.end → first (head_checks s c p slot at raws) ≡ Fine → dat_at s c p slot at ≤ p.end
  head_inside raws h e =
      let header = check Length p.at Packet (header_bytes c.widths) 0 (p.end - at) in
      let both = append_fine (header ∷ []) (flag_checks s c p slot at raws ++ behind_flag s c p slot at) e in
      let t = held (behind_flag s c p slot at) (append_fine (flag_checks s c p slot at raws) (behind_flag s c p slot at) both.1).1 in
      omega (arith, (held (header ∷ []) both.0).0.most, t.0.most, t.1.0.most)

  module _ {parts : Parts} (is : IsParts s c p slot at parts) where
    -- the lengths are the differences of the places
    long_sig : parts.cnt - parts.sig ≡ Lsig s c p slot at
    long_sig = omega (arith, is.sig, is.cnt)

    pub long_cnt : parts.dat - parts.cnt ≡ (head s c p slot at).lcnt
    long_cnt = omega (arith, is.cnt, is.dat)

    pub long_dat : parts.sgn - parts.dat ≡ (head s c p slot at).ldat
    long_dat = omega (arith, is.dat, is.sgn)

    pub long_sgn : parts.past - parts.sgn ≡ Lsign s c p slot at
    long_sgn = omega (arith, is.sgn, is.past)

    -- ---- the counts

    pub counts_are : (cells : List ℤ) {y : LineCounts × List ℤ}
        → packet_counts s c p slot (stretch s parts.cnt (parts.dat - parts.cnt)) (stretch s parts.sig (parts.cnt - parts.sig)) parts.raw cells ≡ y
        → counts_of s c p slot at cells ≡ y
    counts_are cells f =
        (λ i. packet_counts s c p slot (stretch s (sym is.cnt i) (sym long_cnt i)) (stretch s (sym is.sig i) (sym long_sig i)) (sym is.raw i) cells) ∙ f

    -- ---- behind the counts

    -- `data_row` gives the checks of counts that are done
    pub done_table : {line : LineCounts} {k : Counted} {bytes : ℕ} {v : Verdict} → line ≡ Ok k → bytes ≡ ceil_div k.need 2 → v ≡ first (data_row p parts bytes)
        → v ≡ first (count_checks s c p slot at line ++ data_checks s c p slot at line)
    done_table e b f =
        let rest = ap (λ (n : ℕ). p.end - n) is.sgn in
        f ∙ (λ i. first (
        check Length (is.dat i) Data (long_dat i) 0 (p.end - is.dat i)
        ∷ check Length (is.dat i) Data (long_dat i) (b i) ample
        ∷ check Length (is.sgn i) Signs (long_sgn i) 0 (rest i)
        ∷ []))
        ∙ (λ i. first (count_checks s c p slot at (sym e i) ++ data_checks s c p slot at (sym e i)))

    pub done_inside : {line : LineCounts} {k : Counted} {v : Verdict} → line ≡ Ok k → v ≡ first (count_checks s c p slot at line ++ data_checks s c p slot at line)
        → parts.dat ≤ p.end → v ≡ Fine → parts.past ≤ p.end
    done_inside {k = k} e f h g =
        let t = held (data_checks s c p slot at (Ok k)) ((λ i. first (count_checks s c p slot at (sym e i) ++ data_checks s c p slot at (sym e i))) ∙ sym f ∙ g) in
        omega (arith, t.0.most, t.1.1.0.most, is.dat, is.sgn, is.past)

    -- ---- the values

    pub values_are : (cells : List ℤ) {next : Next} {cells' : List ℤ} {used : ℕ} {v : Verdict}
        → packet_values c p slot (stretch s parts.dat (parts.sgn - parts.dat)) (stretch s parts.sgn (parts.past - parts.sgn)) cells ≡ (next, cells')
        → used ≡ ceil_div next.sign 8 → v ≡ first (check Length parts.sgn Signs (parts.past - parts.sgn) used ample ∷ [])
        → values_by s c p slot at Fine cells ≡ (v, cells')
    values_are cells {next} {cells'} f u g =
        (λ i. after_values s c p slot at (packet_values c p slot (stretch s (sym is.dat i) (sym long_dat i)) (stretch s (sym is.sgn i) (sym long_sgn i)) cells))
        ∙ ap (after_values s c p slot at) f
        ∙ (λ i. (sym (g ∙ (λ j. first (check Length (is.sgn j) Signs (long_sgn j) (u j) ample ∷ []))) i, cells'))

    pub signs_are : (cells : List ℤ) {next : Next} {cells' : List ℤ} {used : ℕ}
        → packet_values c p slot (stretch s parts.dat (parts.sgn - parts.dat)) (stretch s parts.sgn (parts.past - parts.sgn)) cells ≡ (next, cells')
        → used ≡ ceil_div next.sign 8
        → used ≡ signs_in s c p slot at cells
    signs_are cells f u =
        u ∙ (λ i. sign_content (sym f i).0)
        ∙ (λ i. sign_content (packet_values c p slot (stretch s (is.dat i) (long_dat i)) (stretch s (is.sgn i) (long_sgn i)) cells).0)

  -- what is answered behind the row of the signs' length
  pub signed : (cells : List ℤ) {v : Verdict} {used : ℕ} {r : Result ℕ Check} {cells' : List ℤ} → values_by s c p slot at Fine cells ≡ (v, cells')
      → used ≡ signs_in s c p slot at cells → r ≡ answered v used → IsSigned s c p slot at cells r cells'
  signed cells left signs e = record { read = e ∙ (λ i. answered (sym left i).0 (signs i)); left = λ i. (sym left i).1 }
