-- What an accepted precinct leaves: every coefficient of its bands, by the quantiser and its own T. No other precinct changes it. Assumes nothing.
use Prim.Native.Nat.{ℕ, ◌+◌, ◌-◌, ◌*◌, ◌/◌, ◌≤◌, ◌<◌}
use mathlib.Core.Path.{◌≡◌, refl, sym, ◌∙◌}
use mathlib.Core.Bool.{Bool, true, false, ◌&&◌}
use mathlib.Core.List.{List}
use native.Mathlib.Decide.{dec_lt}
use native.Mathlib.Omega.{arith}
use borrow.Author.Tests.{lt-ltb, ltb-true}
use lib.Dec.{ltb}
use lib.IntN.{ℤ, nat_abs}
use lib.ListN.{length, get_or}
use Rattle.whole.specs.Cells.{cell}
use Rattle.loops.proofs.Before.{before_carries}
use Rattle.rows.specs.Rows.{Fine}
use Rattle.quantiser.specs.Inverse.{coefficient_of, scaled, Carried}
use Rattle.layout.specs.Bands.{NL, Nβ, band, exists}
use Rattle.layout.specs.Built.{Built}
use Rattle.layout.specs.Precincts.{Npx, Npy, lines, most_lines, first_x, first_y, Member}
use Rattle.layout.specs.declared.Shape.{Shape}
use Rattle.layout.specs.Cells.{area, start, cell as place}
use Rattle.layout.specs.Slots.{slots, candidates, line_at}
use Rattle.layout.proofs.Cells.{Exists}
use Rattle.layout.proofs.Cover.{row_of_lem, member_line, line_member, column_of, column_member, width_some}
use Rattle.bits.specs.Groups.{Ng, held_m, held_t}
use Rattle.counts.proofs.Laws.{held_m_lem, held_t_lem}
use Rattle.packets.specs.declared.Setting.{Setting}
use Rattle.packets.specs.declared.Precinct.{Precinct}
use Rattle.packets.specs.Precincts.{T}
use Rattle.packets.specs.Ready.{Settled, Slotted}
use Rattle.packets.specs.Packets.{any_line, packet}
use Rattle.packets.proofs.Addresses.{There, same_line, same_counts, count_apart, Addressed, addressed}
use Rattle.packets.proofs.Lines.{band_below, band_parts}
use Rattle.packets.proofs.LinePasses.{T_most, any_later}
use Rattle.packets.proofs.Laws.{Apart, packet_length, packet_other}
use Rattle.packets.proofs.Counts.{stored_few, packet_holds}
use Rattle.packets.proofs.Coefficients.{packet_index, packet_carried}
use Rattle.slices.specs.Precinct.{precinct_at, body, no_flags, Packing, packet_turn, precinct, holds, raised}
use Rattle.slices.specs.Reached.{before_packet, packet_reads, planes_in, index_in}
use Rattle.slices.proofs.Reaching.{precinct_packet, precinct_empty, precinct_left}
use Rattle.slices.proofs.Laws.{precinct_keeps, raised_up, raised_holds}

-- B.8: the code groups of a line begin with the first of the band's columns in the precinct. The first column of the group of column x
abbrev group_start : Shape → ℕ → ℕ → ℕ → ℕ → ℕ
group_start s column β i x = first_x s column β i + Ng * ((x - first_x s column β i) / Ng)

-- and the cell of its bitplane count M and truncation position T, `area` cells behind its first coefficient
abbrev pub count_of : Shape → ℕ → ℕ → ℕ → ℕ → ℕ → ℕ
count_of s column β i x y = place s β i (group_start s column β i x) y + area s i

-- ---- coefficient n of a line

-- z is the coefficient of this index, and k the count cell of its group, in a precinct and a band with this T
pub record Named (c : Setting) (T M : ℕ) (index : ℤ) (z k : ℤ) : Type 0 where
  -- Annex D, E.3
  pub is : z ≡ scaled c.fq (coefficient_of c.uniform M T index)
  -- M − T planes carry the index
  pub carried : Carried M T (nat_abs index)
  -- the count cell holds M and T
  pub planes : held_m k ≡ M
  pub truncation : held_t k ≡ T

module _ (c : Setting) (settled : Settled c) {row column slot j : ℕ} (a : There c.shape row column slot j)
    (n : ℕ) (h : n < (line_at c.shape row column slot j).width) where
  abbrev coefficient_at : ℕ
  coefficient_at = (line_at c.shape row column slot j).cell + n * (line_at c.shape row column slot j).stride

  abbrev count_at : ℕ
  count_at =
      (line_at c.shape row column slot j).cell + 4 * (n / 4) * (line_at c.shape row column slot j).stride + (line_at c.shape row column slot j).area

  -- both cells are the same
  abbrev same : List ℤ → List ℤ → Type 0
  same l l' = (cell l coefficient_at ≡ cell l' coefficient_at) × (cell l count_at ≡ cell l' count_at)

  -- a line of another packet is apart from both its cells
  module _ {row' column' slot' j' : ℕ} (b : There c.shape row' column' slot' j') (other : row ≡ row' → column ≡ column' → slot ≡ slot' → ⊥) where
    apart_coefficient : Apart (line_at c.shape row' column' slot' j') coefficient_at
    apart_coefficient = record {
      coefficient = λ x l e. let q = same_line c.shape settled.shape a b n x h l e in other q.rows q.columns q.slots;
      count = λ x l e. count_apart c.shape settled.shape b a x n l h (sym e);
    }

    pub apart_count : Apart (line_at c.shape row' column' slot' j') count_at
    apart_count = record {
      coefficient = λ x l e. count_apart c.shape settled.shape a b (4 * (n / 4)) x (omega arith) l e;
      count = λ x l e. let q = same_counts c.shape settled.shape a b (4 * (n / 4)) x (omega arith) l e in other q.rows q.columns q.slots;
    }

  -- its precinct, at this place of a stream
  module _ (s : List ℕ) (at : ℕ) (down : row < Npy c.shape) where
    abbrev p : Precinct
    p = precinct_at s c row column at

    abbrev t : ℕ
    t = T c p (line_at c.shape row column slot j).band

    -- and another packet leaves its two cells
    packet_spares : (g from : ℕ) (raws : List ℕ) (cells : List ℤ) → g < slots c.shape → (slot ≡ g → ⊥) → same (packet s c p g from raws cells).1 cells
    packet_spares g from raws cells l other =
        let b : (i : ℕ) → i < candidates c.shape g → (line_at c.shape row column g i).present ≡ true → There c.shape row column g i =
        λ i m e. record { across = a.across; which = l; candidate = m; present = e } in (
          packet_other s c p g from raws cells coefficient_at (λ i m e. apart_coefficient (b i m e) (λ u v. other)),
          packet_other s c p g from raws cells count_at (λ i m e. apart_count (b i m e) (λ u v. other)),
        )

    any_here : any_line c p slot (candidates c.shape slot) ≡ true
    any_here = any_later c p slot j (candidates c.shape slot) a.candidate a.present

    module _ (top : Bool) (cells : List ℤ) (room : start c.shape c.shape.nc ≤ length cells) (fine : (precinct s c row column at top cells).0 ≡ Fine) where
      abbrev state : ℕ → Packing s c row column at
      state g = before_packet s c row column at cells g

      abbrev Carries : ℕ → Packing s c row column at → Type 0
      Carries g x = (length x.2 ≡ length cells) × (slot < g → same x.2 (packet_reads s c row column at cells slot).1)

      packet_carries : (g : ℕ) → g < slots c.shape → Carries g (state g) → Carries (g + 1) (state (g + 1))
      packet_carries g l q = by (any_line c p g (candidates c.shape g)) refl
        where
          by : (b : Bool) → any_line c p g (candidates c.shape g) ≡ b → Carries (g + 1) (state (g + 1))
          by true e =
              rw (precinct_packet s c row column at top cells fine g l e).next
              (packet_length s c p g (state g).0 (state g).1 (state g).2 ∙ q.0, λ u. pick (dec_lt slot g) u)
            where
              pick : Dec (slot < g) → slot < g + 1 → same (packet_reads s c row column at cells g).1 (packet_reads s c row column at cells slot).1
              pick (yes before) u =
                  let z = packet_spares g (state g).0 (state g).1 (state g).2 l (λ e. omega arith) in
                  (z.0 ∙ (q.1 before).0, z.1 ∙ (q.1 before).1)
              pick (no after) u =
                  let eq : g ≡ slot = omega arith in
                  rw eq (refl, refl)
          by false e = rw (precinct_empty s c row column at top cells fine g l e) (q.0, λ u. pick (dec_lt slot g) u)
            where
              pick : Dec (slot < g) → slot < g + 1 → same (state g).2 (packet_reads s c row column at cells slot).1
              pick (yes before) u = q.1 before
              pick (no after) u =
                  let eq : g ≡ slot = omega arith in
                  let any : true ≡ false = sym any_here ∙ (rw eq at e) in
                  let z : ◌≡◌ {A = ℕ} 0 1 = cc in
                  absurd (omega arith)

      pub carries : (g : ℕ) → g ≤ slots c.shape → Carries g (state g)
      carries g b =
          before_carries (packet_turn s c row column at) (body s c row column at, no_flags s c row column at, cells) Carries g (refl, λ l. absurd (omega arith))
          (λ k l. packet_carries k (omega arith))

      -- an accepted precinct leaves what the line's own packet leaves
      pub precinct_same : same (precinct s c row column at top cells).1 (packet_reads s c row column at cells slot).1
      precinct_same = rw (precinct_left s c row column at top cells fine) ((carries (slots c.shape) (omega arith)).1 a.which)

      own_fine : (packet_reads s c row column at cells slot).0 ≡ Fine
      own_fine = (precinct_packet s c row column at top cells fine slot a.which any_here).accepted

      own_room : start c.shape c.shape.nc ≤ length (state slot).2
      own_room = omega (arith, (carries slot (omega (arith, a.which))).0)

      -- by name
      pub precinct_named : Named c t (planes_in s c row column at cells slot j (n / 4)) (index_in s c row column at cells slot j n)
          (cell (precinct s c row column at top cells).1 coefficient_at) (cell (precinct s c row column at top cells).1 count_at)
      precinct_named =
          let slotted : Slotted c p slot = record { settled = settled; row = down; column = a.across; which = a.which } in
          let cells' = (state slot).2 in
          let M = planes_in s c row column at cells slot j (n / 4) in
          let few = stored_few c p slot slotted j (n / 4) a.candidate a.present (omega arith) s (state slot).0 cells' own_room in
          let holds = packet_holds c p slot slotted j (n / 4) a.candidate a.present (omega arith) s (state slot).0 cells' own_room (state slot).1 own_fine in
          rw (precinct_same.0, precinct_same.1)
          (record {
            is = packet_index c p slot slotted s (state slot).0 (state slot).1 cells' own_room own_fine j n a.candidate a.present h;
            carried = packet_carried c p slot slotted s (state slot).0 (state slot).1 cells' own_room own_fine j n a.candidate a.present h;
            planes = rw holds (held_m_lem M t few);
            truncation = rw holds (held_t_lem M t few (T_most c p (line_at c.shape row column slot j).band settled));
          })

-- ---- coefficient (x, y) of filter type β of component i

-- what a reading leaves of it, in the cells l and the largest T of each band, where p is its precinct
-- `M` is its group's bitplane count and `index` its index, as the stream has them
pub record Stored (c : Setting) (p : Precinct) (M : ℕ) (index : ℤ) (tops : List ℕ) (l : List ℤ) (i β x y : ℕ) : Type 0 where
  -- B.5: it belongs to p
  pub member : Member c.shape p.row p.column β i x y
  -- Annex D, E.3: its own cell holds the coefficient that M and T[p,b] make of its index, times 2^Fq; its group's count cell holds M and T[p,b]
  pub named : Named c (T c p (band c.shape β i)) M index (cell l (place c.shape β i x y)) (cell l (count_of c.shape p.column β i x y))
  -- document 01, distance rule 1: the band's largest T is no less
  pub largest : T c p (band c.shape β i) ≤ get_or tops (band c.shape β i) 0

-- a reading that leaves its two cells, and lowers no T
pub stored_still : {c : Setting} {p : Precinct} {M : ℕ} {index : ℤ} {tops : List ℕ} {l : List ℤ} {i β x y : ℕ} (tops' : List ℕ) (l' : List ℤ) → Stored c p M index tops l i β x y
    → cell l' (place c.shape β i x y) ≡ cell l (place c.shape β i x y)
    → cell l' (count_of c.shape p.column β i x y) ≡ cell l (count_of c.shape p.column β i x y)
    → get_or tops (band c.shape β i) 0 ≤ get_or tops' (band c.shape β i) 0 → Stored c p M index tops' l' i β x y
stored_still tops' l' q e f h =
    record { member = q.member; named = rw (e, f) q.named; largest = omega (arith, q.largest, h) }

-- a precinct that has a coefficient of a band holds the band
pub member_holds : (c : Setting) (p : Precinct) → Built c.shape → {i β x y : ℕ} → i < c.shape.nc → Exists c.shape i β x y
    → Member c.shape p.row p.column β i x y → holds c p (band c.shape β i) ≡ true
member_holds c p built {i} {β} {x} {y} h e m =
    let s = c.shape in
    let parts = band_parts s β i h in
    let row : p.row ≡ y / most_lines s β i = m.down ∙ row_of_lem s built β i h y in
    let some : 0 < lines s (y / most_lines s β i) β i = omega (arith, member_line s built β i h y e.row) in
    rw (parts.0, parts.1, row, e.there, lt-ltb 0 (lines s (y / most_lines s β i) β i) some)

-- and one that holds a band has a coefficient of it: its first column and line there. So the T that rule 1 takes are those of the 'precincts holding at
-- least one of its coefficients'
pub record Held (c : Setting) (p : Precinct) (i β : ℕ) : Type 0 where
  pub x : ℕ
  pub y : ℕ
  pub exists : Exists c.shape i β x y
  pub member : Member c.shape p.row p.column β i x y

pub both_true : (a b : Bool) → (a && b) ≡ true → (a ≡ true) × (b ≡ true)
both_true true b e = (refl, e)
both_true false b e = let z : ◌≡◌ {A = ℕ} 0 1 = cc in absurd (omega arith)

pub holds_some : (c : Setting) (p : Precinct) → Built c.shape → {i β : ℕ} → i < c.shape.nc → β < Nβ c.shape → p.column < Npx c.shape
    → holds c p (band c.shape β i) ≡ true → Held c p i β
holds_some c p built {i} {β} h type across e =
    let s = c.shape in
    let parts = band_parts s β i h in
    let e' : (exists s β i && ltb 0 (lines s p.row β i)) ≡ true = rw (parts.0, parts.1) at e in
    let both = both_true (exists s β i) (ltb 0 (lines s p.row β i)) e' in
    let some = ltb-true 0 (lines s p.row β i) both.1 in
    let x = first_x s p.column β i in
    let y = first_y s p.row β i in
    let down = line_member s built β i h p.row y (omega arith) (omega (arith, some)) in
    let width = width_some s built β i type h p.column across in
    let along = column_member s built β i type h p.column x across (omega arith) (omega (arith, width)) in
    record {
      x = x;
      y = y;
      exists = record { type = type; there = both.0; column = along.0; row = down.0 };
      member = record { down = sym (row_of_lem s built β i h y ∙ down.1); across = sym (column_of s built β i type h x ∙ along.1) };
    }

module _ (c : Setting) (settled : Settled c) {i β x y : ℕ} (h : i < c.shape.nc) (e : Exists c.shape i β x y) where
  module _ {row column : ℕ} (m : Member c.shape row column β i x y) where
    -- the line that it stands in
    abbrev pub address : Addressed c.shape row column i β x y (x - first_x c.shape column β i)
    address = addressed c.shape settled.shape h e m

    -- an accepted precinct leaves each of its coefficients
    pub precinct_coefficients : (s : List ℕ) (at : ℕ) (top : Bool) (tops : List ℕ) (cells : List ℤ) → row < Npy c.shape
        → start c.shape c.shape.nc ≤ length cells → NL c.shape ≤ length tops → (precinct s c row column at top cells).0 ≡ Fine
        → Stored c (precinct_at s c row column at) (planes_in s c row column at cells address.slot address.j ((x - first_x c.shape column β i) / 4))
        (index_in s c row column at cells address.slot address.j (x - first_x c.shape column β i)) (raised c (precinct_at s c row column at) (NL c.shape) tops)
        (precinct s c row column at top cells).1 i β x y
    precinct_coefficients s at top tops cells down room long fine =
        let p = precinct_at s c row column at in
        let a = address.there in
        let b = band_below c.shape β i h e.type in
        let q = precinct_named c settled a (x - first_x c.shape column β i) address.inside s at down top cells room fine in
        record {
          member = m;
          named = rw (address.band, address.count, address.coefficient) at q;
          largest = raised_holds c p (NL c.shape) (band c.shape β i) tops b (omega arith) (member_holds c p settled.shape h e m);
        }

    -- the lines of other precincts are apart from its two cells
    module _ {row' column' slot j : ℕ} (there : There c.shape row' column' slot j) (other : row ≡ row' → column ≡ column' → ⊥) where
      pub far_coefficient : Apart (line_at c.shape row' column' slot j) (place c.shape β i x y)
      far_coefficient =
          rw address.coefficient at
          (apart_coefficient c settled address.there (x - first_x c.shape column β i) address.inside there (λ r q z. other r q))

      pub far_count : Apart (line_at c.shape row' column' slot j) (count_of c.shape column β i x y)
      far_count =
          rw address.count at
          (apart_count c settled address.there (x - first_x c.shape column β i) address.inside there (λ r q z. other r q))

  -- and so another precinct leaves it
  pub precinct_leaves : {p : Precinct} {M : ℕ} {index : ℤ} {tops : List ℕ} {cells : List ℤ} (s : List ℕ) (row column at : ℕ) (top : Bool) → Stored c p M index tops cells i β x y
      → column < Npx c.shape → (p.row ≡ row → p.column ≡ column → ⊥) → band c.shape β i < length tops
      → Stored c p M index (raised c (precinct_at s c row column at) (NL c.shape) tops) (precinct s c row column at top cells).1 i β x y
  precinct_leaves {p} {tops = tops} {cells} s row column at top q k other few =
      stored_still (raised c (precinct_at s c row column at) (NL c.shape) tops) (precinct s c row column at top cells).1 q
      (still (place c.shape β i x y) (λ slot j t. far_coefficient q.member t other))
      (still (count_of c.shape p.column β i x y) (λ slot j t. far_count q.member t other))
      (raised_up c (precinct_at s c row column at) (NL c.shape) (band c.shape β i) tops few)
    where
      still : (n : ℕ) → ((slot j : ℕ) → There c.shape row column slot j → Apart (line_at c.shape row column slot j) n)
          → cell (precinct s c row column at top cells).1 n ≡ cell cells n
      still n apart =
          precinct_keeps s c (λ l. cell l n ≡ cell cells n) row column at
          (λ slot from raws l w d.
          packet_other s c (precinct_at s c row column at) slot from raws l n
          (λ j m u. apart slot j (record { across = k; which = w; candidate = m; present = u }))
          ∙ d)
          top cells refl
