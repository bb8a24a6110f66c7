-- The shape of an accepted header is built: what Annex B's functions ask follows from the header's ranges. Assumes nothing.
use Rattle.std.specs.Prelude.{Ok, Err}
use Prim.Native.Nat.{ℕ, zero, suc, ◌*◌, ◌%◌, ◌^◌, ◌≤◌, ◌<◌}
use mathlib.Core.Path.{◌≡◌, refl, sym, ap, ◌∙◌}
use mathlib.Core.Bool.{Bool, cond}
use mathlib.Core.List.{List}
use native.Mathlib.Decide.{dec_lt}
use native.Mathlib.Nat.{le_trans}
use native.Mathlib.Omega.{arith}
use borrow.Author.Tests.{le-ltb}
use lib.ListN.{get_or}
use Rattle.rows.specs.declared.Check.{Check}
use Rattle.rows.specs.Rows.{answered, Fine, Refused, Verdict}
use Rattle.rows.proofs.Passing.{answered_ok}
use Rattle.picture.specs.Picture.{picture_at}
use Rattle.picture.specs.Opening.{picture_place}
use Rattle.picture.specs.declared.picture.Picture.{Picture}
use Rattle.segments.specs.Components.{component_at}
use Rattle.segments.specs.declared.components.Component.{Component}
use Rattle.segments.specs.declared.seen.Seen.{Seen}
use Rattle.layout.specs.declared.Shape.{Shape}
use Rattle.layout.specs.Bands.{sx, sy, Wc, Hc, log2}
use Rattle.layout.specs.Precincts.{largest}
use Rattle.layout.specs.Built.{Sampled, Built}
use Rattle.layout.proofs.Columns.{largest_past}
use Rattle.header.specs.Header.{four, no_component, component_of, header_in, header_by, walk_of, reading_of}
use Rattle.header.specs.declared.header.Header.{Header}
use Rattle.header.specs.Accepted.{largest as list_largest, Ranges}
use Rattle.header.proofs.Ranges.{four_at}
use Rattle.header.proofs.Accepted.{accepted_header}
use Rattle.shapes.specs.Shapes.{shape_of}

-- ---- entries past the components are 0

four_past : (f : ℕ → ℕ) (c : ℕ) → 4 ≤ c → get_or (four f) c 0 ≡ 0
four_past f zero h = absurd (omega arith)
four_past f (suc zero) h = absurd (omega arith)
four_past f (suc (suc zero)) h = absurd (omega arith)
four_past f (suc (suc (suc zero))) h = absurd (omega arith)
four_past f (suc (suc (suc (suc c)))) h = refl

module _ (s : List ℕ) (h : Picture) (cdt : ℕ) (g : Component → ℕ) where
  factor_past : g no_component ≡ 0 → (c : ℕ) → h.nc ≤ c → get_or (four (λ c. g (component_of s h cdt c))) c 0 ≡ 0
  factor_past none c l = pick (dec_lt c 4)
    where
      pick : Dec (c < 4) → get_or (four (λ c. g (component_of s h cdt c))) c 0 ≡ 0
      pick (yes q) =
          four_at (λ c. g (component_of s h cdt c)) c q
          ∙ ap (λ (t : Bool). g (cond t (component_at s cdt c) no_component)) (le-ltb c h.nc l) ∙ none
      pick (no q) = four_past (λ c. g (component_of s h cdt c)) c (omega arith)

-- a factor of at most 2 and of at most 2^n asks for at most n levels
few_levels : (b n : ℕ) → b ≤ 2 → b ≤ 2 ^ n → log2 b ≤ n
few_levels b zero h l = omega arith
few_levels b (suc n) h l = omega arith

-- the largest of four factors
largest_is : (f : ℕ → ℕ) → largest (λ c. get_or (four f) c 0) 4 ≡ list_largest 0 (four f)
unfolding largest
largest_is f = refl

-- ---- the whole

module _ (s : List ℕ) (h : Picture) (x : Seen) (slice : ℕ) (r : Ranges (header_in s h x slice)) where
  abbrev shape : Shape
  shape = shape_of (header_in s h x slice)

  sampled : (c : ℕ) → c < h.nc → Sampled shape c
  unfolding Wc Hc
  sampled c l =
      let k = r.each c l in
      record {
        across = k.sx.0;
        across_two = k.sx.1;
        down = k.sy.0;
        down_less = k.sy.1;
        enough = few_levels (sy shape c) h.nly (le_trans k.sy.1 k.sx.1) k.levels;
        parts = record { no_more = omega (arith, r.built.nly.0); two_across = k.across; two_down = k.down };
      }

  absent : (c : ℕ) → h.nc ≤ c → (sx shape c ≡ 0) × (sy shape c ≡ 0)
  absent c l = (factor_past s h x.cdt (λ k. k.sx) refl c l, factor_past s h x.cdt (λ k. k.sy) refl c l)

  widest : list_largest 0 shape.sx ≡ largest (sx shape) h.nc
  widest =
      sym (largest_is (λ c. (component_of s h x.cdt c).sx)) ∙ largest_past (sx shape) h.nc 4 r.built.nc.1 (λ c l. (absent c l).0)

  last_column : 0 < h.cw → largest (sx shape) h.nc * 2 ^ h.nlx ≤ h.wf % (8 * h.cw * largest (sx shape) h.nc * 2 ^ h.nlx)
  last_column u = rw (← widest) (r.columns u)

  table_built : Built shape
  table_built = record {
    wide = r.built.wf.0;
    narrow = r.built.wf.1;
    high = r.built.hf.0;
    low = r.built.hf.1;
    column = r.built.cw;
    slice = r.built.hsl.0;
    short = r.built.hsl.1;
    some = r.built.nc.0;
    few = r.built.nc.1;
    level = r.built.nlx.0;
    levels = r.built.nlx.1;
    down_levels = r.built.nly.1;
    no_more = r.built.nly.0;
    sampled = sampled;
    absent = absent;
    last_column = last_column;
  }

refused_fine : {A : Type 0} {c : Check} → Refused c ≡ Fine → A
refused_fine e = let z : ◌≡◌ {A = ℕ} 0 1 = cc in absurd (omega arith)

-- what is accepted is built
pub built : (s : List ℕ) → (reading_of s).verdict ≡ Fine → Built (shape_of (reading_of s).header)
unfolding reading_of
built s e = by (walk_of s).verdict e (accepted_header s e).ranges
  where
    by : (v : Verdict) → v ≡ Fine → Ranges (header_by v s (picture_at s (picture_place s)) (walk_of s)) → Built (shape_of (header_by v s (picture_at s (picture_place s)) (walk_of s)))
    by (Ok _) e r = table_built s (picture_at s (picture_place s)) (walk_of s).seen (walk_of s).at r
    by (Err c) e r = refused_fine e

-- what a reading of the header answers has a shape that is built
pub read_built : (s : List ℕ) {h : Header} → answered (reading_of s).verdict (reading_of s).header ≡ Ok h → Built (shape_of h)
read_built s e =
    let both = answered_ok (reading_of s).verdict (reading_of s).header e in
    rw (← both.1) (built s both.0)
