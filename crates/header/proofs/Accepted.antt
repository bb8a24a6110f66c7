-- An accepted header: what its walk has kept and seen, said of the stream. Assumes nothing.
use Prim.Native.Nat.{ℕ, ◌+◌}
use mathlib.Core.Bool.{true}
use mathlib.Core.List.{List}
use mathlib.Core.Path.{◌≡◌, refl, sym, subst, ◌∙◌}
use native.Mathlib.Omega.{arith}
use Rattle.rows.specs.Rows.{first, Fine, Verdict}
use Rattle.picture.specs.Markers.{CDT, WGT, CRG}
use Rattle.picture.specs.Opening.{picture_place, opening_checks, Opened}
use Rattle.picture.specs.Picture.{picture_at}
use Rattle.picture.proofs.Laws.{opened}
use Rattle.header.specs.Accepted.{Accepted}
use Rattle.header.specs.Header.{four, component_of, weights_of, header_in, walk_by, header_by, walk_of, reading_of}
use Rattle.header.specs.Occurrence.{Marked, AtMostOne, Occurs}
use Rattle.header.specs.Turns.{walk}
use Rattle.header.specs.declared.walk.Walk.{Walk}
use Rattle.header.proofs.Chain.{Once, unseen, seen, Chain, once_one, walk_chain}
use Rattle.header.proofs.Ranges.{sampled_at, columns_at, gains_at}
use Rattle.header.proofs.Sound.{End, Sound, walk_done, walk_sound}
use Rattle.header.proofs.Whole.{opening_fine}

-- ---- which segments stand there

module _ (s : List ℕ) (n p : ℕ) where
  at_most_one : (P : ℕ → Type 0) → Once s P n p → AtMostOne P n
  at_most_one P (unseen e h) j k l m a b = absurd (h j l a)
  at_most_one P (seen i o e) j k l m a b = o.only j l a ∙ sym (o.only k m b)

occurs : (s : List ℕ) (w : Walk) → Chain s w.at w.seen → End s w → Occurs s (header_in s (picture_at s (picture_place s)) w.seen w.at)
occurs s w c e =
    let h = picture_at s (picture_place s) in
    let n = c.count in
    let t = once_one s (Marked s CDT) n c.cdt e.cdt in
    let u = once_one s (Marked s WGT) n c.wgt e.wgt in
    let b = c.behind u.0 u.1.before u.1.is in
    let same : b.0 ≡ t.0 = t.1.only b.0 (omega (arith, b.1, u.1.before)) b.2 in
    record {
      picture = refl;
      count = n;
      slice = c.here;
      marker = rw (← c.here) e.marker;
      kinds = c.kinds;
      cdt = t.0;
      table = t.1;
      wgt = u.0;
      weights = u.1;
      behind = omega (arith, same, b.1);
      registration = at_most_one s n w.seen.crg (Marked s CRG) c.crg;
      depth = λ i. four (λ k. (component_of s h (t.2 i) k).depth);
      sx = λ i. four (λ k. (component_of s h (t.2 i) k).sx);
      sy = λ i. four (λ k. (component_of s h (t.2 i) k).sy);
      gains = λ i. (weights_of s h (t.2 i) (u.2 i)).gains;
      priorities = λ i. (weights_of s h (t.2 i) (u.2 i)).priorities;
      caption = c.caption;
    }

-- ---- the header

module _ (s : List ℕ) (o : Opened s (picture_at s (picture_place s)) (picture_place s)) where
  header_in_lem : (w : Walk) → Sound s (picture_at s (picture_place s)) w → Chain s w.at w.seen → End s w
      → Accepted s (header_in s (picture_at s (picture_place s)) w.seen w.at)
  header_in_lem w i c e =
      let h = picture_at s (picture_place s) in
      let x = w.seen in
      let t = i.table e.cdt in
      record {
        ranges = record { built = o.built; each = sampled_at s h x.cdt o.built t; columns = columns_at s h x.cdt o.built t; gains = gains_at s h x.cdt x.wgt (i.weights e.wgt).1 };
        occurs = occurs s w c e;
        whole = o.whole;
        short = o.short;
        slice = e.slice;
      }

-- a stream that is accepted up to and with its first slice marker
pub accepted_header : (s : List ℕ) → (reading_of s).verdict ≡ Fine → Accepted s (reading_of s).header
unfolding reading_of
accepted_header s e =
    let p = picture_place s in
    let h = picture_at s p in
    let v = opening_fine (first (opening_checks s)) s h p e in
    let o = opened s v in
    let same : walk_of s ≡ walk s h (p + 28) = λ i. walk_by (v i) s h p in
    let i = subst (Sound s h) (sym same) (walk_sound s h (p + 28)) in
    let c = subst (λ (w : Walk). Chain s w.at w.seen) (sym same) (walk_chain s h) in
    let d : (walk_of s).done ≡ true = (λ k. (same k).done) ∙ walk_done s h (p + 28) in
    subst (λ (v : Verdict). Accepted s (header_by v s h (walk_of s))) (sym e) (header_in_lem s o (walk_of s) i c (i.end d e))
