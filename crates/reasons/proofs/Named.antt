-- Document 02, C-19, of the record: for an accepted page it names, of each component, where the component is coarsest, and nothing else could be named. Assumes nothing.
use Rattle.std.specs.Prelude.{Ok, Err}
use Prim.Native.Nat.{ℕ, ◌≤◌, ◌<◌}
use mathlib.Core.Path.{◌≡◌, refl, sym, ap, subst, ◌∙◌}
use mathlib.Core.List.{List}
use native.Mathlib.Omega.{arith}
use borrow.Author.Tests.{lt-ltb}
use lib.IntN.{ℤ}
use lib.ListN.{length}
use Rattle.whole.proofs.Lists.{listed_at}
use Rattle.rows.specs.Rows.{Fine, Verdict}
use Rattle.header.specs.declared.header.Header.{Header}
use Rattle.reader.specs.Settings.{setting_of}
use Rattle.reader.specs.Decoding.{begun, decoded}
use Rattle.reader.specs.Page.{header_of, verdict}
use Rattle.reasons.specs.declared.Coarse.{Coarse}
use Rattle.reasons.specs.declared.Why.{Why}
use Rattle.reasons.specs.Coarsest.{largest_of, band_of, precinct_number, nowhere, coarse_of, Coarsest}
use Rattle.reasons.specs.Why.{why_read, why_by, told_of, Explains, NamesCoarsest}
use Rattle.reasons.proofs.Choices.{coarsest_named}
use Rattle.reasons.proofs.Tops.{read_precinct}
use Rattle.reasons.proofs.Telling.{AllFine, all_fine}

-- what is told of a component that the page has
told_at : (s : List ℕ) (h : Header) (i : ℕ) → h.picture.nc ≤ 4 → i < h.picture.nc
    → told_of (why_read s h) i
    ≡ record {
      band = band_of s (setting_of h) h.slice i;
      precinct = precinct_number s (setting_of h) h.slice i;
      truncation = largest_of s (setting_of h) h.slice i;
    }
told_at s h i few l =
    listed_at 4 (coarse_of s (setting_of h) h.slice) nowhere i (omega arith) ∙ rw (lt-ltb i h.picture.nc l) refl

-- the record holds the verdict, whichever it is
verdict_told : (v : Verdict) (s : List ℕ) (h : Header) → (why_by v s h).verdict ≡ v
verdict_told (Ok _) s h = refl
verdict_told (Err k) s h = refl

-- of a page that is read
read_named : (s : List ℕ) (a w : ℕ) → AllFine s a w → NamesCoarsest s (why_read s (header_of s))
unfolding decoded
read_named s a w q =
    let h = header_of s in
    let built = q.opened.shape in
    record {
      components = refl;
      coarsest = λ i l.
          subst (λ (x : Coarse). Coarsest s (setting_of h) h.slice i x.band x.precinct x.truncation) (sym (told_at s h i built.few l))
          (coarsest_named s (setting_of h) built h.slice i l);
      precincts = read_precinct s (setting_of h) built (begun h) q.slices;
    }

module _ {s : List ℕ} {a : ℕ} {w w' : List ℤ} {r : Why} (e : Explains s a w r w') where
  pub verdict_named : r.verdict ≡ verdict s a (length w)
  verdict_named = ap (λ (y : Why). y.verdict) e.why ∙ verdict_told (verdict s a (length w)) s (header_of s)

  pub accepted_named : r.verdict ≡ Fine → NamesCoarsest s r
  accepted_named fine =
      let all = sym verdict_named ∙ fine in
      let is : r ≡ why_read s (header_of s) = e.why ∙ (λ i. why_by (all i) s (header_of s)) in
      subst (λ (y : Why). NamesCoarsest s y) (sym is) (read_named s a (length w) (all_fine s a (length w) all))
