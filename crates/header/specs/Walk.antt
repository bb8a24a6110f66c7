-- A.4: from the picture header to the first slice header, one segment after the other, in any order. This file has the step from one to the next; `Turns` has
-- the loop. What the walk comes to is said without it in `Occurrence`.
use Rattle.std.specs.Prelude.{ℕ, ◌+◌, Bool, true, false, ◌||◌, List, eqb, Ok, Err}
use Rattle.rows.specs.Rows.{first, Fine, Refused, Verdict}
use Rattle.picture.specs.Markers.{CAPTION}
use Rattle.picture.specs.Segment.{segment_at}
use Rattle.picture.specs.declared.picture.Picture.{Picture}
use Rattle.picture.specs.declared.segment.Segment.{Segment}
use Rattle.segments.specs.Segments.{kind_of, type_at, segment_checks}
use Rattle.segments.specs.declared.kinds.Kind.{Kind}
use Rattle.segments.specs.declared.kinds.Kind.TheVariants.{Components, Weights, Extension, Undecomposed, Registration, Unbuilt, Slice, Predicted, Unknown}
use Rattle.segments.specs.declared.seen.Seen.{Seen}
use Rattle.header.specs.Places.{set_cdt, set_wgt, set_caption, set_crg, set_cwd}
use Rattle.header.specs.declared.walk.Walk.{Walk}

-- A.3: the walk goes on behind the segment g, whose length counts its own two bytes and not the marker
abbrev pub behind : Segment → Seen → Walk
behind g x = record { at = g.at + 2 + g.size; done = false; verdict = Fine; seen = x }

-- or ends at a place, with a verdict
abbrev pub ended : Verdict → ℕ → Seen → Walk
ended v at x = record { at = at; done = true; verdict = v; seen = x }

-- A.4.11. Document 01: 'Bench captions use 0x8B01.' Document 02, C-13: such an extension 'is skipped as any vendor extension, and the record's yes still tells that
-- one is there'
abbrev pub is_caption : List ℕ → ℕ → Bool
is_caption s p = eqb (type_at s p) CAPTION

-- Table A.2: behind an accepted segment its place is known; behind an extension, whether one is a bench caption. The first slice header ends the walk; the kinds
-- below it are never accepted
abbrev pub accepted : Kind → List ℕ → Segment → Seen → Walk
accepted Components s g x = behind g (set_cdt g.at x)
accepted Weights s g x = behind g (set_wgt g.at x)
accepted Extension s g x = behind g (set_caption (is_caption s g.at || x.caption) x)
accepted Registration s g x = behind g (set_crg g.at x)
accepted Undecomposed s g x = behind g (set_cwd g.at x)
accepted Slice s g x = ended Fine g.at x
accepted (Unbuilt f) s g x = ended Fine g.at x
accepted Predicted s g x = ended Fine g.at x
accepted Unknown s g x = ended Fine g.at x

-- a refused segment ends it too
abbrev pub judged : Verdict → Kind → List ℕ → Segment → Seen → Walk
judged (Ok _) k s g x = accepted k s g x
judged (Err c) k s g x = ended (Refused c) g.at x

-- the segment at hand
unfoldable pub step : List ℕ → Picture → Walk → Walk
step s h w =
    let g = segment_at s w.at in
    judged (first (segment_checks s h w.seen g)) (kind_of g.marker) s g w.seen
