-- What the record says of a bench caption. Document 02, C-13: 'the record's yes still tells that one is there, so that nobody thinks a scan never had one'. A
-- statement of one reading of the stream s with the record r, which `Reads` gives.
use Rattle.std.specs.Prelude.{true, List, ◌↔◌, ◌≡◌, ℕ}
use Rattle.header.specs.Occurrence.{IsCaption, StandsBefore}
use Rattle.reader.specs.Page.{header_of}
use Rattle.reader.specs.declared.page.Page.{Page}

-- yes exactly where the page is read, and an extension of type 0x8B01 stands before its first slice header. A refusal's record says no
abbrev pub CaptionTold : List ℕ → Page → Type 0
CaptionTold s r = (r.caption ≡ true) ↔ ((r.answer ≡ 0) × StandsBefore s (IsCaption s) (header_of s).slice)
