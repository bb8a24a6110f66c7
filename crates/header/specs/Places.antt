-- One of the segments seen is set: its place or, of a bench caption, whether there is one. The others stay.
use Rattle.std.specs.Prelude.{ℕ, Bool}
use Rattle.segments.specs.declared.seen.Seen.{Seen}

abbrev pub set_cdt : ℕ → Seen → Seen
set_cdt p x = record { cdt = p; wgt = x.wgt; caption = x.caption; crg = x.crg; cwd = x.cwd }

abbrev pub set_wgt : ℕ → Seen → Seen
set_wgt p x = record { cdt = x.cdt; wgt = p; caption = x.caption; crg = x.crg; cwd = x.cwd }

abbrev pub set_caption : Bool → Seen → Seen
set_caption b x = record { cdt = x.cdt; wgt = x.wgt; caption = b; crg = x.crg; cwd = x.cwd }

abbrev pub set_crg : ℕ → Seen → Seen
set_crg p x = record { cdt = x.cdt; wgt = x.wgt; caption = x.caption; crg = p; cwd = x.cwd }

abbrev pub set_cwd : ℕ → Seen → Seen
set_cwd p x = record { cdt = x.cdt; wgt = x.wgt; caption = x.caption; crg = x.crg; cwd = p }
