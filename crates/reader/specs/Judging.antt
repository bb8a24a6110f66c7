-- What a reading finds before it shows anything, for each of the four ways of reading: samples, marks and distances count by their number alone.
use Rattle.std.specs.Prelude.{Bool, List, ◌≡◌, ℕ, ◌*◌, ℤ, length, replicate, Ok, Err}
use Rattle.rows.specs.Rows.{then, Verdict}
use Rattle.header.specs.declared.header.Header.{Header}
use Rattle.reader.specs.declared.judging.Judged.{Judged}
use Rattle.reader.specs.Settings.{N}
use Rattle.reader.specs.Page.{header_of, work_by}
use Rattle.reader.specs.Modes.{verdict_in, tops_in}
use Rattle.reader.specs.Places.{lent_verdict_by, verdict_by}

-- what is known of the bands' largest T: nothing until row 5 has passed
abbrev pub tops_by : Verdict → List ℕ → List ℕ
tops_by (Ok _) tops = tops
tops_by (Err c) tops = replicate 40 0

pub record Judges (damaged placed : Bool) (s : List ℕ) (a : ℕ) (w : List ℤ) (m d : ℕ) (r : Judged) (w' : List ℤ) : Type 0 where
  -- the verdict of a reading with these cells
  pub verdict : r.verdict ≡ verdict_by damaged placed s a (length w) m d
  pub header : r.header ≡ header_of s
  pub tops : r.tops ≡ tops_by (lent_verdict_by damaged placed s a (length w) m d) (tops_in s (header_of s) damaged)
  pub work : w' ≡ work_by (lent_verdict_by damaged placed s a (length w) m d) (2 * N (header_of s)) w

-- the same behind an accepted header h, but for the work cells: `lent` is the verdict by row 5
pub record JudgedBehind (damaged : Bool) (s : List ℕ) (h : Header) (lent : Verdict) (r : Judged) : Type 0 where
  pub verdict : r.verdict ≡ then lent (verdict_in s h damaged)
  pub header : r.header ≡ h
  pub tops : r.tops ≡ tops_by lent (tops_in s h damaged)
