-- Document 01's refusals. 'Checking runs from the front. The first field at which a row applies decides; at one field the lowest number wins.'
use Rattle.std.specs.Prelude.{ℕ, zero, suc, Bool, ◌||◌, cond, List, [], ◌∷◌, ◌++◌, ltb, Result, Ok, Err}
use Rattle.rows.specs.declared.Check.{Check}
use Rattle.rows.specs.declared.Field.{Field}
use Rattle.rows.specs.declared.Row.{Row}
use Rattle.rows.specs.declared.Row.TheVariants.{Cut, Marker, Value, Lacking, Lent, Length, Count, Mode}

-- the number that document 01 gives each row
abbrev pub number : Row → ℕ
number Cut = 1
number Marker = 2
number Value = 3
number Lacking = 4
number Lent = 5
number Length = 6
number Count = 7
number Mode = 8

-- a row of the table, the place where it is given, the field, the value found there, and the least and the most that it may be
abbrev pub check : Row → ℕ → Field → ℕ → ℕ → ℕ → Check
check row place field found least most = record { 0 = row; 1 = place; 2 = field; 3 = found; 4 = least; 5 = most }

-- what a table says: nothing is refused, or the check that decides is broken
abbrev pub Verdict : Type 0
Verdict = Result (Unit {0}) Check

abbrev pub Fine : Verdict
Fine = Ok tt

abbrev pub Refused : Check → Verdict
Refused c = Err c

-- what a reading answers by its verdict: what was read, or the check that refuses it
abbrev pub answered : {A : Type 0} → Verdict → A → Result A Check
answered (Ok _) x = Ok x
answered (Err c) x = Err c

-- where there is no most: no number of the machine is above
abbrev pub ample : ℕ
ample = 0xffff_ffff_ffff_ffff

-- the value found is less than the least or more than the most
abbrev pub broken : Check → Bool
broken c = ltb c.3 c.4 || ltb c.5 c.3

-- the first broken check of a table decides
abbrev pub first : List Check → Verdict
first [] = Fine
first (c ∷ cs) = cond (broken c) (Refused c) (first cs)

-- the tables of an index from 0 to n - 1, in that order: the loops of Annex A's tables
unfoldable pub each : ℕ → (ℕ → List Check) → List Check
each zero f = []
each (suc n) f = each n f ++ f n

-- an earlier refusal stands
abbrev pub then : Verdict → Verdict → Verdict
then (Ok _) w = w
then (Err c) w = Refused c

-- the number of the answer: 0 where nothing is refused
abbrev pub answer : Verdict → ℕ
answer (Ok _) = 0
answer (Err c) = number c.0

-- the place of the answer: that of the broken check, or the end of what was read
abbrev pub place_of : Verdict → ℕ → ℕ
place_of (Ok _) end = end
place_of (Err c) end = c.1
