-- The planes of the code: of what kind the cells are that each carries, and which.
use Rattle.std.specs.Prelude.{List, ℕ}
use Rattle.show.specs.Text.{Kind, Samples, Marks, Distances}
use Rattle.show.specs.declared.Plane.{Plane}
use Rattle.show.specs.declared.Plane.TheVariants as carried

abbrev pub kind_of : Plane → Kind
kind_of (carried.Samples words) = Samples
kind_of (carried.Marks marks) = Marks
kind_of (carried.Distances words) = Distances

abbrev pub cells_of : Plane → List ℕ
cells_of (carried.Samples words) = words.now
cells_of (carried.Marks marks) = marks.now
cells_of (carried.Distances words) = words.now
