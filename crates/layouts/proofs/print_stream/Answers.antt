-- `layouts::print_stream` meets its contract. Assumes what libc and os declare of the system.
use Rattle.std.proofs.Common.{sym, ◌∙◌}
use Rattle.shapes.proofs.Accepted.{read_built}
use Rattle.layouts.proofs.print_stream.Goals as goal

pub print_layout-requires : goal.print_layout-requires
print_layout-requires g c = rw c.shape_of.ensures (read_built c.args.stream.now (sym c.read.ensures ∙ c.in-Ok.is))
