-- `wavelet::lines::level_top` meets its contract. Assumes nothing.
use Rattle.wavelet.proofs.Tame.{tame}
use Rattle.wavelet.proofs.Level.{top_ready, second_ready, start_ready, start_next}
use Rattle.wavelet.proofs.lines.level_top.Goals as goal

pub filter_line-requires : goal.filter_line-requires
filter_line-requires c = top_ready (tame c.args.kind) c.requires.0 c.requires.1

pub filter_line-requires-2 : goal.filter_line-requires-2
filter_line-requires-2 c =
    second_ready (tame c.args.kind) c.requires.0 c.requires.1 c.filter_line.ensures

pub lift-requires : goal.lift-requires
lift-requires c =
    start_ready (tame c.args.kind) c.requires.0 c.requires.1 c.filter_line.ensures c.filter_line-2.ensures

pub returns : goal.returns
returns c =
    start_next (tame c.args.kind) c.requires.0 c.requires.1 c.filter_line.ensures c.filter_line-2.ensures c.lift.ensures
