-- `reasons::explain` meets its contract. Assumes nothing.
use Rattle.reasons.proofs.Telling.{judged_told, explains}
use Rattle.reasons.proofs.explain.Goals as goal

pub why_by-requires : goal.why_by-requires
why_by-requires c = judged_told c.judge-r.ensures

pub returns : goal.returns
returns c = explains c.judge-r.ensures c.why_by.ensures
