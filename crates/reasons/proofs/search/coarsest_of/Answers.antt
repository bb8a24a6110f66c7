-- `reasons::search::coarsest_of` meets its contract. Assumes nothing.
use Rattle.reasons.proofs.Searches.{band_inside, coarsest_there}
use Rattle.reasons.proofs.search.coarsest_of.Goals as goal

pub lowest_precinct-p-requires : goal.lowest_precinct-p-requires
lowest_precinct-p-requires c =
    (c.requires.walks, band_inside c.requires c.if-i-nc.true c.band_count-n.ensures.0 c.largest_of-top.ensures c.lowest_band-b.ensures)

pub returns-then-i-nc : goal.returns-then-i-nc
returns-then-i-nc c =
    coarsest_there c.requires c.if-i-nc.true c.band_count-n.ensures.0 c.largest_of-top.ensures c.lowest_band-b.ensures c.lowest_precinct-p.ensures
