use Rattle.zarrs_store.proofs.Ranges.{range_is}
use Rattle.zarrs_store.proofs.places.range_of.Goals as goal

pub returns-clause-range : goal.returns-clause-range
returns-clause-range c =
    let f = c.first_from-first.ensures in
    let e = c.end_from-end.ensures in
    range_is _ _ _ _ e.ordered e.inside f.before e.within e.behind
