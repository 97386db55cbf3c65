use Rattle.zarrs_hierarchy.proofs.Below.{told_below}
use Rattle.zarrs_hierarchy.proofs.hierarchy.is_below.Goals as goal

pub returns : goal.returns
returns c = told_below c.args.base.now c.args.path.now c.is_below.result c.is_below.ensures.below
