use Rattle.zarrs_node.specs.Forest.{forest}
use Rattle.zarrs_node.proofs.FlatForests.{counted_shows, counted_steps}
use Rattle.zarrs_node.proofs.build.build_node_tree_counted.Goals as goal

pub returns-clause-shows : goal.returns-clause-shows
returns-clause-shows c = counted_shows (λ r. forest r.0.items) (λ r. r.1) _ _ _ c.in_ok-latest.ensures.ascends c.in_ok-latest.ensures.latest c.build_ascending.result c.build_ascending.ensures.shows

pub returns-clause-steps : goal.returns-clause-steps
returns-clause-steps c = counted_steps (λ r. forest r.0.items) (λ r. r.1) _ _ c.args.path.now c.in_ok-latest.ensures.ascends c.in_ok-latest.ensures.latest c.build_ascending.result c.build_ascending.ensures.steps
