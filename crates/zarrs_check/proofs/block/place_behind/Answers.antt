use Rattle.std.proofs.Common.{rules}
use Rattle.std.proofs.lemmas.Fn.{always_returns_same}
use Rattle.zarrs_path.specs.Paths.{path_cmp}
use Rattle.zarrs_check.proofs.PathSearch.{gap_of}
use Rattle.zarrs_check.proofs.NodeRuns.{behind_found, behind_missed}
use Rattle.zarrs_check.proofs.block.place_behind.Goals as goal

pub returns-in-Ok : goal.returns-in-Ok
returns-in-Ok c =
    let facts = c.in-Ok.ensures in
    behind_found c.args.nodes.now c.args.path.now c.in-Ok.place c.requires.ascending facts.bound
    (facts.position (λ e. path_cmp e.0 c.args.path.now) (always_returns_same _ _ _ (λ a r h called. (search rules, search rules))))

pub returns-in-Err : goal.returns-in-Err
returns-in-Err c =
    let facts = c.in-Err.ensures in
    behind_missed c.args.nodes.now c.args.path.now c.in-Err.gap
    (gap_of c.args.nodes.now c.requires.ascending c.args.path.now c.in-Err.gap facts.bound
    (facts.position (λ e. path_cmp e.0 c.args.path.now) (always_returns_same _ _ _ (λ a r h called. (search rules, search rules)))))
