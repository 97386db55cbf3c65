use Rattle.std.proofs.Common.{rules, true≢false, sym, ◌∙◌}
use Rattle.std.proofs.lemmas.Fn.{always_returns_same}
use Rattle.zarrs_path.specs.Paths.{path_cmp}
use Rattle.zarrs_check.proofs.PathSearch.{gap_of}
use Rattle.zarrs_check.proofs.NodeRuns.{found_group, missed_group}
use Rattle.zarrs_check.proofs.block.has_group_among.Goals as goal

pub returns-in-Ok : goal.returns-in-Ok
returns-in-Ok c =
    let facts = c.in-Ok.ensures in
    let w = found_group c.args.nodes.now c.args.path.now c.in-Ok.place c.index-nodes-place.result c.requires.ascending facts.bound
    (facts.position (λ e. path_cmp e.0 c.args.path.now) (always_returns_same _ _ _ (λ a r h called. (search rules, search rules)))) in
    (λ t. w.0 (sym c.is_group.ensures ∙ t), λ has. c.is_group.ensures ∙ w.1 has)

pub returns-in-Err : goal.returns-in-Err
returns-in-Err c =
    let facts = c.in-Err.ensures in (
      λ t. absurd (true≢false (sym t)),
      λ has. absurd (missed_group c.args.nodes.now c.args.path.now c.in-Err._gap
          (gap_of c.args.nodes.now c.requires.ascending c.args.path.now c.in-Err._gap facts.bound
          (facts.position (λ e. path_cmp e.0 c.args.path.now) (always_returns_same _ _ _ (λ a r h called. (search rules, search rules))))) has),
    )
