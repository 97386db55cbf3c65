use Rattle.std.proofs.Common.{◌∙◌, sym, ap, subst, ◌⊎◌}
use Rattle.zarrs_path.specs.Paths.{path_text}
use Rattle.zarrs_block.specs.Policy.{block_to_use, RefusesUse}
use Rattle.zarrs_meaning.specs.Refusals.{IsExcusedOr}
use Rattle.zarrs_config.specs.declared.version.UseConsolidatedMetadata.{UseConsolidatedMetadata}
use Rattle.zarrs_node.specs.BlocksBelow.{block_at, ExcusesBlock}
use Rattle.zarrs_node.specs.OpeningNodes.{RefusesOpening}
use Rattle.zarrs_hierarchy.proofs.OpenedPairs.{array_tree, error_handed, group_tree, want_refused}
use Rattle.zarrs_hierarchy.proofs.tree_text.tree_at.Goals as goal

pub returns-then-not-is_group-clause-tree : goal.returns-then-not-is_group-clause-tree
returns-then-not-is_group-clause-tree g c =
    array_tree (g.S.Store.contents c.args.storage.now) c.args.version.now c.args.config.now.use_consolidated c.args.path.now c.in_ok-metadata.metadata c.in_ok-text.text c.as_str-valid.ensures.valid
    c.in_ok-metadata.ensures.ok (sym c.is_group.ensures ∙ c.if-not-is_group.true) c.in_ok-text.ensures

pub returns-clause-tree : goal.returns-clause-tree
returns-clause-tree g c =
    let chosen = ap (λ p. block_to_use (block_at (g.S.Store.contents c.args.storage.now) c.args.path.now c.in_ok-metadata.metadata) p) (sym c.use_consolidated_metadata-policy.ensures) ∙ c.in_ok-block.ensures.ok in
    group_tree (g.S.Store.contents c.args.storage.now) c.args.version.now c.args.config.now.use_consolidated c.args.path.now c.in_ok-metadata.metadata _ _ _ c.as_str-valid.ensures.valid
    c.in_ok-metadata.ensures.ok (sym c.is_group.ensures ∙ c.if-not-is_group.false) chosen c.depth-above.ensures c.in_ok-text.ensures c.in_ok-ignored.ensures.takes c.in_ok-ignored.ensures.clean

pub returns-in_err-block-clause-refused : goal.returns-in_err-block-clause-refused
returns-in_err-block-clause-refused g c =
    let s = g.S.Store.contents c.args.storage.now in
    let can_fail = g.S.Store.can_fail c.args.storage.now in
    let m = c.in_ok-metadata.metadata in
    let refused =
    want_refused can_fail s c.args.version.now c.args.config.now.use_consolidated c.args.path.now m c.in_err-block.field-0.0 c.as_str-valid.ensures.valid c.in_ok-metadata.ensures.ok
    (sym c.is_group.ensures ∙ c.if-not-is_group.false)
    (subst (λ (p : UseConsolidatedMetadata). ExcusesBlock can_fail m p c.in_err-block.field-0.0 ⊎ RefusesUse c.args.path.now (block_to_use (block_at s c.args.path.now m) p) c.in_err-block.field-0.0) c.use_consolidated_metadata-policy.ensures c.in_err-block.ensures.excused) in
    error_handed c.from_residual-in_err-block.result c.in_err-block.field-0.0 (IsExcusedOr can_fail (RefusesOpening s c.args.version.now c.args.config.now.use_consolidated (path_text c.args.path.now))) c.from_residual-in_err-block.ensures.1 refused
