use Rattle.std.proofs.Common.{◌∙◌, ◌⊎◌, true, subst, rules}
use Rattle.zarrs_config.specs.declared.version.MetadataRetrieveVersion.TheVariants.{Default}
use Rattle.zarrs_meaning.specs.Refusals.{IsExcused}
use Rattle.zarrs_node.specs.Nodes.{Bad, ShowsBad}
use Rattle.zarrs_hierarchy.proofs.OpenedPairs.{group_holds}
use Rattle.zarrs_hierarchy.proofs.hierarchy.Hierarchy.try_from_group.Goals as goal

pub returns-in_err-ignored-clause-refused : goal.returns-in_err-ignored-clause-refused
returns-in_err-ignored-clause-refused g c =
    let told : IsExcused (g.S.Store.can_fail c.args.storage.now) c.in_err-ignored.field-0.0 ⊎ ShowsBad (g.S.Store.contents c.args.storage.now) Default true c.args.group.now.path c.in_err-ignored.field-0.0 =
    subst (λ p. IsExcused (g.S.Store.can_fail c.args.storage.now) c.in_err-ignored.field-0.0 ⊎ ShowsBad (g.S.Store.contents c.args.storage.now) Default true p c.in_err-ignored.field-0.0) c.path-base.ensures c.in_err-ignored.ensures.refused in
    search rules

pub returns-clause-pairs : goal.returns-clause-pairs
returns-clause-pairs g c =
    group_holds (g.S.Store.contents c.args.storage.now) Default c.args.group.now.path c.path-base.result.now c.args.group.now.metadata c.in_ok-metadata.metadata c.in_ok-nodes.nodes c.walk_nodes.new.sink
    c.path-base.ensures (c.in_ok-metadata.ensures ∙ c.metadata.ensures) c.in_ok-nodes.ensures c.in_ok-ignored.ensures.takes

pub returns-clause-clean : goal.returns-clause-clean
returns-clause-clean g c = subst (λ p. Bad (g.S.Store.contents c.args.storage.now) Default true p → ⊥) c.path-base.ensures c.in_ok-ignored.ensures.clean

pub invariant_of-result : goal.invariant_of-result
invariant_of-result g c =
    (group_holds (g.S.Store.contents c.args.storage.now) Default c.args.group.now.path c.path-base.result.now c.args.group.now.metadata c.in_ok-metadata.metadata c.in_ok-nodes.nodes c.walk_nodes.new.sink
    c.path-base.ensures (c.in_ok-metadata.ensures ∙ c.metadata.ensures) c.in_ok-nodes.ensures c.in_ok-ignored.ensures.takes).ordered
