use Rattle.std.proofs.Common.{rules, ◌≡◌}
use Rattle.zarrs_meaning.specs.declared.node_create_error.NodeCreateError.TheVariants.{OutOfMemory}
use Rattle.zarrs_examples.proofs.Catalogues.{no_memory}
use Rattle.zarrs_examples.proofs.catalogue.Catalogue.group_with_block.Goals as goal

pub returns-in_err-replace_consolidated_metadata-clause-refused : goal.returns-in_err-replace_consolidated_metadata-clause-refused
returns-in_err-replace_consolidated_metadata-clause-refused g c =
    let e = c.in_err-replace_consolidated_metadata.field-0.0 in
    let told : e ≡ OutOfMemory = no_memory c.means_version_3.ensures _ _ c.in_ok-group.group.metadata _ e c.in_ok-group.ensures.means c.in_err-replace_consolidated_metadata.ensures.err in
    search (rules, told)
