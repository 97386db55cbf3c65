use Rattle.zarrs_config.specs.declared.version.MetadataRetrieveVersion.TheVariants.{Default}
use Rattle.zarrs_meaning.specs.Meaning.{meaning}
use Rattle.zarrs_folder.specs.Folders.{in_any, values_of}
use Rattle.zarrs_folder.proofs.LoadingSteps.{not_group_found}
use Rattle.zarrs_folder.proofs.nodes.is_group_at.Goals as goal

pub returns : goal.returns
returns c none m is = not_group_found c.in_ok-find.field-0 (meaning (in_any (values_of c.args.loaded.now.inner)) Default c.args.path.now) c.in_ok-find.ensures.some c.in_ok-find.ensures.none
    (c.is_group.ensures none) m is
