use Rattle.zarrs_config.specs.declared.version.MetadataRetrieveVersion.TheVariants.{Default}
use Rattle.zarrs_folder.specs.Folders.{in_any, values_of}
use Rattle.zarrs_folder.proofs.PrunedListings.{base_shows_same}
use Rattle.zarrs_cli.proofs.folder.load_document.Goals as goal

pub returns-clause-ok : goal.returns-clause-ok
returns-clause-ok g c =
    λ V agrees. (base_shows_same (in_any V) (in_any (values_of c.in_ok-store.store.inner)) c.args.base.now (c.in_ok-store.ensures.ok V agrees)).0 Default
