use Rattle.zarrs_folder.specs.Folders.{values_of}
use Rattle.zarrs_cli.proofs.Runs.{written_image, refused_image}
use Rattle.zarrs_cli.proofs.run.run_of_image.Goals as goal

pub returns-clause-ok : goal.returns-clause-ok
returns-clause-ok g c = written_image _ _ _ _ _ (values_of c.in_ok-store.store.inner) c.run_store-tally.result c.in_ok-store.ensures.ok c.run_store-tally.ensures.ok

pub returns-clause-refused : goal.returns-clause-refused
returns-clause-refused g c = refused_image _ _ _ _ (values_of c.in_ok-store.store.inner) c.run_store-tally.result c.in_ok-store.ensures.end c.in_ok-store.ensures.ok c.run_store-tally.ensures.refused
