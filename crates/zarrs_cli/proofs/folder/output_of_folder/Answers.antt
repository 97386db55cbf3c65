use Rattle.zarrs_folder.specs.Folders.{values_of}
use Rattle.zarrs_cli.proofs.Runs.{made_of_some, made_of_each, fault_of_some, fault_of_each}
use Rattle.zarrs_cli.proofs.folder.output_of_folder.Goals as goal

pub returns-clause-ok : goal.returns-clause-ok
returns-clause-ok g c = made_of_some c.args.word c.args.base.now (values_of c.in_ok-loaded.loaded.store.inner) c.output_of_loaded-made.result c.output_of_loaded-made.ensures.ok

pub returns-clause-whole : goal.returns-clause-whole
returns-clause-whole g c =
    made_of_each c.args.word c.args.base.now (values_of c.in_ok-loaded.loaded.store.inner) c.output_of_loaded-made.result (g.F.Folder.agrees c.load_for.new.folder) c.as_str-valid.ensures.valid c.in_ok-loaded.ensures.ok
    c.output_of_loaded-made.ensures.ok

pub returns-clause-err : goal.returns-clause-err
returns-clause-err g c = fault_of_some c.args.word c.args.base.now (values_of c.in_ok-loaded.loaded.store.inner) c.output_of_loaded-made.result c.output_of_loaded-made.ensures.err

pub returns-clause-whole_err : goal.returns-clause-whole_err
returns-clause-whole_err g c =
    fault_of_each c.args.word c.args.base.now (values_of c.in_ok-loaded.loaded.store.inner) c.output_of_loaded-made.result (g.F.Folder.agrees c.load_for.new.folder) c.as_str-valid.ensures.valid c.in_ok-loaded.ensures.ok
    c.output_of_loaded-made.ensures.err
