use Rattle.zarrs_folder.specs.Folders.{values_of}
use Rattle.zarrs_consolidate.proofs.PlansOfFolders.{planned_of_some, planned_of_each, refused_of_some, refused_of_each}
use Rattle.zarrs_consolidate.proofs.folder.plan_in_folder.Goals as goal

pub returns-clause-some : goal.returns-clause-some
returns-clause-some g c = planned_of_some c.args.task c.args.base.now (values_of c.in_ok-store.store.inner) c.plan_block.result c.plan_block.ensures.ok

pub returns-clause-each : goal.returns-clause-each
returns-clause-each g c =
    planned_of_each c.args.task c.args.base.now (values_of c.in_ok-store.store.inner) (g.F.Folder.agrees c.load_nodes.new.folder) c.plan_block.result c.in_ok-store.ensures.ok c.plan_block.ensures.ok

pub returns-clause-some_refused : goal.returns-clause-some_refused
returns-clause-some_refused g c = refused_of_some c.args.task c.args.base.now (values_of c.in_ok-store.store.inner) c.plan_block.result c.plan_block.ensures.err

pub returns-clause-each_refused : goal.returns-clause-each_refused
returns-clause-each_refused g c =
    refused_of_each c.args.task c.args.base.now (values_of c.in_ok-store.store.inner) (g.F.Folder.agrees c.load_nodes.new.folder) c.plan_block.result c.in_ok-store.ensures.ok c.plan_block.ensures.err
