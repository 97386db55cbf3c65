use Rattle.zarrs_folder.specs.Folders.{values_of}
use Rattle.zarrs_folder.proofs.LoadingSteps.{array_loaded}
use Rattle.zarrs_folder.proofs.nodes.load_below.Goals as goal

pub returns-then-is_array-clause-ok : goal.returns-then-is_array-clause-ok
returns-then-is_array-clause-ok g c V agrees base =
    array_loaded c.args.documents V (values_of c.args.store.inner) c.args.base.now base c.in_ok-find.field-0 c.in_ok-find.ensures.some (c.is_array.ensures.kind c.if-is_array.true) (c.is_array.ensures.some c.if-is_array.true)
