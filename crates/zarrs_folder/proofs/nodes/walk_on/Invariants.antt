use Rattle.zarrs_store.specs.Contents.{Values}
use Rattle.zarrs_folder.specs.Folders.{values_of}
use Rattle.zarrs_folder.specs.StepsOfLoadingNodes.{IsLoadedButAhead}
use Rattle.zarrs_folder.proofs.nodes.walk_on.Given as goal

abbrev pub invariant-loop-turn : goal.invariant-loop-turn
invariant-loop-turn g l = record {
  before : (V : Values) → g.F.Folder.agrees l.folder V → g.F.Folder.agrees l.fn.folder V;
  way : (V : Values) → g.F.Folder.agrees l.folder V → IsLoadedButAhead l.walk.documents V l.walk.base.now (values_of l.fn.loaded.inner) l.fn.ahead.items → IsLoadedButAhead l.walk.documents V l.walk.base.now (values_of l.loaded.inner) l.ahead.items;
}
