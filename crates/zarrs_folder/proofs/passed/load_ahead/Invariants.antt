use Rattle.zarrs_store.specs.Contents.{Values}
use Rattle.zarrs_folder.specs.Folders.{values_of}
use Rattle.zarrs_folder.specs.PrunedStores.{Grows}
use Rattle.zarrs_folder.specs.StepsOfLoadingNodes.{HoldsButAhead}
use Rattle.zarrs_folder.proofs.passed.load_ahead.Given as goal

abbrev pub invariant-loop-turn : goal.invariant-loop-turn
invariant-loop-turn g l = record {
  before : (V : Values) → g.F.Folder.agrees l.folder V → g.F.Folder.agrees l.fn.folder V;
  grows : (V : Values) → g.F.Folder.agrees l.folder V → Grows V (values_of l.fn.loaded.inner) (values_of l.loaded.inner);
  way : (V : Values) → g.F.Folder.agrees l.folder V → HoldsButAhead V l.path (values_of l.fn.loaded.inner) l.fn.ahead.items → HoldsButAhead V l.path (values_of l.loaded.inner) l.ahead.items;
}
