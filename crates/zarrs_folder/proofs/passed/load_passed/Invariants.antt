use Rattle.std.proofs.Common.{take}
use Rattle.zarrs_store.specs.Contents.{Values}
use Rattle.zarrs_folder.specs.Folders.{values_of}
use Rattle.zarrs_folder.specs.PassedPaths.{HoldsBelow}
use Rattle.zarrs_folder.specs.PrunedStores.{Grows, HasNoOtherKeys}
use Rattle.zarrs_folder.proofs.passed.load_passed.Given as goal

abbrev pub invariant-loop-path : goal.invariant-loop-path
invariant-loop-path g l = record {
  before : (V : Values) → g.F.Folder.agrees l.folder V → g.F.Folder.agrees l.fn.folder V;
  grows : (V : Values) → g.F.Folder.agrees l.folder V → Grows V (values_of l.fn.store.inner) (values_of l.loaded.inner);
  below : (V : Values) → g.F.Folder.agrees l.folder V → HasNoOtherKeys V (values_of l.fn.store.inner) → HoldsBelow V (values_of l.loaded.inner) (take l.path-index l.passed);
}
