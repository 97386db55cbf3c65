use Rattle.std.specs.FinMap as map
use Rattle.std.specs.Vec.Iter.{into_iter_items}
use Rattle.zarrs_store.specs.Segments.{key_cmp}
use Rattle.zarrs_load.specs.Folder.{HoldsDocumentsAlone}
use Rattle.zarrs_load.specs.StepsOfLoading.{AreFound}
use Rattle.zarrs_load.proofs.folder.store_of.Given as goal

abbrev pub invariant-loop-key : goal.invariant-loop-key
invariant-loop-key l = record {
  can_next : (goal.iterator-loop-key).can_next l.key-iterator;
  is_finite : (goal.iterator-loop-key).is_finite l.key-iterator;
  rest : AreFound l.fn.files.items → AreFound (into_iter_items l.key-iterator);
  held : AreFound l.fn.files.items → HoldsDocumentsAlone (map.from_entries {R = key_cmp} l.store);
}
