use Rattle.std.proofs.Common.{vec_len, ◌+◌, ◌≤◌}
use Rattle.zarrs_load.specs.StepsOfLoading.{AreFound}
use Rattle.zarrs_load.proofs.folder.list.Given as goal

abbrev pub invariant-loop-entry : goal.invariant-loop-entry
invariant-loop-entry g l = record {
  files : AreFound l.fn.walk.files.items → AreFound l.walk.files.items;
  fewer : vec_len l.walk.folders + l.walk.entries_left ≤ vec_len l.fn.walk.folders + l.fn.walk.entries_left;
}
