use Rattle.std.proofs.Common.{vec_len, ◌+◌}
use Rattle.zarrs_load.specs.StepsOfLoading.{AreFound}
use Rattle.zarrs_load.proofs.folder.load_folder.Given as goal

abbrev pub invariant-loop-folder : goal.invariant-loop-folder
invariant-loop-folder g l = AreFound l.walk.files.items

abbrev pub decreases-loop-folder : goal.decreases-loop-folder
decreases-loop-folder g l = vec_len l.walk.folders + l.walk.entries_left
