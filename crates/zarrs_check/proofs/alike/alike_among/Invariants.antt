use Rattle.std.specs.HashMap.{get}
use Rattle.std.proofs.Common.{Contains, take}
use Rattle.zarrs_path.specs.Paths.{Path, path_eq}
use Rattle.zarrs_check.specs.Alike.{AreAlikeAmong}
use Rattle.zarrs_check.specs.StepsOfAlike.{IsLastOf}
use Rattle.zarrs_check.proofs.alike.alike_among.Given as goal

-- what is found is all that is alike among the paths so far, and the map has the last of those that fold to each path
abbrev pub invariant-loop-path : goal.invariant-loop-path
invariant-loop-path l = AreAlikeAmong (Contains (take l.path-index l.paths)) l.found.items × ((k : Path) → IsLastOf (take l.path-index l.paths) k (get path_eq l.last k))
