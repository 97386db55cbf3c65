use Rattle.std.specs.FinMap as map
use Rattle.zarrs_store.specs.Segments.{key_cmp}
use Rattle.zarrs_load.proofs.Members.{HoldsSoFar}
use Rattle.zarrs_load.proofs.image.store_of.Given as goal

abbrev pub invariant-loop-name : goal.invariant-loop-name
invariant-loop-name l = HoldsSoFar l.members.entries l.name-iterator (map.from_entries {R = key_cmp} l.store)
