use Rattle.std.proofs.Common.{◌≡◌, take, map}
use Rattle.serde_json.specs.View.{view}
use Rattle.zarrs_group.specs.FullBlocks.{full_extension}
use Rattle.zarrs_group.proofs.full_block.full_list.Given as goal

-- what was written of the first items
abbrev pub invariant-loop-extension : goal.invariant-loop-extension
invariant-loop-extension l = map view l.items.items ≡ map full_extension (take l.extension-index l.extensions)
