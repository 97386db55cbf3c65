use Rattle.std.proofs.Common.{◌≡◌, ◌++◌}
use Rattle.std.specs.List.Sorted.{IsStrictlySortedBy}
use Rattle.std.specs.Map.{keys_of}
use Rattle.zarrs_store.specs.Segments.{bytes_cmp}
use Rattle.zarrs_block.proofs.BlockLaws.{shown, texts}
use Rattle.zarrs_block.proofs.consolidated.ConsolidatedMetadataMetadata.try_clone.Given as goal

-- what was copied and what is left make the whole, in order
abbrev pub invariant-loop-key : goal.invariant-loop-key
invariant-loop-key l =
    IsStrictlySortedBy bytes_cmp (keys_of l.copy ++ texts l.key-iterator) × (l.copy ++ shown l.key-iterator ≡ l.self)
