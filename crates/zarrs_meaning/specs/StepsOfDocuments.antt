-- Steps of reading the documents of a path, line by line; no public contract rests on them.
use Rattle.std.specs.Prelude.{◌≡◌, Bool, Option, Some, None, Result, Ok, Err, ◌⊎◌}
use Rattle.zarrs_store.specs.Segments.{Segments}
use Rattle.zarrs_fault.specs.declared.fault.MetadataFault.{MetadataFault}
use Rattle.zarrs_fault.specs.declared.fault.MetadataFault.TheVariants.{OutOfMemory as NoMemoryToRead}
use Rattle.zarrs_store.specs.declared.storage_error.StorageError.{StorageError}
use Rattle.zarrs_store.specs.declared.storage_error.StorageError.TheVariants.{InvalidMetadata, OutOfMemory}
use Rattle.zarrs_meaning.specs.Refusals.{IsExcused}
use Rattle.zarrs_meta.specs.declared.node.NodeMetadata.{NodeMetadata}
use Rattle.zarrs_meaning.specs.declared.node_create_error.NodeCreateError.{NodeCreateError}
use Rattle.zarrs_meaning.specs.Meaning.{Meaning, node, bad}

-- a fault of the document at a key is refused with the key and the fault, and out of memory as such
abbrev pub refusal_at : Segments → MetadataFault → StorageError
refusal_at key NoMemoryToRead = OutOfMemory
refusal_at key fault = InvalidMetadata key fault

-- the answer is what this line of the table says, unless it is excused
abbrev pub FollowsLine : Bool → Result (Option NodeMetadata) NodeCreateError → (Meaning → Meaning) → Type 0
FollowsLine can_fail (Ok (Some m)) line = (after : Meaning) → line after ≡ node m
FollowsLine can_fail (Ok None) line = (after : Meaning) → line after ≡ after
FollowsLine can_fail (Err e) line = IsExcused can_fail e ⊎ ((after : Meaning) → line after ≡ bad e)
