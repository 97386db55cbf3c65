-- Zarr core specification 3.1, "Node names" and "Metadata": what it means that a node is refused.
-- <https://zarr-specs.readthedocs.io/en/latest/v3/core/index.html#node-names>
-- <https://zarr-specs.readthedocs.io/en/latest/v3/core/index.html#metadata>
use Rattle.std.specs.Prelude.{◌≡◌, ◌⊎◌, Bool, ◌++◌, Option, Some, None, Result, Ok, Err, string_bytes, codes}
use Rattle.zarrs_meta.specs.declared.node.NodeMetadata.{NodeMetadata}
use Rattle.zarrs_meaning.specs.Meaning.{Meaning, node, nothing, bad}
use Rattle.zarrs_store.specs.Faults.{IsStoreError}
use Rattle.zarrs_store.specs.declared.storage_error.StorageError.TheVariants.{Fault, InvalidMetadata, Other}
use Rattle.zarrs_store.specs.declared.storage_error.StorageError.TheVariants.{OutOfMemory as NoStoreMemory}
use Rattle.zarrs_store.specs.declared.prefix.StorePrefixError.TheVariants.{Invalid as InvalidPrefix}
use Rattle.zarrs_store.specs.declared.prefix.StorePrefixError.TheVariants.{OutOfMemory as NoPrefixMemory}
use Rattle.zarrs_path.specs.declared.node_path.NodePathError.TheVariants.{Invalid as InvalidPath}
use Rattle.zarrs_path.specs.declared.node_path.NodePathError.TheVariants.{OutOfMemory as NoPathMemory}
use Rattle.zarrs_path.specs.Paths.{Path, path_text}
use Rattle.zarrs_meaning.specs.declared.node_create_error.NodeCreateError.{NodeCreateError}
use Rattle.zarrs_meaning.specs.declared.node_create_error.NodeCreateError.TheVariants.{NodePathError, StorePrefixError}
use Rattle.zarrs_meaning.specs.declared.node_create_error.NodeCreateError.TheVariants.{StorageError}
use Rattle.zarrs_meaning.specs.declared.node_create_error.NodeCreateError.TheVariants.{MetadataVersionMismatch}
use Rattle.zarrs_meaning.specs.declared.node_create_error.NodeCreateError.TheVariants.{MissingMetadata, OutOfMemory}

-- out of memory: the error is `OutOfMemory`, or holds an error that is
abbrev pub LacksMemory : NodeCreateError → Type 0
LacksMemory (NodePathError (InvalidPath text)) = ⊥
LacksMemory (NodePathError NoPathMemory) = Unit {0}
LacksMemory (StorePrefixError (InvalidPrefix text)) = ⊥
LacksMemory (StorePrefixError NoPrefixMemory) = Unit {0}
LacksMemory (StorageError Fault) = ⊥
LacksMemory (StorageError (InvalidMetadata key fault)) = ⊥
LacksMemory (StorageError (Other text)) = ⊥
LacksMemory (StorageError NoStoreMemory) = Unit {0}
LacksMemory MetadataVersionMismatch = ⊥
LacksMemory (MissingMetadata text) = ⊥
LacksMemory OutOfMemory = Unit {0}

-- out of memory, or the error is the fault of a store that can fail
abbrev pub IsExcused : Bool → NodeCreateError → Type 0
IsExcused can_fail (NodePathError NoPathMemory) = Unit {0}
IsExcused can_fail (StorePrefixError NoPrefixMemory) = Unit {0}
IsExcused can_fail (StorageError e) = IsStoreError can_fail e
IsExcused can_fail OutOfMemory = Unit {0}
IsExcused can_fail _ = ⊥

-- out of memory, or the error is the fault of a store that can fail, or one of which X holds
abbrev pub IsExcusedOr : Bool → (NodeCreateError → Type 0) → NodeCreateError → Type 0
IsExcusedOr can_fail X e = IsExcused can_fail e ⊎ X e

-- the error is the text `invalid node path ` and the text of p, as a child has it whose name is made of periods only
abbrev pub IsInvalidPath : Path → NodeCreateError → Type 0
IsInvalidPath p (StorageError (Other text)) = string_bytes text ≡ codes "invalid node path " ++ path_text p
IsInvalidPath p _ = ⊥

-- the error says that there are no metadata, with the text of p
abbrev pub IsMissing : Path → NodeCreateError → Type 0
IsMissing p (MissingMetadata text) = string_bytes text ≡ path_text p
IsMissing p _ = ⊥

-- the answer is the meaning, unless it is excused
abbrev pub Finds : Bool → Result (Option NodeMetadata) NodeCreateError → Meaning → Type 0
Finds can_fail (Ok (Some m)) meaning = meaning ≡ node m
Finds can_fail (Ok None) meaning = meaning ≡ nothing
Finds can_fail (Err e) meaning = IsExcused can_fail e ⊎ (meaning ≡ bad e)
