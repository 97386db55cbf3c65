-- The text of why a node is refused, as it prints itself (Zarr core specification 3.1, "Metadata").
-- <https://zarr-specs.readthedocs.io/en/latest/v3/core/index.html#metadata>
use Rattle.std.specs.Prelude.{ℕ, List, ◌++◌, codes, string_bytes}
use Rattle.zarrs_store.specs.ErrorTexts.{prefix_error_text, storage_error_text}
use Rattle.zarrs_path.specs.ErrorTexts.{path_error_text}
use Rattle.zarrs_meaning.specs.declared.node_create_error.NodeCreateError.{NodeCreateError}
use Rattle.zarrs_meaning.specs.declared.node_create_error.NodeCreateError.TheVariants.{NodePathError, StorePrefixError}
use Rattle.zarrs_meaning.specs.declared.node_create_error.NodeCreateError.TheVariants.{StorageError}
use Rattle.zarrs_meaning.specs.declared.node_create_error.NodeCreateError.TheVariants.{MetadataVersionMismatch}
use Rattle.zarrs_meaning.specs.declared.node_create_error.NodeCreateError.TheVariants.{MissingMetadata, OutOfMemory}

-- why a node is refused
abbrev pub error_text : NodeCreateError → List ℕ
error_text (NodePathError error) = path_error_text error
error_text (StorePrefixError error) = prefix_error_text error
error_text (StorageError error) = storage_error_text error
error_text MetadataVersionMismatch = codes "Found V2 metadata in V3 key or vice-versa"
error_text (MissingMetadata text) = codes "Metadata is missing for " ++ string_bytes text
error_text OutOfMemory = codes "out of memory"
