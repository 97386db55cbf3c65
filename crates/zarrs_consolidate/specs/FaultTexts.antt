-- The text of why it is not known what becomes of a block, as it prints itself (Zarr core specification 3.1, "Group
-- metadata").
-- <https://zarr-specs.readthedocs.io/en/latest/v3/core/index.html#group-metadata>
use Rattle.std.specs.Prelude.{ℕ, List, ◌++◌, codes, string_bytes}
use Rattle.zarrs_meaning.specs.ErrorTexts.{error_text}
use Rattle.zarrs_meaning.specs.declared.node_create_error.NodeCreateError.{NodeCreateError}
use Rattle.zarrs_meaning.specs.declared.node_create_error.NodeCreateError.TheVariants.{MetadataVersionMismatch}
use Rattle.zarrs_folder.specs.FaultTexts.{folder_fault_text}
use Rattle.zarrs_consolidate.specs.declared.fault.ConsolidateError.{ConsolidateError}
use Rattle.zarrs_consolidate.specs.declared.fault.ConsolidateError.TheVariants.{Folder, Node, NotAGroup, Block, TooDeep}
use Rattle.zarrs_consolidate.specs.declared.fault.ConsolidateError.TheVariants.{OutOfMemory}

-- why a group takes no such block
abbrev pub no_block_text : NodeCreateError → List ℕ
no_block_text MetadataVersionMismatch = codes "the block of a group of version 2 holds no node of version 3"
no_block_text e = error_text e

-- why it is not known what becomes of a block
abbrev pub consolidate_error_text : ConsolidateError → List ℕ
consolidate_error_text (Folder fault) = folder_fault_text fault
consolidate_error_text (Node e) = error_text e
consolidate_error_text (NotAGroup path) = string_bytes path ++ codes " is an array, and only a group has a block"
consolidate_error_text (Block e) = no_block_text e
consolidate_error_text TooDeep = codes "the document would nest deeper than any that is read"
consolidate_error_text OutOfMemory = codes "out of memory"
