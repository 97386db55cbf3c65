-- The document `.zmetadata` of version 2 (zarr-python, "Consolidated metadata"): the blocks that can stand beside the
-- metadata of a version 2 group.
-- <https://zarr.readthedocs.io/en/stable/user-guide/consolidated_metadata/>
use Rattle.std.specs.Prelude.{Option, Some, None}
use Rattle.zarrs_block.specs.Block.{Block, HasValidKeys}
use Rattle.zarrs_block.specs.Zmetadata.{HasVersion2}

-- there is no block, or its keys are valid and its entries are of version 2
abbrev pub IsBeside : Option Block → Type 0
IsBeside None = Unit {0}
IsBeside (Some B) = HasValidKeys B × HasVersion2 B
