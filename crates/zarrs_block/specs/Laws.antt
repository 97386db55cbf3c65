-- Zarr core specification 3.1, "Metadata documents" and "Group metadata": what is read where numbers have to be
-- whole, and where any may stand.
-- <https://zarr-specs.readthedocs.io/en/latest/v3/core/index.html#metadata>
-- <https://zarr-specs.readthedocs.io/en/latest/v3/core/index.html#group-metadata>
use Rattle.serde_json.specs.Data.{Data}
use Rattle.zarrs_fault.specs.declared.numbers.Numbers.{Numbers}
use Rattle.zarrs_fault.specs.declared.numbers.Numbers.TheVariants.{Whole}
use Rattle.zarrs_meta.specs.Laws.{ReadsToo}
use Rattle.zarrs_block.specs.Block.{block_of, block_of_in}
use Rattle.zarrs_block.specs.Zmetadata.{zmetadata_in}

-- a block or a document `.zmetadata` that is read where numbers have to be whole is read the same whatever numbers
-- may stand
abbrev pub WholeBlocksReadTheSame : Type 0
WholeBlocksReadTheSame =
    (numbers : Numbers) (d : Data)
    → ReadsToo (block_of_in numbers d) (block_of d) × ReadsToo (zmetadata_in numbers d) (zmetadata_in Whole d)
