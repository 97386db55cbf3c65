-- The block that a listing of a store makes reads back in the numbers of that store.
use Rattle.std.proofs.Common.{◌≡◌, Ok}
use Rattle.zarrs_store.specs.Contents.{Contents}
use Rattle.zarrs_path.specs.Paths.{Path}
use Rattle.zarrs_config.specs.declared.version.MetadataRetrieveVersion.{MetadataRetrieveVersion}
use Rattle.zarrs_block.specs.Block.{Block, block_of_in, block_tree}
use Rattle.zarrs_block.proofs.BlockReads.{block_again_in}
use Rattle.zarrs_node.specs.ListedBlocks.{IsListedBlock}
use Rattle.zarrs_node.proofs.blocks.ListedBlocks.{listed_plain}
use Rattle.zarrs_group.specs.FullBlocks.{full_block_tree}
use Rattle.zarrs_group.proofs.FullBlocks.{full_block_again}

-- each of its nodes could have come from a document of the store, so the block reads back
pub listed_reads : (S : Contents) (v : MetadataRetrieveVersion) (b : Path) (B : Block) → IsListedBlock S v b B → block_of_in S.numbers (block_tree B) ≡ Ok B
listed_reads S v b B listed = block_again_in S.numbers B (listed_plain S v b B listed)

-- so it does where it was written in full
pub full_listed_reads : (S : Contents) (v : MetadataRetrieveVersion) (b : Path) (B : Block) → IsListedBlock S v b B → block_of_in S.numbers (full_block_tree B) ≡ Ok B
full_listed_reads S v b B listed = full_block_again S.numbers B (listed_plain S v b B listed)
