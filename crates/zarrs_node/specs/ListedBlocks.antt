-- Zarr core specification 3.1, "Group metadata", with zarr-python's field `consolidated_metadata`: the block of what a
-- listing finds, over stores that differ by the documents of one path.
-- <https://zarr-specs.readthedocs.io/en/latest/v3/core/index.html#group-metadata>
-- <https://zarr.readthedocs.io/en/stable/user-guide/consolidated_metadata/>
--     IsListedBlock S v b B      B is the block that a listing of S makes below b
use Rattle.std.specs.Prelude.{◌≡◌, true}
use Rattle.zarrs_store.specs.Contents.{Contents}
use Rattle.zarrs_path.specs.Paths.{Path, IsPath, IsBelow}
use Rattle.zarrs_config.specs.declared.version.MetadataRetrieveVersion.{MetadataRetrieveVersion}
use Rattle.zarrs_block.specs.Block.{Block, IsAscending, IsBlockOf}
use Rattle.zarrs_meaning.specs.Meaning.{meaning}
use Rattle.zarrs_node.specs.Nodes.{Nodes, HasNothingBad}
use Rattle.zarrs_node.specs.CurrentBlocks.{LeadsTo, IsFresh, BadAnew}
use Rattle.zarrs_node.specs.Changes.{AgreesOutside}

-- B holds exactly the nodes that a listing of S finds below b, its keys ascend, and the listing comes upon nothing
-- bad: what `consolidate_nodes_of` answers
pub record IsListedBlock (S : Contents) (v : MetadataRetrieveVersion) (b : Path) (B : Block) : Type 0 where
  pub exact : IsBlockOf (Nodes S v true b) b B
  pub ascending : IsAscending B
  pub clean : HasNothingBad S v true b

-- A store has one listed block below a base.
abbrev pub OneListedBlock : Type 0
OneListedBlock =
    (S : Contents) (v : MetadataRetrieveVersion) (b : Path) (B C : Block) → IsListedBlock S v b B
    → IsListedBlock S v b C → B ≡ C

-- Where the documents of one path below b changed, and nothing that is made anew there is bad, the listed block of
-- the store before, made current at the path, is the listed block of the store.
abbrev pub FreshIsListed : Type 0
FreshIsListed = (S T : Contents) (v : MetadataRetrieveVersion) (b p : Path) (B C : Block)
    → IsPath p → IsBelow b p → AgreesOutside p S T → IsListedBlock S v b B
    → IsFresh (meaning T v) b B p C → IsAscending C → (LeadsTo B b p → BadAnew T v p → ⊥) → IsListedBlock T v b C

-- Where the documents of b itself changed, the listed block stays.
abbrev pub ListedBlockStays : Type 0
ListedBlockStays =
    (S T : Contents) (v : MetadataRetrieveVersion) (b : Path) (B : Block) → AgreesOutside b S T → IsListedBlock S v b B
    → IsListedBlock T v b B
