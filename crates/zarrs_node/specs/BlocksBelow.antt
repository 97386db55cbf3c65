-- Zarr core specification 3.1, "Group metadata", with zarr-python's field `consolidated_metadata` and document
-- `.zmetadata` of version 2: which block stands for the nodes below a base.
-- <https://zarr-specs.readthedocs.io/en/latest/v3/core/index.html#group-metadata>
-- <https://zarr.readthedocs.io/en/stable/user-guide/consolidated_metadata/>
--     zmetadata_at s b      the block that the document `.zmetadata` of b is, whose numbers may be those of s
--     HoldsZmetadata s b B      B holds the small store that this document is
--     block_at s b m      the block that stands for the nodes below b, where there is one
--     ExcusesBlock can_fail m policy e      why it was not found out
use Rattle.std.specs.Prelude.{◌≡◌, ◌≢◌, ℕ, [], ◌∷◌, ◌++◌, Bool, List, Option, Some, Ok, option_and_then}
use Rattle.std.specs.Result.{result_ok}
use Rattle.std.specs.FinMap.{get}
use Rattle.serde_json.specs.Data.{Data, Members}
use Rattle.zarrs_store.specs.Contents.{Contents}
use Rattle.zarrs_path.specs.Keys.{zmetadata}
use Rattle.zarrs_path.specs.Paths.{Path}
use Rattle.zarrs_form.specs.Documents.{json_of, of_bytes}
use Rattle.zarrs_meta.specs.declared.node.GroupMetadata.TheVariants.{V2, V3}
use Rattle.zarrs_meta.specs.declared.node.NodeMetadata.{NodeMetadata}
use Rattle.zarrs_meta.specs.declared.node.NodeMetadata.TheVariants.{Group, Array}
use Rattle.zarrs_block.specs.Block.{Block}
use Rattle.zarrs_config.specs.declared.version.UseConsolidatedMetadata.{UseConsolidatedMetadata}
use Rattle.zarrs_config.specs.declared.version.UseConsolidatedMetadata.TheVariants.{Never}
use Rattle.zarrs_block.specs.Policy.{node_block, LacksBlockMemory}
use Rattle.zarrs_meaning.specs.Refusals.{IsExcused}
use Rattle.zarrs_block.specs.Zmetadata.{zmetadata_in, zmetadata_members_in, HoldsStoreIn, IsCleanIn}
use Rattle.zarrs_meaning.specs.declared.node_create_error.NodeCreateError.{NodeCreateError}

-- the block that the document `.zmetadata` of b is, where it is there and reads as one in the numbers of the store
abbrev pub zmetadata_at : Contents → Path → Option Block
zmetadata_at s b =
    option_and_then (λ bytes. result_ok (of_bytes (zmetadata_in s.numbers) bytes)) (get s.values (b ++ zmetadata ∷ []))

-- the document `.zmetadata` of b has members, in the numbers of the store, and the block has exactly the paths that
-- mean nodes in the small store that these are, in which nothing below b is bad
abbrev pub HoldsZmetadata : Contents → Path → Block → Type 0
HoldsZmetadata s b B =
    (bytes : List ℕ) × (d : Data) × (ms : Members) × (get s.values (b ++ zmetadata ∷ []) ≡ Some bytes)
    × (json_of bytes ≡ Some d) × (zmetadata_members_in s.numbers d ≡ Ok ms) × HoldsStoreIn s.numbers ms B
    × IsCleanIn s.numbers ms

-- the block that stands for the nodes below b in a store, where b has these metadata: of a version 2 group the one
-- beside its documents, else the one that they hold, in the numbers of the store
abbrev pub block_at : Contents → Path → NodeMetadata → Option Block
block_at s b (Group (V2 g)) = zmetadata_at s b
block_at s b m = node_block s.numbers m

-- the block was not found out: of a version 2 group, whose document is looked for in the store, for the fault of a
-- store that can fail or out of
-- memory; of a version 3 group out of memory for its field; of an array never; and never where no block is used
abbrev pub ExcusesBlock : Bool → NodeMetadata → UseConsolidatedMetadata → NodeCreateError → Type 0
ExcusesBlock can_fail (Group (V2 g)) policy e = (policy ≢ Never) × IsExcused can_fail e
ExcusesBlock can_fail (Group (V3 g)) policy e = LacksBlockMemory (Group (V3 g)) policy e
ExcusesBlock can_fail (Array a) policy e = ⊥
