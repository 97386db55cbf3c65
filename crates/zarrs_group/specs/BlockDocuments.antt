-- Zarr core specification 3.1, "Group metadata", with zarr-python's field `consolidated_metadata` and document
-- `.zmetadata` of version 2: the document that holds the block of a group, with any numbers.
-- <https://zarr-specs.readthedocs.io/en/latest/v3/core/index.html#group-metadata>
-- <https://zarr.readthedocs.io/en/stable/user-guide/consolidated_metadata/>
--     block_document g      the key and the tree of the document, where there is one
--     IsBlockDocument g key bytes      the key and the bytes are those of this document
--     HasNoBlockDocument g      there is no document that could be read
use Rattle.std.specs.Prelude.{◌≡◌, ◌<◌, ℕ, List, [], ◌∷◌, ◌++◌, Option, Some, None, IfSome}
use Rattle.serde_json.specs.Data.{Data, depth}
use Rattle.serde_json.specs.Read.{max_depth}
use Rattle.zarrs_store.specs.Segments.{Segments}
use Rattle.zarrs_path.specs.Keys.{zarr_json, zmetadata}
use Rattle.zarrs_path.specs.Paths.{Path}
use Rattle.zarrs_form.specs.DocumentTexts.{IsTextOf}
use Rattle.zarrs_meta.specs.GroupV3.{group_v3_tree}
use Rattle.zarrs_meta.specs.declared.node.GroupMetadata.{GroupMetadata}
use Rattle.zarrs_meta.specs.declared.node.GroupMetadata.TheVariants.{V3, V2}
use Rattle.zarrs_block.specs.Block.{Block}
use Rattle.zarrs_block.specs.Zmetadata.{zmetadata_tree}
use Rattle.zarrs_group.specs.AsciiTexts.{IsAsciiTextOf}
use Rattle.zarrs_group.specs.Groups.{GroupState}

-- the key and the tree of the document that holds the block, where the path has these metadata and this block beside
-- them: of version 3 `zarr.json`, which is the metadata; of version 2 `.zmetadata`, where there is a block, and else
-- none
abbrev pub document_with_block : Path → GroupMetadata → Option Block → Option (Segments × Data)
document_with_block p (V3 m) block = Some (p ++ zarr_json ∷ [], group_v3_tree m)
document_with_block p (V2 m) None = None
document_with_block p (V2 m) (Some B) = Some (p ++ zmetadata ∷ [], zmetadata_tree m B)

-- the key and the tree of the document that holds the block of the group
abbrev pub block_document : GroupState → Option (Segments × Data)
block_document g = document_with_block g.path g.metadata g.block

-- the bytes are what is written of the tree: of a group of version 2 in ASCII, as readers of its documents want them
abbrev pub IsDocumentText : GroupMetadata → List ℕ → Data → Type 0
IsDocumentText (V3 m) bytes d = IsTextOf bytes d
IsDocumentText (V2 m) bytes d = IsAsciiTextOf bytes d

-- the document that holds the block of the group stands at this key, and the bytes are what is written of its tree
abbrev pub IsBlockDocument : GroupState → Segments → List ℕ → Type 0
IsBlockDocument g key bytes =
    (d : Data) × (block_document g ≡ Some (key, d)) × IsDocumentText g.metadata bytes d

-- the document that holds the block of the group, where there is one, nests deeper than any that is read
abbrev pub HasNoBlockDocument : GroupState → Type 0
HasNoBlockDocument g = IfSome (block_document g) (λ e. max_depth < depth e.1)
