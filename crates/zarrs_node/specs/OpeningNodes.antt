-- Zarr core specification 3.1, "Group metadata", with zarr-python's field `consolidated_metadata`: what an opened node
-- shows, and what refuses its opening.
-- <https://zarr-specs.readthedocs.io/en/latest/v3/core/index.html#group-metadata>
-- <https://zarr.readthedocs.io/en/stable/user-guide/consolidated_metadata/>
--     choice s policy b m      that a block is used for the nodes below b, or that they are listed, or that the want
-- of a block is refused
--     ShowsChosen, IsCleanChosen      what a tree below b shows by such a choice; that nothing refuses it
--     PassesOver      the paths that it passes over by such a choice
--     ShowsNode, IsCleanNode      what the tree of an opened node shows; that nothing refuses it
--     RefusesChosen, RefusesNode, RefusesOpening      what refuses it; what refuses the node itself; the first of all
-- reasons against opening a text
use Rattle.std.specs.Prelude.{◌≡◌, ℕ, Bool, true, List, ◌⊎◌}
use Rattle.zarrs_store.specs.Contents.{Contents}
use Rattle.zarrs_path.specs.Paths.{Path, IsPath, path_text}
use Rattle.zarrs_path.specs.PathErrors.{RefusesPath}
use Rattle.zarrs_path.specs.declared.node_path.NodePathError.TheVariants.{Invalid}
use Rattle.zarrs_meta.specs.declared.node.NodeMetadata.{NodeMetadata}
use Rattle.zarrs_meta.specs.declared.node.NodeMetadata.TheVariants.{Group, Array}
use Rattle.zarrs_config.specs.declared.version.MetadataRetrieveVersion.{MetadataRetrieveVersion}
use Rattle.zarrs_config.specs.declared.version.UseConsolidatedMetadata.{UseConsolidatedMetadata}
use Rattle.zarrs_block.specs.Block.{Entries, HasValidKeys}
use Rattle.zarrs_block.specs.BlockExpansion.{NamesBadKey}
use Rattle.zarrs_block.specs.Policy.{Choice, use_block, list_store, refuse, block_to_use, RefusesUse}
use Rattle.zarrs_meaning.specs.Refusals.{IsMissing}
use Rattle.zarrs_meaning.specs.declared.node_create_error.NodeCreateError.{NodeCreateError}
use Rattle.zarrs_meaning.specs.declared.node_create_error.NodeCreateError.TheVariants.{NodePathError}
use Rattle.zarrs_meaning.specs.Meaning.{meaning, node, nothing, bad}
use Rattle.zarrs_node.specs.Forest.{Forest, none, Shows, path_of, metadata_of, below_of}
use Rattle.zarrs_node.specs.declared.node.Node.{Node}
use Rattle.zarrs_node.specs.BlocksBelow.{block_at}
use Rattle.zarrs_node.specs.Nodes.{Nodes, Ignored, HasNothingBad, ShowsBad}
use Rattle.zarrs_node.specs.Reach.{Kept}

-- ---- by a choice of a block, of a listing, or to refuse the want of a block

-- f shows what stands below b: of the block that is used its entries between which and b all entries are groups, else
-- the nodes that a listing finds; and nothing is shown where the want of a block is refused
abbrev pub ShowsChosen : Contents → MetadataRetrieveVersion → Choice → Bool → Path → Forest → Type 0
ShowsChosen s v (use_block B) recursive b f = Shows f b (Kept (Entries B b) recursive b)
ShowsChosen s v list_store recursive b f = Shows f b (Nodes s v recursive b)
ShowsChosen s v refuse recursive b f = ⊥

-- what stands below b is not refused: each key of the block that is used is valid, or a listing comes upon nothing bad;
-- and the want of a block is not refused
abbrev pub IsCleanChosen : Contents → MetadataRetrieveVersion → Choice → Bool → Path → Type 0
IsCleanChosen s v (use_block B) recursive b = HasValidKeys B
IsCleanChosen s v list_store recursive b = HasNothingBad s v recursive b
IsCleanChosen s v refuse recursive b = ⊥

-- the refusal names the first bad part of a key of the block that is used, or is what a listing comes upon, or is that
-- of the want of a block
abbrev pub RefusesChosen : Contents → MetadataRetrieveVersion → Choice → Bool → Path → NodeCreateError → Type 0
RefusesChosen s v (use_block B) recursive b e = NamesBadKey B e
RefusesChosen s v list_store recursive b e = ShowsBad s v recursive b e
RefusesChosen s v refuse recursive b e = RefusesUse b refuse e

-- an opening passes over the path p: where the store is listed, a path without documents that the listing ignores; none
-- where a block is used, or where the want of one is refused
abbrev pub PassesOver : Contents → MetadataRetrieveVersion → Choice → Path → Path → Type 0
PassesOver s v (use_block B) b p = ⊥
PassesOver s v list_store b p = Ignored s v true b p
PassesOver s v refuse b p = ⊥

-- ---- of a node

-- the choice of a block for the nodes below b, where b has these metadata
abbrev pub choice : Contents → UseConsolidatedMetadata → Path → NodeMetadata → Choice
choice s policy b m = block_to_use (block_at s b m) policy

-- below an array there is nothing, and f shows what stands below a group
abbrev pub ShowsBelow : Contents → MetadataRetrieveVersion → UseConsolidatedMetadata → Path → NodeMetadata → Forest
    → Type 0
ShowsBelow s v policy b (Array a) f = f ≡ none
ShowsBelow s v policy b (Group g) f = ShowsChosen s v (choice s policy b (Group g)) true b f

-- what stands below a group is not refused
abbrev pub IsCleanBelow : Contents → MetadataRetrieveVersion → UseConsolidatedMetadata → Path → NodeMetadata → Type 0
IsCleanBelow s v policy b (Array a) = Unit {0}
IsCleanBelow s v policy b (Group g) = IsCleanChosen s v (choice s policy b (Group g)) true b

-- what stands below a group is refused with e; below an array nothing is refused
abbrev pub RefusesBelow : Contents → MetadataRetrieveVersion → UseConsolidatedMetadata → Path → NodeMetadata
    → NodeCreateError → Type 0
RefusesBelow s v policy b (Array a) e = ⊥
RefusesBelow s v policy b (Group g) e = RefusesChosen s v (choice s policy b (Group g)) true b e

-- the tree of the node shows what stands below it
abbrev pub ShowsNode : Contents → MetadataRetrieveVersion → UseConsolidatedMetadata → Node → Type 0
ShowsNode s v policy n = ShowsBelow s v policy (path_of n) (metadata_of n) (below_of n)

-- what stands below the node is not refused
abbrev pub IsCleanNode : Contents → MetadataRetrieveVersion → UseConsolidatedMetadata → Node → Type 0
IsCleanNode s v policy n = IsCleanBelow s v policy (path_of n) (metadata_of n)

-- the path b means nothing, and the error names it; or it is bad with that error
abbrev pub RefusesNode : Contents → MetadataRetrieveVersion → Path → NodeCreateError → Type 0
RefusesNode s v b e = ((meaning s v b ≡ nothing) × IsMissing b e) ⊎ (meaning s v b ≡ bad e)

-- the text is no path, and the error holds it
abbrev pub RefusesText : List ℕ → NodeCreateError → Type 0
RefusesText bs (NodePathError (Invalid text)) = RefusesPath bs (Invalid text)
RefusesText bs _ = ⊥

-- the text is no path; or it is that of a path b, and b itself is refused; or b means a node, and what stands below
-- it is refused
abbrev pub RefusesOpening : Contents → MetadataRetrieveVersion → UseConsolidatedMetadata → List ℕ → NodeCreateError
    → Type 0
RefusesOpening s v policy bs e =
    RefusesText bs e
    ⊎ ((b : Path) × IsPath b × (path_text b ≡ bs)
    × (RefusesNode s v b e ⊎ ((m : NodeMetadata) × (meaning s v b ≡ node m) × RefusesBelow s v policy b m e)))
