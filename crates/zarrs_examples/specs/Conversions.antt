-- Zarr core specification 3.1, "Metadata": a hierarchy of version 2 as one of version 3, beside it in the same store.
-- <https://zarr-specs.readthedocs.io/en/latest/v3/core/index.html#metadata>
-- <https://zarr-specs.readthedocs.io/en/latest/v2/v2.0.html#metadata>
--     node_v3 m      the metadata as version 3, where they have that form
--     KeepsOthers b S T      only documents `zarr.json` of nodes of version 2 differ
--     RefusesNodes N e, RefusesConverting can_fail b S T e      why nodes were not converted; what that left of the
-- store
use Rattle.std.specs.Prelude.{◌≡◌, ◌≢◌, ◌⊎◌, ◌<◌, Bool, true, false, [], ◌∷◌, ◌++◌, Option, Some, None, Result, Ok, Err}
use Rattle.std.specs.FinMap.{get}
use Rattle.std.specs.declared.cmp.Ordering.TheVariants.{Less}
use Rattle.serde_json.specs.Data.{depth}
use Rattle.serde_json.specs.Read.{max_depth}
use Rattle.zarrs_store.specs.Segments.{Segments}
use Rattle.zarrs_store.specs.Contents.{Contents}
use Rattle.zarrs_store.specs.Faults.{IsStoreError}
use Rattle.zarrs_path.specs.Keys.{zarr_json}
use Rattle.zarrs_path.specs.Paths.{Path, path_cmp}
use Rattle.zarrs_meta.specs.Node.{is_plain_node, node_tree}
use Rattle.zarrs_meta.specs.NodeDocuments.{is_version_3}
use Rattle.zarrs_meta.specs.declared.array_v2.ArrayMetadataV2.{ArrayMetadataV2}
use Rattle.zarrs_meta.specs.declared.array_v3.ArrayMetadataV3.{ArrayMetadataV3}
use Rattle.zarrs_meta.specs.declared.node.ArrayMetadata.TheVariants as array
use Rattle.zarrs_meta.specs.declared.node.GroupMetadata.TheVariants as group
use Rattle.zarrs_meta.specs.declared.node.NodeMetadata.{NodeMetadata}
use Rattle.zarrs_meta.specs.declared.node.NodeMetadata.TheVariants as metadata
use Rattle.zarrs_config.specs.declared.version.MetadataRetrieveVersion.{MetadataRetrieveVersion}
use Rattle.zarrs_config.specs.declared.version.MetadataRetrieveVersion.TheVariants.{Default}
use Rattle.zarrs_meaning.specs.Refusals.{IsExcusedOr}
use Rattle.zarrs_meaning.specs.declared.node_create_error.NodeCreateError.{NodeCreateError}
use Rattle.zarrs_convert.specs.Arrays.{array_v3}
use Rattle.zarrs_convert.specs.Groups.{group_v2_to_v3}
use Rattle.zarrs_convert.specs.Refusals.{Refusal, ShowsRefusal}
use Rattle.zarrs_node.specs.Nodes.{NodesFrom}
use Rattle.zarrs_node.specs.Nodes.{ShowsBad}
use Rattle.zarrs_node.specs.OpeningNodes.{RefusesNode}
use Rattle.zarrs_examples.specs.declared.converter.ConvertError.{ConvertError}
use Rattle.zarrs_examples.specs.declared.converter.ConvertError.TheVariants.{Node, Array, Depth, Fraction, Storage}
use Rattle.zarrs_examples.specs.declared.converter.ConvertError.TheVariants.{OutOfMemory}
use Rattle.zarrs_meaning.specs.Meaning.{Pair}

-- the array that was made, if there is one
abbrev pub made_array_of : Result ArrayMetadataV3 Refusal → Option NodeMetadata
made_array_of (Ok c) = Some (metadata.Array (array.V3 c))
made_array_of (Err refusal) = None

-- the metadata as version 3: a group as its conversion, an array as its conversion where it has one, and what is of
-- version 3 as it is
abbrev pub node_v3 : NodeMetadata → Option NodeMetadata
node_v3 (metadata.Group (group.V3 m)) = Some (metadata.Group (group.V3 m))
node_v3 (metadata.Group (group.V2 m)) = Some (metadata.Group (group.V3 (group_v2_to_v3 m)))
node_v3 (metadata.Array (array.V3 m)) = Some (metadata.Array (array.V3 m))
node_v3 (metadata.Array (array.V2 m)) = made_array_of (array_v3 m)

-- every key has what it had, but those of the documents `zarr.json` of the nodes of version 2 at b and below it; and
-- the numbers are as they were
abbrev pub KeepsOthers : Path → Contents → Contents → Type 0
KeepsOthers b S T =
    (T.numbers ≡ S.numbers)
    × ((key : Segments)
    → ((e : Pair) → NodesFrom S Default b e → is_version_3 e.1 ≡ false → key ≢ e.0 ++ zarr_json ∷ [])
    → get T.values key ≡ get S.values key)

-- ---- refusals

-- the path b means no node, or something below it is bad
abbrev pub RefusesFrom : Contents → MetadataRetrieveVersion → Path → NodeCreateError → Type 0
RefusesFrom S v b e = RefusesNode S v b e ⊎ ShowsBad S v true b e

-- each pair of N whose path is before p has a form of version 3
abbrev pub ConvertBefore : (Pair → Type 0) → Path → Type 0
ConvertBefore N p = (e : Pair) → N e → path_cmp e.0 p ≡ Less → (c : NodeMetadata) × (node_v3 e.1 ≡ Some c)

-- the document of the metadata would nest deeper than a document that is read
abbrev pub NestsTooDeep : NodeMetadata → Type 0
NestsTooDeep m = max_depth < depth (node_tree m)

-- the metadata could not have come from a document whose numbers are whole, as those with a fraction
abbrev pub HasFraction : NodeMetadata → Type 0
HasFraction m = is_plain_node m ≡ false

-- why pairs N were not converted: the error names the first array that has no form of version 3, or a pair whose form
-- nests too deep or has a fraction; or
-- it is out of memory
abbrev pub RefusesNodes : (Pair → Type 0) → ConvertError → Type 0
RefusesNodes N (Node e) = ⊥
RefusesNodes N (Array p e) =
    (m : ArrayMetadataV2) × N (p, metadata.Array (array.V2 m)) × ShowsRefusal e (array_v3 m) × ConvertBefore N p
RefusesNodes N (Depth p) = (m c : NodeMetadata) × N (p, m) × (node_v3 m ≡ Some c) × NestsTooDeep c
RefusesNodes N (Fraction p) = (m c : NodeMetadata) × N (p, m) × (node_v3 m ≡ Some c) × HasFraction c
RefusesNodes N (Storage e) = ⊥
RefusesNodes N OutOfMemory = Unit {0}

-- a refused converting: the store is as it was, and b or something below it is refused, or does not convert; or else
-- the store refused
abbrev pub RefusesConverting : Bool → Path → Contents → Contents → ConvertError → Type 0
RefusesConverting can_fail b S T (Node e) = (T ≡ S) × IsExcusedOr can_fail (RefusesFrom S Default b) e
RefusesConverting can_fail b S T (Array p e) = (T ≡ S) × RefusesNodes (NodesFrom S Default b) (Array p e)
RefusesConverting can_fail b S T (Depth p) = (T ≡ S) × RefusesNodes (NodesFrom S Default b) (Depth p)
RefusesConverting can_fail b S T (Fraction p) = (T ≡ S) × RefusesNodes (NodesFrom S Default b) (Fraction p)
RefusesConverting can_fail b S T (Storage e) = IsStoreError can_fail e
RefusesConverting can_fail b S T OutOfMemory = T ≡ S

-- a refused erasing: b or something below it is refused by version 3, or it is out of memory, and the store is as it
-- was; or else the store refused
abbrev pub RefusesErasing : Bool → MetadataRetrieveVersion → Path → Contents → Contents → ConvertError → Type 0
RefusesErasing can_fail v b S T (Node e) = (T ≡ S) × IsExcusedOr can_fail (RefusesFrom S v b) e
RefusesErasing can_fail v b S T (Array p e) = ⊥
RefusesErasing can_fail v b S T (Depth p) = ⊥
RefusesErasing can_fail v b S T (Fraction p) = ⊥
RefusesErasing can_fail v b S T (Storage e) = IsStoreError can_fail e
RefusesErasing can_fail v b S T OutOfMemory = T ≡ S
