-- Zarr core specification 3.1, "Metadata documents": the document of a node, as it is shown.
-- <https://zarr-specs.readthedocs.io/en/latest/v3/core/index.html#metadata>
--     IsShownDocument s b text      the text is the document of the node that b means
--     NestsTooDeepAt s b      that document nests deeper than any that is read
use Rattle.std.specs.Prelude.{◌≡◌, ◌<◌, ℕ, List, [], ◌∷◌, ◌++◌}
use Rattle.serde_json.specs.Data.{depth}
use Rattle.serde_json.specs.Read.{max_depth}
use Rattle.zarrs_fault.specs.Bytes.{newline}
use Rattle.zarrs_store.specs.Contents.{Contents}
use Rattle.zarrs_path.specs.Paths.{Path}
use Rattle.zarrs_config.specs.declared.version.MetadataRetrieveVersion.TheVariants.{Default}
use Rattle.zarrs_form.specs.DocumentTexts.{IsTextOf}
use Rattle.zarrs_meta.specs.Node.{node_tree}
use Rattle.zarrs_meta.specs.declared.node.NodeMetadata.{NodeMetadata}
use Rattle.zarrs_meaning.specs.Meaning.{meaning, node}

-- the text is what is written of the document of the node that b means, of version 2 with the attributes in it, and a
-- line end
abbrev pub IsShownDocument : Contents → Path → List ℕ → Type 0
IsShownDocument s b text =
    (m : NodeMetadata) × (bytes : List ℕ) × (meaning s Default b ≡ node m) × IsTextOf bytes (node_tree m)
    × (text ≡ bytes ++ newline ∷ [])

-- the document of the node that b means nests deeper than any that is read
abbrev pub NestsTooDeepAt : Contents → Path → Type 0
NestsTooDeepAt s b = (m : NodeMetadata) × (meaning s Default b ≡ node m) × (max_depth < depth (node_tree m))
