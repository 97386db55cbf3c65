-- Zarr core specification 3.1, "Metadata": the steps of converting a hierarchy, node by node.
-- <https://zarr-specs.readthedocs.io/en/latest/v3/core/index.html#metadata>
use Rattle.std.specs.Prelude.{◌≡◌, ℕ, true, false, Option, Some, None}
use Rattle.std.specs.Global.{Vec}
use Rattle.zarrs_store.specs.Segments.{Segments}
use Rattle.zarrs_path.specs.Paths.{Path}
use Rattle.zarrs_meta.specs.NodeDocuments.{is_version_3}
use Rattle.zarrs_meta.specs.declared.array_v2.ArrayMetadataV2.{ArrayMetadataV2}
use Rattle.zarrs_meta.specs.declared.node.ArrayMetadata.TheVariants as array
use Rattle.zarrs_meta.specs.declared.node.NodeMetadata.{NodeMetadata}
use Rattle.zarrs_meta.specs.declared.node.NodeMetadata.TheVariants as metadata
use Rattle.zarrs_convert.specs.Arrays.{array_v3}
use Rattle.zarrs_convert.specs.Refusals.{ShowsRefusal}
use Rattle.zarrs_examples.specs.MapsOfNodes.{IsDocumentFor}
use Rattle.zarrs_examples.specs.Conversions.{node_v3, HasFraction, NestsTooDeep}
use Rattle.zarrs_examples.specs.declared.converter.ConvertError.{ConvertError}
use Rattle.zarrs_examples.specs.declared.converter.ConvertError.TheVariants.{Node, Array, Depth, Fraction, Storage}
use Rattle.zarrs_examples.specs.declared.converter.ConvertError.TheVariants.{OutOfMemory}
use Rattle.zarrs_meaning.specs.Meaning.{Pair}

-- metadata of version 2 are converted, and those of version 3 left
abbrev pub IsConverted : NodeMetadata → Option NodeMetadata → Type 0
IsConverted m None = is_version_3 m ≡ true
IsConverted m (Some c) = (is_version_3 m ≡ false) × (node_v3 m ≡ Some c)

-- a node of version 2 has this document of version 3, and one of version 3 none more
abbrev pub HasDocument : Pair → Option (Segments × Vec ℕ) → Type 0
HasDocument e None = is_version_3 e.1 ≡ true
HasDocument e (Some d) = (is_version_3 e.1 ≡ false) × IsDocumentFor node_v3 e d

-- the metadata at p are of an array that has no form of version 3, or their form nests too deep or has a fraction,
-- and the error names p; or it is out of memory
abbrev pub RefusesMetadataAt : Path → NodeMetadata → ConvertError → Type 0
RefusesMetadataAt p m (Node e) = ⊥
RefusesMetadataAt p m (Array q e) =
    (q ≡ p) × (a : ArrayMetadataV2) × (m ≡ metadata.Array (array.V2 a)) × ShowsRefusal e (array_v3 a)
RefusesMetadataAt p m (Depth q) = (q ≡ p) × (c : NodeMetadata) × (node_v3 m ≡ Some c) × NestsTooDeep c
RefusesMetadataAt p m (Fraction q) = (q ≡ p) × (c : NodeMetadata) × (node_v3 m ≡ Some c) × HasFraction c
RefusesMetadataAt p m (Storage e) = ⊥
RefusesMetadataAt p m OutOfMemory = Unit {0}

-- the metadata at p nest too deep or have a fraction, and the error names p; or it is out of memory
abbrev pub RefusesDocumentAt : Path → NodeMetadata → ConvertError → Type 0
RefusesDocumentAt p m (Node e) = ⊥
RefusesDocumentAt p m (Array q e) = ⊥
RefusesDocumentAt p m (Depth q) = (q ≡ p) × NestsTooDeep m
RefusesDocumentAt p m (Fraction q) = (q ≡ p) × HasFraction m
RefusesDocumentAt p m (Storage e) = ⊥
RefusesDocumentAt p m OutOfMemory = Unit {0}
