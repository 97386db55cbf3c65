-- Zarr core specification 3.1, "Group metadata": what a group holds, and its metadata under the options.
-- <https://zarr-specs.readthedocs.io/en/latest/v3/core/index.html#group-metadata>
use Rattle.std.specs.Prelude.{◌≡◌, ℕ, List, ◌++◌, Option, None, codes}
use Rattle.serde_json.specs.Data.{Data, Members}
use Rattle.serde_json.specs.Written.{compact_text}
use Rattle.zarrs_path.specs.Paths.{Path, path_text}
use Rattle.zarrs_config.specs.Settings.{Settings}
use Rattle.zarrs_config.specs.declared.version.MetadataConvertVersion.{MetadataConvertVersion}
use Rattle.zarrs_config.specs.declared.version.MetadataConvertVersion.TheVariants as convert
use Rattle.zarrs_config.specs.declared.version.MetadataEraseVersion.{MetadataEraseVersion}
use Rattle.zarrs_meta.specs.declared.node.GroupMetadata.{GroupMetadata}
use Rattle.zarrs_meta.specs.declared.node.GroupMetadata.TheVariants.{V3, V2}
use Rattle.zarrs_meta.specs.GroupV3.{group_v3_tree}
use Rattle.zarrs_meta.specs.GroupV2.{group_v2_tree}
use Rattle.zarrs_convert.specs.Groups.{group_v2_to_v3}
use Rattle.zarrs_block.specs.Block.{Block}

-- what a group holds: its path, its metadata, the block that a version 2 group holds beside its metadata (one of
-- version 3 has it in them), and the versions that it is stored and erased by
pub record GroupState : Type 0 where
  pub path : Path
  pub metadata : GroupMetadata
  pub block : Option Block
  pub convert_version : MetadataConvertVersion
  pub erase_version : MetadataEraseVersion

-- the group is stored and erased by the versions of the configuration
abbrev pub HasChoicesOf : Settings → GroupState → Type 0
HasChoicesOf config g = (g.convert_version ≡ config.convert_version) × (g.erase_version ≡ config.erase_version)

-- the attributes of a group of either version
abbrev pub attributes_of_group : GroupMetadata → Members
attributes_of_group (V3 m) = m.attributes
attributes_of_group (V2 m) = m.attributes

-- the metadata of a group with these attributes in the place of its own, and all else as it was
abbrev pub with_attributes : GroupMetadata → Members → GroupMetadata
with_attributes (V3 m) attributes = V3 (record { attributes = attributes; additional_fields = m.additional_fields })
with_attributes (V2 m) attributes = V2 (record { attributes = attributes; additional_fields = m.additional_fields })

-- the metadata as version 3: those of version 2 are converted, those of version 3 stay
abbrev pub as_v3 : GroupMetadata → GroupMetadata
as_v3 (V3 m) = V3 m
as_v3 (V2 m) = V3 (group_v2_to_v3 m)

-- the metadata that are written by a version: as they are held, or as version 3
abbrev pub metadata_by_version : MetadataConvertVersion → GroupMetadata → GroupMetadata
metadata_by_version convert.Default m = m
metadata_by_version convert.V3 m = as_v3 m

-- what is beside the metadata as version 3: the block of a version 2 group is dropped, and a version 3 group stays
abbrev pub beside_as_v3 : GroupMetadata → Option Block → Option Block
beside_as_v3 (V3 m) block = block
beside_as_v3 (V2 m) block = None

-- the group with its metadata as version 3, without the block of a version 2 group, and all else as it was
abbrev pub group_as_v3 : GroupState → GroupState
group_as_v3 g = record {
  path = g.path;
  metadata = as_v3 g.metadata;
  block = beside_as_v3 g.metadata g.block;
  convert_version = g.convert_version;
  erase_version = g.erase_version;
}

-- what is written of the metadata in one document
abbrev pub group_tree : GroupMetadata → Data
group_tree (V3 m) = group_v3_tree m
group_tree (V2 m) = group_v2_tree m

-- `group at `, the path, ` with metadata ` and the metadata in the compact layout
abbrev pub group_text : Path → GroupMetadata → List ℕ
group_text p m = codes "group at " ++ (path_text p ++ (codes " with metadata " ++ compact_text (group_tree m)))
