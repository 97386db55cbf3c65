-- Zarr core specification 3.1, "Group metadata": a version 2 group as a group of version 3.
-- <https://zarr-specs.readthedocs.io/en/latest/v3/core/index.html#group-metadata>
use Rattle.serde_json.specs.Data.{no_members}
use Rattle.zarrs_meta.specs.declared.group_v3.GroupMetadataV3.{GroupMetadataV3}
use Rattle.zarrs_meta.specs.declared.group_v2.GroupMetadataV2.{GroupMetadataV2}

-- the version 3 group that has the attributes of this one, and no other field
abbrev pub group_v2_to_v3 : GroupMetadataV2 → GroupMetadataV3
group_v2_to_v3 m = record { attributes = m.attributes; additional_fields = no_members }
