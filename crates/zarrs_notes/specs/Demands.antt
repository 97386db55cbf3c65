-- Zarr core specification 3.1, "Extension points" and "Group metadata", with zarr-python's field
-- `consolidated_metadata`: the fields of a group that must be understood.
-- <https://zarr-specs.readthedocs.io/en/latest/v3/core/index.html#extension-points>
-- <https://zarr-specs.readthedocs.io/en/latest/v3/core/index.html#group-metadata>
-- <https://zarr.readthedocs.io/en/stable/user-guide/consolidated_metadata/>
--     fields_of m      the additional fields of a version 3 group
--     field_finding p name      what there is to tell of such a field of the group p
use Rattle.std.specs.Prelude.{ℕ, List, bytes_eq, codes, if◌then◌else◌}
use Rattle.serde_json.specs.Data.{Members, no_members}
use Rattle.zarrs_path.specs.Paths.{Path}
use Rattle.zarrs_meta.specs.declared.node.GroupMetadata.TheVariants.{V3, V2}
use Rattle.zarrs_meta.specs.declared.node.NodeMetadata.{NodeMetadata}
use Rattle.zarrs_meta.specs.declared.node.NodeMetadata.TheVariants.{Group, Array}
use Rattle.zarrs_notes.specs.declared.finding.NodeFinding.{NodeFinding}
use Rattle.zarrs_notes.specs.declared.finding.NodeFinding.TheVariants.{UnknownField, DemandingBlock}

-- the additional fields of a version 3 group; no other node has any of which opening a group asks
abbrev pub fields_of : NodeMetadata → Members
fields_of (Group (V3 g)) = g.additional_fields
fields_of (Group (V2 g)) = no_members
fields_of (Array a) = no_members

-- the name of the field that is a block
abbrev pub block_name : List ℕ
block_name = codes "consolidated_metadata"

-- what there is to tell of a field of the group p that must be understood: of the block it is told as of a block
abbrev pub field_finding : Path → List ℕ → NodeFinding
field_finding p name = if bytes_eq name block_name then DemandingBlock p else UnknownField name
