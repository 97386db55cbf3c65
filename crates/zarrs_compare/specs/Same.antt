-- Zarr core specification 3.1, "Metadata documents", and specification version 2, "Metadata": when two nodes have the
-- same metadata.
-- <https://zarr-specs.readthedocs.io/en/latest/v3/core/index.html#metadata>
-- <https://zarr-specs.readthedocs.io/en/latest/v2/v2.0.html#metadata>
--     without_block      the metadata of a node, what is said of the nodes below it left out
--     IsSame             that two nodes have the same metadata
use Rattle.std.specs.Prelude.{◌≡◌, [], ◌∷◌, codes}
use Rattle.zarrs_form.specs.Documents.{besides}
use Rattle.zarrs_meta.specs.declared.node.GroupMetadata.TheVariants.{V3 as group_v3, V2 as group_v2}
use Rattle.zarrs_meta.specs.declared.node.NodeMetadata.{NodeMetadata}
use Rattle.zarrs_meta.specs.declared.node.NodeMetadata.TheVariants.{Group, Array}

-- the metadata: of an array as they are, and of a group without its additional field `consolidated_metadata`. In that
-- field a version 3 group has its block, and zarr-python 3 writes one into the entries of version 2 groups too
abbrev pub without_block : NodeMetadata → NodeMetadata
without_block (Group (group_v3 m)) =
    Group (group_v3 (record m { additional_fields = besides (codes "consolidated_metadata" ∷ []) m.additional_fields }))
without_block (Group (group_v2 m)) =
    Group (group_v2 (record m { additional_fields = besides (codes "consolidated_metadata" ∷ []) m.additional_fields }))
without_block (Array m) = Array m

-- two metadata are the same: they are equal as data once the field `consolidated_metadata` of groups is left out. Equal
-- are two whole numbers of one value, and two others of one sign and one value; a whole number, as `1`, is none of the
-- others, as `1.0`
abbrev pub IsSame : NodeMetadata → NodeMetadata → Type 0
IsSame m n = without_block m ≡ without_block n
