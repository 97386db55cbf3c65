-- Zarr core specification 3.1, "Group metadata", and the keys of Zarr version 2: what a path means as a group.
-- The lines are those of the meaning of a node, without the one for arrays of version 2.
-- <https://zarr-specs.readthedocs.io/en/latest/v3/core/index.html#group-metadata>
-- <https://zarr-specs.readthedocs.io/en/latest/v2/v2.0.html#groups>
-- <https://zarr-specs.readthedocs.io/en/latest/v2/v2.0.html#attributes>
use Rattle.std.specs.Prelude.{◌≡◌, [], ◌∷◌, ◌++◌, Option, Some, None, Result, Ok, Err}
use Rattle.zarrs_store.specs.Contents.{Contents}
use Rattle.zarrs_store.specs.declared.storage_error.StorageError.{StorageError}
use Rattle.zarrs_path.specs.Paths.{Path}
use Rattle.zarrs_path.specs.Keys.{zarr_json}
use Rattle.zarrs_config.specs.declared.version.MetadataRetrieveVersion.{MetadataRetrieveVersion}
use Rattle.zarrs_config.specs.declared.version.MetadataRetrieveVersion.TheVariants as version
use Rattle.zarrs_form.specs.Documents.{of_bytes}
use Rattle.zarrs_meta.specs.GroupV3.{group_v3_in}
use Rattle.zarrs_meta.specs.declared.group_v3.GroupMetadataV3.{GroupMetadataV3}
use Rattle.zarrs_meta.specs.declared.node.GroupMetadata.{GroupMetadata}
use Rattle.zarrs_meta.specs.declared.node.GroupMetadata.TheVariants.{V3}
use Rattle.zarrs_meta.specs.declared.node.NodeMetadata.TheVariants.{Group}
use Rattle.zarrs_meaning.specs.declared.node_create_error.NodeCreateError.TheVariants as refused
use Rattle.zarrs_meaning.specs.DocumentsAtKeys.{in_bytes, document_at}
use Rattle.zarrs_meaning.specs.Meaning.{Meaning, node, nothing, bad, zgroup_line}

-- `zarr.json` where it is there: a version 3 group, or a fault; else what the lines after it say
abbrev pub group_v3_line : Result (Option GroupMetadataV3) StorageError → Meaning → Meaning
group_v3_line (Ok None) after = after
group_v3_line (Ok (Some m)) after = node (Group (V3 m))
group_v3_line (Err e) after = bad (refused.StorageError e)

-- the line of `zarr.json`, read as a version 3 group alone, in the numbers of the store
unfoldable pub group_line : Contents → Path → Meaning → Meaning
group_line s p after =
    group_v3_line (document_at (of_bytes (group_v3_in s.numbers)) s.values (p ++ zarr_json ∷ [])) after

-- by default `zarr.json`, then `.zgroup` with `.zattrs`; as version 3 the first alone, as version 2 the second alone
unfoldable pub group_meaning : Contents → MetadataRetrieveVersion → Path → Meaning
group_meaning s version.Default p = group_line s p (zgroup_line (in_bytes s.numbers) s.values p nothing)
group_meaning s version.V3 p = group_line s p nothing
group_meaning s version.V2 p = zgroup_line (in_bytes s.numbers) s.values p nothing

-- p means the group with these metadata
abbrev pub MeansGroup : Contents → MetadataRetrieveVersion → Path → GroupMetadata → Type 0
MeansGroup s v p m = group_meaning s v p ≡ node (Group m)
