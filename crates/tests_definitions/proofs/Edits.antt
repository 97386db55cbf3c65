-- Zarr core specification 3.1, "Group metadata", and the keys of Zarr version 2: the edits that storing and erasing a group make, by examples.
use Rattle.std.proofs.Common.{◌≡◌, [], ◌∷◌, ◌++◌, codes, refl, None}
use Rattle.serde_json.specs.Data.{object, Members, no_members, member, string}
use Rattle.zarrs_path.specs.Keys.{zarr_json, zgroup, zattrs, zmetadata}
use Rattle.zarrs_config.specs.declared.version.MetadataEraseVersion.TheVariants.{Default, All}
use Rattle.zarrs_meta.specs.GroupV2.{group_v2_tree}
use Rattle.zarrs_meta.specs.GroupV3.{group_v3_tree}
use Rattle.zarrs_meta.specs.declared.group_v2.GroupMetadataV2.{GroupMetadataV2}
use Rattle.zarrs_meta.specs.declared.group_v3.GroupMetadataV3.{GroupMetadataV3}
use Rattle.zarrs_meta.specs.declared.node.GroupMetadata.TheVariants.{V2, V3}
use Rattle.zarrs_group.specs.Edits.{set, remove}
use Rattle.zarrs_group.specs.StoredTexts.{pretty_text}
use Rattle.zarrs_group.specs.StoringGroups.{store_edits, erase_edits}
use Rattle.tests_definitions.proofs.Meanings.{a}

-- a group of version 3 with nothing in it
abbrev bare_v3 : GroupMetadataV3
bare_v3 = record { attributes = no_members; additional_fields = no_members }

-- one of version 2
abbrev bare_v2 : GroupMetadataV2
bare_v2 = record { attributes = no_members; additional_fields = no_members }

-- attributes
abbrev units : Members
units = member (codes "units") (string (codes "m")) no_members

-- version 3 is one document
stores_v3 : store_edits a (V3 bare_v3) None ≡ set (a ++ zarr_json ∷ []) (pretty_text (group_v3_tree bare_v3)) ∷ []
stores_v3 = refl

-- version 2 without attributes and without a block removes `.zmetadata` first, then `.zattrs`, and sets `.zgroup`
stores_v2 : store_edits a (V2 bare_v2) None ≡ remove (a ++ zmetadata ∷ []) ∷ remove (a ++ zattrs ∷ []) ∷ set (a ++ zgroup ∷ []) (pretty_text (group_v2_tree bare_v2)) ∷ []
stores_v2 = refl

-- attributes have a document of their own, and are not in `.zgroup`
stores_attributes : store_edits a (V2 (record { attributes = units; additional_fields = no_members })) None
    ≡ remove (a ++ zmetadata ∷ []) ∷ set (a ++ zattrs ∷ []) (pretty_text (object units)) ∷ set (a ++ zgroup ∷ []) (pretty_text (group_v2_tree bare_v2)) ∷ []
stores_attributes = refl

-- by default a group of version 3 is erased by its own document alone
erases_v3 : erase_edits a Default (V3 bare_v3) ≡ remove (a ++ zarr_json ∷ []) ∷ []
erases_v3 = refl

-- and one of version 2 by its three
erases_v2 : erase_edits a Default (V2 bare_v2) ≡ remove (a ++ zgroup ∷ []) ∷ remove (a ++ zattrs ∷ []) ∷ remove (a ++ zmetadata ∷ []) ∷ []
erases_v2 = refl

-- all documents of either version, where it is asked for
erases_all : erase_edits [] All (V3 bare_v3) ≡ remove (zarr_json ∷ []) ∷ remove (zgroup ∷ []) ∷ remove (zattrs ∷ []) ∷ remove (zmetadata ∷ []) ∷ []
erases_all = refl
