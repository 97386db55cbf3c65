-- Zarr core specification 3.1, "Storage keys" and "Metadata documents", and specification version 2, "Metadata",
-- "Groups" and "Attributes": the documents of a node that are not read, and what a run of writing leaves beside them.
-- <https://zarr-specs.readthedocs.io/en/latest/v3/core/index.html#storage-keys>
-- <https://zarr-specs.readthedocs.io/en/latest/v2/v2.0.html#metadata>
-- <https://zarr.readthedocs.io/en/stable/user-guide/consolidated_metadata/>
--     name_of_file file      the name of a document
--     HasFile s p file      the store has this document of p
--     main_document m, passed_over m      the document that makes the node; those that are not read beside it
--     left_over m      what a run of writing leaves at the node
--     HasMisplacedBlock s p m      the node is an array and has a block
--     looked_at m      the documents of which there can be something to tell
use Rattle.std.specs.Prelude.{◌≡◌, ◌≢◌, ℕ, List, [], ◌∷◌, ◌++◌, Some}
use Rattle.serde_json.specs.Data.{Data, null}
use Rattle.serde_json.specs.Find.{get_member}
use Rattle.zarrs_store.specs.Contents.{Contents, HasKey}
use Rattle.zarrs_path.specs.Paths.{Path}
use Rattle.zarrs_path.specs.Keys.{zarr_json, zarray, zgroup, zattrs, zmetadata}
use Rattle.zarrs_write.specs.ReplacingDocuments.{temporary}
use Rattle.zarrs_meta.specs.declared.node.ArrayMetadata.TheVariants.{V3 as array_v3, V2 as array_v2}
use Rattle.zarrs_meta.specs.declared.node.GroupMetadata.TheVariants.{V3 as group_v3, V2 as group_v2}
use Rattle.zarrs_meta.specs.declared.node.NodeMetadata.{NodeMetadata}
use Rattle.zarrs_meta.specs.declared.node.NodeMetadata.TheVariants.{Group, Array}
use Rattle.zarrs_notes.specs.Demands.{block_name}
use Rattle.zarrs_notes.specs.declared.file.NodeFile.{NodeFile}
use Rattle.zarrs_notes.specs.declared.file.NodeFile.TheVariants.{ZarrJson, Zarray, Zgroup, Zattrs, Zmetadata}
use Rattle.zarrs_notes.specs.declared.file.NodeFile.TheVariants.{NewZarrJson, NewZmetadata}

-- the name of a document; the last two are those of the files that are written in the place of a document
abbrev pub name_of_file : NodeFile → List ℕ
name_of_file ZarrJson = zarr_json
name_of_file Zarray = zarray
name_of_file Zgroup = zgroup
name_of_file Zattrs = zattrs
name_of_file Zmetadata = zmetadata
name_of_file NewZarrJson = temporary zarr_json
name_of_file NewZmetadata = temporary zmetadata

-- the store has this document of p, whatever stands there
abbrev pub HasFile : Contents → Path → NodeFile → Type 0
HasFile s p file = HasKey s.values (p ++ name_of_file file ∷ [])

-- the document that makes the node
abbrev pub main_document : NodeMetadata → NodeFile
main_document (Group (group_v3 g)) = ZarrJson
main_document (Group (group_v2 g)) = Zgroup
main_document (Array (array_v3 a)) = ZarrJson
main_document (Array (array_v2 a)) = Zarray

-- the documents that are not read beside it by who goes by all versions: beside `zarr.json` those of version 2,
-- beside `.zarray` the `.zgroup`, and beside `.zgroup` none. The
-- `.zmetadata` beside `.zarray` is a misplaced block
abbrev pub passed_over : NodeMetadata → List NodeFile
passed_over (Group (group_v3 g)) = Zarray ∷ Zgroup ∷ Zattrs ∷ Zmetadata ∷ []
passed_over (Group (group_v2 g)) = []
passed_over (Array (array_v3 a)) = Zarray ∷ Zgroup ∷ Zattrs ∷ Zmetadata ∷ []
passed_over (Array (array_v2 a)) = Zgroup ∷ []

-- what a run of writing leaves at the node where it is broken off: of a group the file that was to take the place of
-- the document with its block. No document of an array is replaced
abbrev pub left_over : NodeMetadata → List NodeFile
left_over (Group (group_v3 g)) = NewZarrJson ∷ []
left_over (Group (group_v2 g)) = NewZmetadata ∷ []
left_over (Array a) = []

-- the node is an array and has a block: one of version 3 the field, which is not null, and one of version 2 the
-- document `.zmetadata`
abbrev pub HasMisplacedBlock : Contents → Path → NodeMetadata → Type 0
HasMisplacedBlock s p (Group g) = ⊥
HasMisplacedBlock s p (Array (array_v3 a)) =
    (d : Data) × (get_member block_name a.additional_fields ≡ Some d) × (d ≢ null)
HasMisplacedBlock s p (Array (array_v2 a)) = HasFile s p Zmetadata

-- the documents of the node of which there can be something to tell: what is passed over, what is left over, and the
-- block of a version 2 array
abbrev pub looked_at : NodeMetadata → List NodeFile
looked_at (Group (group_v3 g)) = Zarray ∷ Zgroup ∷ Zattrs ∷ Zmetadata ∷ NewZarrJson ∷ []
looked_at (Group (group_v2 g)) = NewZmetadata ∷ []
looked_at (Array (array_v3 a)) = Zarray ∷ Zgroup ∷ Zattrs ∷ Zmetadata ∷ []
looked_at (Array (array_v2 a)) = Zgroup ∷ Zmetadata ∷ []
