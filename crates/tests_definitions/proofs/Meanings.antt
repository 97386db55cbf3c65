-- Zarr core specification 3.1, "Metadata documents", and specification version 2: what paths mean in small stores, by the texts of their documents.
use Rattle.std.proofs.Common.{◌≡◌, ℕ, List, [], ◌∷◌, ◌++◌, codes, None, false, negsuc}
use Rattle.std.specs.FinMap.{from_entries}
use Rattle.std.specs.Float.{fin}
use Rattle.serde_json.specs.Data.{null, string, number, float, no_members, member}
use Rattle.zarrs_store.specs.Contents.{of_entries}
use Rattle.zarrs_store.specs.declared.storage_error.StorageError.TheVariants.{InvalidMetadata}
use Rattle.zarrs_path.specs.Paths.{Path}
use Rattle.zarrs_path.specs.Keys.{zarr_json, zarray, zgroup, zattrs}
use Rattle.zarrs_fault.specs.declared.fault.MetadataFault.TheVariants.{NotJson, WrongNodeType, MissingMember, UnsupportedNumber}
use Rattle.zarrs_fault.specs.declared.numbers.Numbers.TheVariants.{Any}
use Rattle.zarrs_form.specs.declared.data_type.DataTypeMetadataV2.TheVariants.{Simple}
use Rattle.zarrs_form.specs.declared.chunks.ArrayMetadataV2Order.TheVariants.{C}
use Rattle.zarrs_form.specs.declared.chunks.ChunkKeySeparator.TheVariants.{Dot}
use Rattle.zarrs_meta.specs.declared.node.GroupMetadata.TheVariants.{V3 as group_v3, V2 as group_v2}
use Rattle.zarrs_meta.specs.declared.node.ArrayMetadata.TheVariants.{V2 as array_v2}
use Rattle.zarrs_meta.specs.declared.node.NodeMetadata.{NodeMetadata}
use Rattle.zarrs_meta.specs.declared.node.NodeMetadata.TheVariants.{Group, Array}
use Rattle.zarrs_config.specs.declared.version.MetadataRetrieveVersion.TheVariants.{Default, V2}
use Rattle.zarrs_meaning.specs.declared.node_create_error.NodeCreateError.TheVariants.{StorageError as InStore, MetadataVersionMismatch}
use Rattle.zarrs_meaning.specs.Meaning.{node, nothing, bad, meaning}
use Rattle.tests_definitions.proofs.Stores.{Entries, quoted, documents_compute, listed, listed_in_any}

-- the path `/a`
abbrev pub a : Path
a = codes "a" ∷ []

-- ---- a group of version 3

-- the text of a document of a group of version 3
abbrev pub group_text : List ℕ
group_text = quoted (codes "{'zarr_format':3,'node_type':'group'}")

-- a group of version 3 with no attributes and no additional fields
abbrev pub plain_group : NodeMetadata
plain_group = Group (group_v3 (record { attributes = no_members; additional_fields = no_members }))

-- the entries of a store with the group `/a` alone
abbrev one_group : Entries (List ℕ)
one_group = (a ++ zarr_json ∷ [], group_text) ∷ []

-- `/a` means a group
pub a_is_a_group : meaning (of_entries one_group) Default a ≡ node plain_group
unfolding documents_compute
a_is_a_group = listed one_group Default a

-- a path with no document means nothing
b_is_nothing : meaning (of_entries one_group) Default (codes "b" ∷ []) ≡ nothing
unfolding documents_compute
b_is_nothing = listed one_group Default (codes "b" ∷ [])

-- so does the path above a node, where it has none
root_is_nothing : meaning (of_entries one_group) Default [] ≡ nothing
unfolding documents_compute
root_is_nothing = listed one_group Default []

-- by version 2 `zarr.json` says nothing
nothing_by_v2 : meaning (of_entries one_group) V2 a ≡ nothing
unfolding documents_compute
nothing_by_v2 = listed one_group V2 a

-- ---- documents of version 2

-- the text of a document `.zarray`
abbrev pub array_text : List ℕ
array_text = quoted (codes "{'zarr_format':2,'shape':[4,3],'chunks':[2,3],'dtype':'<f8','fill_value':null,'order':'C','compressor':null,'filters':null}")

-- the array of version 2 that this text describes
abbrev pub small_array : NodeMetadata
small_array = Array (array_v2 (record {
  shape = 4 ∷ 3 ∷ [];
  chunks = 2 ∷ 3 ∷ [];
  dtype = Simple (codes "<f8");
  fill_value = null;
  order = C;
  compressor = None;
  filters = None;
  dimension_separator = Dot;
  attributes = no_members;
  additional_fields = no_members;
}))

-- the entries of a store with `.zgroup` and `.zarray` at `/a`
abbrev both_v2 : Entries (List ℕ)
both_v2 = (a ++ zgroup ∷ [], quoted (codes "{'zarr_format':2}")) ∷ (a ++ zarray ∷ [], array_text) ∷ []

-- `.zarray` wins over `.zgroup`
array_wins : meaning (of_entries both_v2) Default a ≡ node small_array
unfolding documents_compute
array_wins = listed both_v2 Default a

-- a malformed `.zarray` is bad, whatever `.zgroup` says
abbrev bad_array : Entries (List ℕ)
bad_array = (a ++ zgroup ∷ [], quoted (codes "{'zarr_format':2}")) ∷ (a ++ zarray ∷ [], quoted (codes "{'zarr_format':2")) ∷ []

-- `/a` is bad in this store, since its `.zarray` is no JSON
cut_off_is_bad : meaning (of_entries bad_array) Default a ≡ bad (InStore (InvalidMetadata (a ++ zarray ∷ []) NotJson))
unfolding documents_compute
cut_off_is_bad = listed bad_array Default a

-- the attributes beside a version 2 group are its attributes
abbrev with_attributes : Entries (List ℕ)
with_attributes = (a ++ zgroup ∷ [], quoted (codes "{'zarr_format':2}")) ∷ (a ++ zattrs ∷ [], quoted (codes "{'units':'m'}")) ∷ []

-- in this store `/a` means a group with these attributes
attributes_beside : meaning (of_entries with_attributes) Default a
    ≡ node (Group (group_v2 (record { attributes = member (codes "units") (string (codes "m")) no_members; additional_fields = no_members })))
unfolding documents_compute
attributes_beside = listed with_attributes Default a

-- attributes alone mean nothing
abbrev attributes_alone : Entries (List ℕ)
attributes_alone = (a ++ zattrs ∷ [], quoted (codes "{'units':'m'}")) ∷ []

-- in this store `/a` means nothing
alone_is_nothing : meaning (of_entries attributes_alone) Default a ≡ nothing
unfolding documents_compute
alone_is_nothing = listed attributes_alone Default a

-- ---- bad documents of version 3

-- the store of `/a` with a text at its `zarr.json`
abbrev with_text : List ℕ → Entries (List ℕ)
with_text text = (a ++ zarr_json ∷ [], text) ∷ []

-- a document of version 2 at `zarr.json`
format_2_is_bad : meaning (of_entries (with_text (quoted (codes "{'zarr_format':2,'node_type':'group'}")))) Default a ≡ bad MetadataVersionMismatch
unfolding documents_compute
format_2_is_bad = listed (with_text (quoted (codes "{'zarr_format':2,'node_type':'group'}"))) Default a

-- one without `node_type`
no_type_is_bad : meaning (of_entries (with_text (quoted (codes "{'zarr_format':3}")))) Default a ≡ bad (InStore (InvalidMetadata (a ++ zarr_json ∷ []) WrongNodeType))
unfolding documents_compute
no_type_is_bad = listed (with_text (quoted (codes "{'zarr_format':3}"))) Default a

-- an array without `shape`
no_shape_is_bad : meaning (of_entries (with_text (quoted (codes "{'zarr_format':3,'node_type':'array'}")))) Default a
    ≡ bad (InStore (InvalidMetadata (a ++ zarr_json ∷ []) (MissingMember (codes "shape"))))
unfolding documents_compute
no_shape_is_bad = listed (with_text (quoted (codes "{'zarr_format':3,'node_type':'array'}"))) Default a

-- a number that is not whole
float_is_bad : meaning (of_entries (with_text (quoted (codes "{'zarr_format':3,'node_type':'group','x':0.5}")))) Default a
    ≡ bad (InStore (InvalidMetadata (a ++ zarr_json ∷ []) UnsupportedNumber))
unfolding documents_compute
float_is_bad = listed (with_text (quoted (codes "{'zarr_format':3,'node_type':'group','x':0.5}"))) Default a

-- where any number may stand it is a half, 1 by 2 to the -1
float_is_read : meaning (record { values = from_entries (with_text (quoted (codes "{'zarr_format':3,'node_type':'group','x':0.5}"))); numbers = Any }) Default a
    ≡ node (Group (group_v3 (record { attributes = no_members; additional_fields = member (codes "x") (number (float (fin false 1 (negsuc 0)))) no_members })))
unfolding documents_compute
float_is_read = listed_in_any (with_text (quoted (codes "{'zarr_format':3,'node_type':'group','x':0.5}"))) Default a
