-- Zarr core specification 3.1, "Group metadata": the document of a version 3 group.
-- <https://zarr-specs.readthedocs.io/en/latest/v3/core/index.html#group-metadata>
use Rattle.std.specs.Prelude.{ℕ, Bool, not, ◌&&◌, if◌then◌else◌, List, [], ◌∷◌, Option, Some, Result, Ok, codes, refl}
use Rattle.serde_json.specs.Data.{Data, string, object, no_members}
use Rattle.serde_json.specs.Find.{get, get_member, as_object}
use Rattle.zarrs_form.specs.Documents.{◌>>=◌, AsksFirst, document_in, format_of, node_type_of, optional_member, besides}
use Rattle.zarrs_form.specs.Documents.{has_own, is_null, is_empty}
use Rattle.zarrs_form.specs.Forms.{number_data, fits_in, unless, put_rows}
use Rattle.zarrs_fault.specs.declared.fault.MetadataFault.{MetadataFault}
use Rattle.zarrs_fault.specs.declared.numbers.Numbers.{Numbers}
use Rattle.zarrs_meta.specs.declared.group_v3.GroupMetadataV3.{GroupMetadataV3}

-- `zarr_format`, `node_type` and the member of the table
abbrev pub group_v3_names : List (List ℕ)
group_v3_names = codes "zarr_format" ∷ codes "node_type" ∷ codes "attributes" ∷ []

-- the names of members that are no additional fields: the own names, and `consolidated_metadata` where it is null,
-- which counts as absent
abbrev pub read_names : Data → List (List ℕ)
read_names d =
    if is_null (get (codes "consolidated_metadata") d)
    then codes "zarr_format" ∷ codes "node_type" ∷ codes "attributes" ∷ codes "consolidated_metadata" ∷ []
    else group_v3_names

-- the group that a version 3 document means where it may hold these numbers, or its first fault
unfoldable pub group_v3_in : Numbers → Data → Result GroupMetadataV3 MetadataFault
group_v3_in numbers d = do
  ms ← document_in numbers d
  _ ← format_of 3 d
  _ ← node_type_of (codes "group") d
  attributes ← optional_member (codes "attributes") no_members as_object d
  Ok (record { attributes = attributes; additional_fields = besides (read_names d) ms })

-- what is no object of such numbers has that fault
pub group_v3_asks_first : AsksFirst group_v3_in
unfolding group_v3_in
group_v3_asks_first numbers d fault h = rw h refl

-- ---- the written form

-- what is written at each name: empty attributes are not
abbrev pub group_v3_rows : GroupMetadataV3 → List (List ℕ × Option Data)
group_v3_rows m =
    (codes "zarr_format", Some (number_data 3)) ∷ (codes "node_type", Some (string (codes "group")))
    ∷ (codes "attributes", unless (is_empty m.attributes) (object m.attributes)) ∷ []

-- a group is written as the members of the table and the additional fields
abbrev pub group_v3_tree : GroupMetadataV3 → Data
group_v3_tree m = object (put_rows (group_v3_rows m) m.additional_fields)

-- a group could have come from a document that may hold these numbers: its own are among them, no field has an own
-- name, and no field `consolidated_metadata` is null
abbrev pub is_plain_group_v3_in : Numbers → GroupMetadataV3 → Bool
is_plain_group_v3_in numbers m =
    fits_in numbers (object m.attributes) && fits_in numbers (object m.additional_fields)
    && not (has_own group_v3_names m.additional_fields)
    && not (is_null (get_member (codes "consolidated_metadata") m.additional_fields))
