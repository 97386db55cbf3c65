-- Zarr specification version 2, "Groups": the document `.zgroup`.
-- <https://zarr-specs.readthedocs.io/en/latest/v2/v2.0.html#groups>
use Rattle.std.specs.Prelude.{ℕ, Bool, not, ◌&&◌, List, [], ◌∷◌, Option, Some, Result, Ok, codes, refl}
use Rattle.serde_json.specs.Data.{Data, object, no_members}
use Rattle.serde_json.specs.Find.{as_object}
use Rattle.zarrs_form.specs.Documents.{◌>>=◌, AsksFirst, document_in, format_of, no_member, optional_member, besides}
use Rattle.zarrs_form.specs.Documents.{has_own, is_empty}
use Rattle.zarrs_form.specs.Forms.{number_data, fits_in, unless, put_rows}
use Rattle.zarrs_fault.specs.declared.fault.MetadataFault.{MetadataFault}
use Rattle.zarrs_fault.specs.declared.numbers.Numbers.{Numbers}
use Rattle.zarrs_fault.specs.declared.numbers.Numbers.TheVariants.{Whole}
use Rattle.zarrs_meta.specs.declared.group_v2.GroupMetadataV2.{GroupMetadataV2}

-- `zarr_format` and the members of the table, with `shape`, which must be absent
abbrev pub group_v2_names : List (List ℕ)
group_v2_names = codes "zarr_format" ∷ codes "shape" ∷ codes "attributes" ∷ []

-- the group that a version 2 document means where it may hold these numbers, or its first fault
unfoldable pub group_v2_in : Numbers → Data → Result GroupMetadataV2 MetadataFault
group_v2_in numbers d = do
  ms ← document_in numbers d
  _ ← format_of 2 d
  _ ← no_member (codes "shape") d
  attributes ← optional_member (codes "attributes") no_members as_object d
  Ok (record { attributes = attributes; additional_fields = besides group_v2_names ms })

-- what is no object of such numbers has that fault
pub group_v2_asks_first : AsksFirst group_v2_in
unfolding group_v2_in
group_v2_asks_first numbers d fault h = rw h refl

-- ---- the written form

-- what is written at each name: empty attributes are not
abbrev pub group_v2_rows : GroupMetadataV2 → List (List ℕ × Option Data)
group_v2_rows m =
    (codes "zarr_format", Some (number_data 2))
    ∷ (codes "attributes", unless (is_empty m.attributes) (object m.attributes)) ∷ []

-- a group is written as the members of the table and the additional fields
abbrev pub group_v2_tree : GroupMetadataV2 → Data
group_v2_tree m = object (put_rows (group_v2_rows m) m.additional_fields)

-- a group could have come from a document that may hold these numbers: its own are among them, and no field has an
-- own name
abbrev pub is_plain_group_v2_in : Numbers → GroupMetadataV2 → Bool
is_plain_group_v2_in numbers m =
    fits_in numbers (object m.attributes) && fits_in numbers (object m.additional_fields)
    && not (has_own group_v2_names m.additional_fields)

-- a group could have come from a document whose numbers are whole
abbrev pub is_plain_group_v2 : GroupMetadataV2 → Bool
is_plain_group_v2 m = is_plain_group_v2_in Whole m
