-- The additional fields of a version 3 document: Zarr core specification 3.1, "Group metadata" and "Array metadata",
-- on names that are in no table.
-- <https://zarr-specs.readthedocs.io/en/latest/v3/core/index.html#group-metadata>
-- <https://zarr-specs.readthedocs.io/en/latest/v3/core/index.html#array-metadata>
use Rattle.std.specs.Prelude.{Bool, true, false, [], ◌∷◌, codes, option_and_then, unwrap_or}
use Rattle.serde_json.specs.Data.{Data, boolean, object, put}
use Rattle.serde_json.specs.Find.{get, as_bool}
use Rattle.zarrs_form.specs.Documents.{besides}

-- every field must be understood, but for an object whose member `must_understand` is false
abbrev pub must_understand : Data → Bool
must_understand d = unwrap_or (option_and_then as_bool (get (codes "must_understand") d)) true

-- the field that is made of a value: an object that need not be understood has the member `must_understand` set to
-- false,
-- an object that must be understood has no such member, and any other value stays as it is
abbrev pub field_data : Data → Bool → Data
field_data (object ms) false = object (put (codes "must_understand") (boolean false) ms)
field_data (object ms) true = object (besides (codes "must_understand" ∷ []) ms)
field_data d understood = d

-- an object that need not be understood gains the member, which takes memory
abbrev pub gains_member : Data → Bool → Bool
gains_member (object ms) false = true
gains_member d understood = false
