-- Zarr specification version 2, "Attributes": the document `.zattrs`.
-- <https://zarr-specs.readthedocs.io/en/latest/v2/v2.0.html#attributes>
use Rattle.std.specs.Prelude.{Bool, Result, Ok, refl}
use Rattle.serde_json.specs.Data.{Data, object}
use Rattle.zarrs_form.specs.Documents.{◌>>=◌, AsksFirst, document_in}
use Rattle.zarrs_form.specs.Forms.{fits_in}
use Rattle.zarrs_fault.specs.declared.fault.MetadataFault.{MetadataFault}
use Rattle.zarrs_fault.specs.declared.numbers.Numbers.{Numbers}
use Rattle.zarrs_meta.specs.declared.attributes.AttributesDocument.{AttributesDocument}

-- the attributes are all the members of a document that may hold these numbers
abbrev pub attributes_document_in : Numbers → Data → Result AttributesDocument MetadataFault
attributes_document_in numbers d = do
  ms ← document_in numbers d
  Ok (record { 0 = ms })

-- what is no object of such numbers has that fault
pub attributes_ask_first : AsksFirst attributes_document_in
attributes_ask_first numbers d fault h = rw h refl

-- attributes are written as the object that has them
abbrev pub attributes_tree : AttributesDocument → Data
attributes_tree a = object a.0

-- attributes could have come from a document that may hold these numbers where their own are among them
abbrev pub is_plain_attributes_in : Numbers → AttributesDocument → Bool
is_plain_attributes_in numbers a = fits_in numbers (object a.0)
