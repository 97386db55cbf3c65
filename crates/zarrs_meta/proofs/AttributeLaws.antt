-- What holds of attributes as a document of their own.
use Rattle.std.proofs.Common.{◌≡◌, false, Ok, IsTrue, refl}
use Rattle.serde_json.specs.Written.{has_float}
use Rattle.zarrs_meta.specs.Attributes.{attributes_document_in, attributes_tree, is_plain_attributes_in}
use Rattle.zarrs_fault.specs.declared.numbers.Numbers.{Numbers}
use Rattle.zarrs_fault.specs.declared.numbers.Numbers.TheVariants.{Whole, Any}
use Rattle.zarrs_meta.specs.declared.attributes.AttributesDocument.{AttributesDocument}
use Rattle.zarrs_form.proofs.AttributeLaws.{not_true}

-- plain attributes are written with numbers that fit
pub attributes_tree_no_float : (a : AttributesDocument) → IsTrue (is_plain_attributes_in Whole a) → has_float (attributes_tree a) ≡ false
attributes_tree_no_float a plain = not_true (has_float (attributes_tree a)) plain

-- attributes that are plain in these numbers and were written read as those attributes in them
pub attributes_document_again_in : (numbers : Numbers) (a : AttributesDocument) → IsTrue (is_plain_attributes_in numbers a) → attributes_document_in numbers (attributes_tree a) ≡ Ok a
attributes_document_again_in Whole a plain = rw (attributes_tree_no_float a plain) refl
attributes_document_again_in Any a plain = refl
