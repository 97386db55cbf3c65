-- Every array that reading gives is plain.
use Rattle.std.proofs.Common.{◌≡◌, ℕ, List, [], Bool, true, false, not, if◌then◌else◌, Some, None, Ok, IsTrue, codes, option_and_then, refl}
use Rattle.std.specs.Prelude.{IfSome}
use Rattle.std.specs.List.{list_all}
use Rattle.serde_json.specs.Data.{Data, null, boolean, number, string, array, object, no_members}
use Rattle.serde_json.specs.Find.{get, as_object, as_str, as_bool}
use Rattle.zarrs_form.specs.Documents.{besides, has_own, document_in, format_of, node_type_of, required_member, optional_member}
use Rattle.zarrs_form.specs.Forms.{number_u64, any, nullable, list_of, none_or, unless_absent, extension, extension_object, extension_fits_in, fits_in}
use Rattle.zarrs_meta.specs.ArrayV3 as v3
use Rattle.zarrs_meta.specs.ArrayV3.{array_v3_in, is_plain_array_v3_in}
use Rattle.zarrs_fault.specs.declared.numbers.Numbers.{Numbers}
use Rattle.zarrs_meta.specs.declared.array_v3.ArrayMetadataV3.{ArrayMetadataV3}
use Rattle.zarrs_form.specs.declared.extension.MetadataV3.{MetadataV3}
use Rattle.zarrs_form.specs.FormsV2.{codec_names, codec, codec_fits_in, data_type, data_type_fits_in, order, separator, has_zero, chunk_lengths}
use Rattle.zarrs_meta.specs.ArrayV2 as v2
use Rattle.zarrs_meta.specs.ArrayV2.{array_v2_in, is_plain_array_v2_in}
use Rattle.zarrs_meta.specs.declared.array_v2.ArrayMetadataV2.{ArrayMetadataV2}
use Rattle.zarrs_form.specs.declared.data_type.DataTypeMetadataV2.TheVariants.{Structured}
use Rattle.zarrs_form.specs.declared.chunks.ChunkKeySeparator.TheVariants.{Dot}
use Rattle.zarrs_form.proofs.MemoryLaws.{format_never, node_type_never, optional_never, required_never}
use Rattle.zarrs_form.proofs.PlainForms.{Reads, some_then, some_next, some_map, ok_then, ok_next, of_ok, both_true, false_not, get_fits, no_own-besides, fits-besides, Fitting, object_fitting, any_fitting, nullable_fitting, list_fitting, absent_fits, required_fits, optional_fits, IsDocument, document_fits, document_numbers}
use Rattle.zarrs_meta.proofs.PlainGroups.{attributes_fit}

-- ---- extensions

-- the numbers of an extension are among these
abbrev ExtensionFits : Numbers → MetadataV3 → Type 0
ExtensionFits numbers m = extension_fits_in numbers m ≡ true

-- the configuration of an extension has the numbers of its object
object_extension : (numbers : Numbers) (d : Data) → fits_in numbers d ≡ true → IfSome (extension_object d) (ExtensionFits numbers)
object_extension numbers d h =
    some_next (ExtensionFits numbers) (option_and_then as_str (get (codes "name") d)) _ (λ name.
    some_then (λ o. none_or (λ ms. fits_in numbers (object ms)) o ≡ true) (ExtensionFits numbers) (unless_absent None (nullable as_object) (get (codes "configuration") d)) _
    (absent_fits numbers None (nullable as_object) (none_or (λ ms. fits_in numbers (object ms))) (nullable_fitting numbers as_object (λ ms. fits_in numbers (object ms)) (object_fitting numbers)) refl
    (get (codes "configuration") d) (get_fits numbers (codes "configuration") d h))
    (λ configuration fine. some_next (ExtensionFits numbers) (unless_absent true as_bool (get (codes "must_understand") d)) _ (λ understood. fine)))

-- an extension that was read has only numbers that fit
pub extension_fitting : (numbers : Numbers) → Fitting numbers extension (extension_fits_in numbers)
extension_fitting numbers null h = object_extension numbers null h
extension_fitting numbers (boolean b) h = object_extension numbers (boolean b) h
extension_fitting numbers (number n) h = object_extension numbers (number n) h
extension_fitting numbers (string s) h = refl
extension_fitting numbers (array ds) h = object_extension numbers (array ds) h
extension_fitting numbers (object ms) h = object_extension numbers (object ms) h

-- ---- version 3

-- a version 3 array could have come from a document that may hold these numbers
abbrev pub PlainV3In : Numbers → ArrayMetadataV3 → Type 0
PlainV3In numbers m = IsTrue (is_plain_array_v3_in numbers m)

-- an extension that has to be there
one_extension : (numbers : Numbers) (name : List ℕ) (d : Data) → fits_in numbers d ≡ true → Reads (required_member name extension d) (ExtensionFits numbers)
one_extension numbers name d h = required_fits numbers extension (extension_fits_in numbers) (extension_fitting numbers) name d h

-- step by step, as the document is read
pub array_v3_plain_in : (numbers : Numbers) (d : Data) → Reads (array_v3_in numbers d) (PlainV3In numbers)
unfolding array_v3_in
array_v3_plain_in numbers d =
    let P = PlainV3In numbers in
    let E = ExtensionFits numbers in
    ok_then (IsDocument numbers d) P (document_in numbers d) _ (document_fits numbers d) (λ ms h.
    let fine = document_numbers numbers d ms h in
    ok_next P (format_of 3 d) _ (format_never 3 d) (λ _.
    ok_next P (node_type_of (codes "array") d) _ (node_type_never (codes "array") d) (λ _.
    ok_next P (required_member (codes "shape") (list_of number_u64) d) _ (required_never (list_of number_u64) (codes "shape") d) (λ shape.
    ok_then E P (required_member (codes "data_type") extension d) _ (one_extension numbers (codes "data_type") d fine) (λ data_type a.
    ok_then E P (required_member (codes "chunk_grid") extension d) _ (one_extension numbers (codes "chunk_grid") d fine) (λ chunk_grid b.
    ok_then E P (required_member (codes "chunk_key_encoding") extension d) _ (one_extension numbers (codes "chunk_key_encoding") d fine) (λ encoding c.
    ok_then (λ v. fits_in numbers v ≡ true) P (required_member (codes "fill_value") any d) _ (required_fits numbers any (λ v. fits_in numbers v) (any_fitting numbers) (codes "fill_value") d fine) (λ fill_value e.
    ok_then (λ ms. list_all (extension_fits_in numbers) ms ≡ true) P (required_member (codes "codecs") (list_of extension) d) _
    (required_fits numbers (list_of extension) (list_all (extension_fits_in numbers)) (list_fitting numbers extension (extension_fits_in numbers) (extension_fitting numbers)) (codes "codecs") d fine) (λ codecs f.
    ok_then (λ a. fits_in numbers (object a) ≡ true) P (optional_member (codes "attributes") no_members as_object d) _ (attributes_fit numbers d fine) (λ attributes g.
    ok_then (λ ms. list_all (extension_fits_in numbers) ms ≡ true) P (optional_member (codes "storage_transformers") [] (list_of extension) d) _
    (optional_fits numbers [] (list_of extension) (list_all (extension_fits_in numbers)) (list_fitting numbers extension (extension_fits_in numbers) (extension_fitting numbers)) refl (codes "storage_transformers") d fine)
    (λ transformers i.
    ok_next P (optional_member (codes "dimension_names") None (nullable (list_of (nullable as_str))) d) _
    (optional_never None (nullable (list_of (nullable as_str))) (codes "dimension_names") d) (λ names.
    let fields = besides v3.array_v3_names ms in
    both_true _ _ (both_true _ _ (both_true _ _ (both_true _ _ (both_true _ _ (both_true _ _ (both_true _ _ (both_true _ _ a b) c) e) f) g) i)
    (fits-besides numbers v3.array_v3_names ms h.1))
    (false_not (has_own v3.array_v3_names fields) (no_own-besides v3.array_v3_names ms))))))))))))))

-- a version 3 array that was read is plain in its numbers
pub read_array_v3_is_plain_in : (numbers : Numbers) (d : Data) (m : ArrayMetadataV3) → array_v3_in numbers d ≡ Ok m → IsTrue (is_plain_array_v3_in numbers m)
read_array_v3_is_plain_in numbers d m e = of_ok (PlainV3In numbers) (array_v3_in numbers d) m (array_v3_plain_in numbers d) e

-- ---- the forms of version 2

-- the configuration of a codec has the numbers of its object, and no member `id`
pub codec_fitting : (numbers : Numbers) → Fitting numbers codec (codec_fits_in numbers)
codec_fitting numbers d h =
    some_then (λ ms. fits_in numbers (object ms) ≡ true) (λ m. codec_fits_in numbers m ≡ true) (as_object d) _ (object_fitting numbers d h) (λ ms fine.
    some_next (λ m. codec_fits_in numbers m ≡ true) (option_and_then as_str (get (codes "id") d)) _ (λ id.
    let rest = besides codec_names ms in
    both_true (fits_in numbers (object rest)) (not (has_own codec_names rest)) (fits-besides numbers codec_names ms fine)
    (false_not (has_own codec_names rest) (no_own-besides codec_names ms))))

-- a data type that was read has only numbers that fit
pub data_type_fitting : (numbers : Numbers) → Fitting numbers data_type (data_type_fits_in numbers)
data_type_fitting numbers null h = tt
data_type_fitting numbers (boolean b) h = tt
data_type_fitting numbers (number n) h = tt
data_type_fitting numbers (string s) h = refl
data_type_fitting numbers (array ds) h =
    some_map (λ xs. list_all (λ d. fits_in numbers d) xs ≡ true) (λ t. data_type_fits_in numbers t ≡ true) Structured (list_of any (array ds))
    (list_fitting numbers any (λ d. fits_in numbers d) (any_fitting numbers) (array ds) h) (λ xs e. e)
data_type_fitting numbers (object ms) h = tt

-- lengths are read only where none is 0
lengths_by : (b : Bool) (ns : List ℕ) → has_zero ns ≡ b → IfSome (if b then None else Some ns) (λ xs. not (has_zero xs) ≡ true)
lengths_by true ns e = tt
lengths_by false ns e = false_not (has_zero ns) e

-- chunk lengths that were read have no 0
pub chunks_fitting : (numbers : Numbers) → Fitting numbers chunk_lengths (λ ns. not (has_zero ns))
chunks_fitting numbers d h = some_next (λ xs. not (has_zero xs) ≡ true) (list_of number_u64 d) _ (λ ns. lengths_by (has_zero ns) ns refl)

-- ---- version 2

-- a version 2 array could have come from a document that may hold these numbers
abbrev pub PlainV2In : Numbers → ArrayMetadataV2 → Type 0
PlainV2In numbers m = IsTrue (is_plain_array_v2_in numbers m)

-- step by step, as the document is read
pub array_v2_plain_in : (numbers : Numbers) (d : Data) → Reads (array_v2_in numbers d) (PlainV2In numbers)
unfolding array_v2_in
array_v2_plain_in numbers d =
    let P = PlainV2In numbers in
    ok_then (IsDocument numbers d) P (document_in numbers d) _ (document_fits numbers d) (λ ms h.
    let fine = document_numbers numbers d ms h in
    ok_next P (format_of 2 d) _ (format_never 2 d) (λ _.
    ok_next P (required_member (codes "shape") (list_of number_u64) d) _ (required_never (list_of number_u64) (codes "shape") d) (λ shape.
    ok_then (λ ns. not (has_zero ns) ≡ true) P (required_member (codes "chunks") chunk_lengths d) _
    (required_fits numbers chunk_lengths (λ ns. not (has_zero ns)) (chunks_fitting numbers) (codes "chunks") d fine) (λ chunks a.
    ok_then (λ t. data_type_fits_in numbers t ≡ true) P (required_member (codes "dtype") data_type d) _
    (required_fits numbers data_type (data_type_fits_in numbers) (data_type_fitting numbers) (codes "dtype") d fine) (λ dtype b.
    ok_then (λ v. fits_in numbers v ≡ true) P (required_member (codes "fill_value") any d) _ (required_fits numbers any (λ v. fits_in numbers v) (any_fitting numbers) (codes "fill_value") d fine) (λ fill_value c.
    ok_next P (required_member (codes "order") order d) _ (required_never order (codes "order") d) (λ layout.
    ok_then (λ o. none_or (codec_fits_in numbers) o ≡ true) P (optional_member (codes "compressor") None (nullable codec) d) _
    (optional_fits numbers None (nullable codec) (none_or (codec_fits_in numbers)) (nullable_fitting numbers codec (codec_fits_in numbers) (codec_fitting numbers)) refl (codes "compressor") d fine) (λ compressor e.
    ok_then (λ o. none_or (list_all (codec_fits_in numbers)) o ≡ true) P (optional_member (codes "filters") None (nullable (list_of codec)) d) _
    (optional_fits numbers None (nullable (list_of codec)) (none_or (list_all (codec_fits_in numbers)))
    (nullable_fitting numbers (list_of codec) (list_all (codec_fits_in numbers)) (list_fitting numbers codec (codec_fits_in numbers) (codec_fitting numbers))) refl (codes "filters") d fine) (λ filters f.
    ok_next P (optional_member (codes "dimension_separator") Dot separator d) _ (optional_never Dot separator (codes "dimension_separator") d) (λ between.
    ok_then (λ a. fits_in numbers (object a) ≡ true) P (optional_member (codes "attributes") no_members as_object d) _ (attributes_fit numbers d fine) (λ attributes g.
    let fields = besides v2.array_v2_names ms in
    both_true _ _ (both_true _ _ (both_true _ _ (both_true _ _ (both_true _ _ (both_true _ _ (both_true _ _ a b) c) e) f) g)
    (fits-besides numbers v2.array_v2_names ms h.1))
    (false_not (has_own v2.array_v2_names fields) (no_own-besides v2.array_v2_names ms)))))))))))))

-- a version 2 array that was read is plain in its numbers
pub read_array_v2_is_plain_in : (numbers : Numbers) (d : Data) (m : ArrayMetadataV2) → array_v2_in numbers d ≡ Ok m → IsTrue (is_plain_array_v2_in numbers m)
read_array_v2_is_plain_in numbers d m e = of_ok (PlainV2In numbers) (array_v2_in numbers d) m (array_v2_plain_in numbers d) e
